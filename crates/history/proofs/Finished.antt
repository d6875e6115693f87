-- What the last store of an operation does to the record is what it does to the book.
use Prim.Native.Nat.{ℕ, ◌+◌, ◌<◌}
use native.Mathlib.Omega.{arith}
use mathlib.Core.Path.{◌≡◌, refl, sym, ap, ◌∙◌}
use mathlib.Core.Bool.{Bool, true, false}
use mathlib.Core.Logic.{◌⊎◌, inl, inr}
use mathlib.Core.List.{List}
use mathlib.Core.Option.{Option, none, some}
use lib.Dec.{eqb}
use lib.ListN.{length}
use borrow.Author.Tests.{eqb-true}
use Rattle.segment.specs.Choice.{pick}
use Rattle.segment.proofs.Choice.{both_left, both_right}
use Rattle.segment.specs.Layout.{Layout, entry_size}
use Rattle.segment.specs.Entry.{Entry}
use Rattle.segment.specs.declared.Key.{Key}
use Rattle.record.specs.Switch.{new_layout}
use Rattle.record.specs.declared.Record.{Record}
use Rattle.model.specs.Log.{Placed, same_key, same_keys}
use Rattle.model.specs.Operations.{Operation, write, delete, clean, log_now, written_entry, tombstone_entry, fits_head, no_room, appended_record, headed_record, forgotten_record, finished_record, told_version}
use Rattle.laws.specs.Operated.{map_after}
use Rattle.laws.specs.OperationsKept.{deleted-next}
use Rattle.history.specs.Book.{Kept, Book, finish, version_for}
use Rattle.history.proofs.Invariant.{book_entry}

-- nothing is pending once an operation is finished
pub finish-idle : (b : Book) (o : Operation) → (finish b o).pending ≡ none
unfolding finish
finish-idle b (write k value) = refl
finish-idle b (delete k) = refl
finish-idle b (clean victims) = refl

module _ (L : Layout) (before : List ℕ) (idle : Record) (b : Book) (same : idle.next.0 ≡ b.next) where
  -- the record's next version and the book's
  entry_next : (t : Bool) (e : Entry) (log : List Placed) → (pick t (appended_record L idle log e) (headed_record (new_layout idle) idle log e)).next.0 ≡ b.next + 1
  unfolding pick
  entry_next true e log = rw same refl
  entry_next false e log = rw same refl

  pub finished-next : (o : Operation) → (finished_record L before idle o).next.0 ≡ (finish b o).next
  unfolding finished_record finish
  finished-next (write k value) = entry_next (fits_head L idle (written_entry idle k value)) (written_entry idle k value) (log_now before idle)
  finished-next (delete k) = deleted-next L before idle k ∙ ap (λ (n : ℕ). n + 1) same
  finished-next (clean victims) = same

  -- the version that the last step tells
  pub told_same : (o : Operation) → told_version idle o ≡ version_for b o
  unfolding told_version version_for
  told_same (write k value) = same
  told_same (delete k) = same
  told_same (clean victims) = refl

  pub told_below : (o : Operation) → 0 < b.next → told_version idle o < (finish b o).next
  unfolding told_version finish
  told_below (write k value) h = omega (arith, same)
  told_below (delete k) h = omega (arith, same)
  told_below (clean victims) h = h

  pub next_grows : (o : Operation) (t : ℕ) → t < b.next → t < (finish b o).next
  unfolding finish
  next_grows (write k value) t h = omega arith
  next_grows (delete k) t h = omega arith
  next_grows (clean victims) t h = h

  -- the map and the book's keys
  written :
      (k j : Key) (value : List ℕ) (old : Option Entry) (x : Option Kept) → old ≡ book_entry j x → (t : Bool) → same_keys j k ≡ t →
      pick t (some (written_entry idle k value)) old ≡ book_entry j (pick t (some (record { version = b.next; value = value })) x)
  unfolding pick book_entry same_keys
  written k j value old x e true p =
      let ht : j.table ≡ k.table = eqb-true j.table k.table (both_left (eqb j.table k.table) (eqb j.key k.key) p) in
      let hk : j.key ≡ k.key = eqb-true j.key k.key (both_right (eqb j.table k.table) (eqb j.key k.key) p) in
      ap
      (λ (y : Entry). some y)
      (λ i.
      record {
        table = sym ht i;
        key = sym hk i;
        version = same i;
        value = some value;
      })
  written k j value old x e false p = e

  deleted :
      (j : Key) (old : Option Entry) (x : Option Kept) → old ≡ book_entry j x → (t : Bool) → pick t none old ≡ book_entry j (pick t none x)
  unfolding pick book_entry
  deleted j old x e true = refl
  deleted j old x e false = e

  pub finished-map :
      (o : Operation) (old : Key → Option Entry) → ((j : Key) → old j ≡ book_entry j (b.keys j)) → (j : Key) →
      map_after idle o old j ≡ book_entry j ((finish b o).keys j)
  unfolding map_after finish same_key
  finished-map (write k value) old e j = written k j value (old j) (b.keys j) (e j) (same_keys j k) refl
  finished-map (delete k) old e j = deleted j (old j) (b.keys j) (e j) (same_keys j k)
  finished-map (clean victims) old e j = e j

-- ---- the edition and the switch of the record then

-- the head's edition, or that of a new head
pub finished-edition :
    (L : Layout) (before : List ℕ) (idle : Record) (o : Operation) →
    ((finished_record L before idle o).edition ≡ idle.edition) ⊎ ((finished_record L before idle o).edition ≡ new_layout idle)
unfolding finished_record pick
finished-edition L before idle (write k value) = go (fits_head L idle (written_entry idle k value))
  where
    go : (t : Bool) →
        ((pick t (appended_record L idle (log_now before idle) (written_entry idle k value)) (headed_record (new_layout idle) idle (log_now before idle) (written_entry idle k value))).edition ≡ idle.edition)
        ⊎ ((pick t (appended_record L idle (log_now before idle) (written_entry idle k value)) (headed_record (new_layout idle) idle (log_now before idle) (written_entry idle k value))).edition ≡ new_layout idle)
    go true = inl refl
    go false = inr refl
finished-edition L before idle (delete k) = go (no_room L idle (entry_size L 0)) (fits_head L idle (tombstone_entry idle k))
  where
    rec : Bool → Bool → Record
    rec full fits =
        pick full (forgotten_record (new_layout idle) before idle k)
        (pick fits (appended_record L idle (log_now before idle) (tombstone_entry idle k)) (headed_record (new_layout idle) idle (log_now before idle) (tombstone_entry idle k)))

    go : (full fits : Bool) → ((rec full fits).edition ≡ idle.edition) ⊎ ((rec full fits).edition ≡ new_layout idle)
    go true fits = inr refl
    go false true = inl refl
    go false false = inr refl
finished-edition L before idle (clean victims) = inr refl

-- no operation changes the switch
pub finished-switch : (L : Layout) (before : List ℕ) (idle : Record) (o : Operation) → (finished_record L before idle o).switched ≡ idle.switched
unfolding finished_record pick
finished-switch L before idle (write k value) = go (fits_head L idle (written_entry idle k value))
  where
    go : (t : Bool) →
        (pick t (appended_record L idle (log_now before idle) (written_entry idle k value)) (headed_record (new_layout idle) idle (log_now before idle) (written_entry idle k value))).switched ≡ idle.switched
    go true = refl
    go false = refl
finished-switch L before idle (delete k) = go (no_room L idle (entry_size L 0)) (fits_head L idle (tombstone_entry idle k))
  where
    go : (full fits : Bool) →
        (pick full (forgotten_record (new_layout idle) before idle k)
        (pick fits (appended_record L idle (log_now before idle) (tombstone_entry idle k)) (headed_record (new_layout idle) idle (log_now before idle) (tombstone_entry idle k)))).switched ≡ idle.switched
    go true fits = refl
    go false true = refl
    go false false = refl
finished-switch L before idle (clean victims) = refl
