-- Every step can be made: what the code does for any record, area, index and work buffer, as a total function, keeps the promise.
-- What is proved of the definitions in `specs/Steps.antt`.
use Rattle.std.specs.Prelude.{ℕ, ◌+◌, ◌*◌, ◌-◌, ◌≡◌, Bool, ltb, length, get_or, set, replicate, None, Some}
use Rattle.std.proofs.Math.Path.{refl}
use Rattle.std.proofs.Common.{◌∙◌, length-set}
use Rattle.std.proofs.Math.Bool.{true, false}
use mathlib.Core.List.{List, [], ◌∷◌}
use Rattle.std.proofs.Math.Option.{Option, none, some}
use Rattle.std.proofs.Math.ListN.{length-replicate}
use Rattle.segment.specs.Choice.{pick}
use Rattle.segment.specs.Layout.{Layout}
use Rattle.segment.specs.Entry.{Found as Entered, entry, end, damage, entry_at, key_of}
use Rattle.record.specs.Answers.{stores_left}
use Rattle.record.specs.Switch.{new_layout}
use Rattle.record.specs.declared.Commit.{Commit}
use Rattle.record.specs.declared.Pending.{Pending}
use Rattle.record.specs.declared.Pending.TheVariants.{Idle, Append, NewHead, Clean, Forget}
use Rattle.record.specs.declared.Refusal.{Refusal}
use Rattle.record.specs.declared.Record.{Record}
use Rattle.model.specs.Log.{Placed, place_of, segment_of}
use Rattle.model.specs.Causes.{first_cause}
use Rattle.model.specs.Refused.{step_causes}
use Rattle.model.specs.Promises.{lent_lengths, StepPromise}
use Rattle.index.specs.Insert.{Insertion, inserted_at, inserted, Tally, counted, over, tallied, insert_next, insert_all}
use Rattle.index.specs.Search.{version_at, search_for}
use Rattle.index.specs.Build.{finished, built}
use Rattle.index.specs.declared.Found.{Found}
use Rattle.index.specs.declared.Inserted.{Inserted}
use Rattle.telling.specs.Agree.{tested_store}
use Rattle.stepping.specs.Finish.{After, found_in, finish_entry, finish_append, finish_head, clean_map, finish_clean, finish_forget, finish_with, advanced}
use Rattle.stepping.proofs.StepLaws.{refused-promise, bad-promise, stored-promise}
use Rattle.telling.specs.Next.{NextStore}
use Rattle.witness.specs.Steps.{Cells, Moved, stepped_by, stepped_unless, stored_by}

-- ---- the index stays as long as it was, whatever the record

length_inserted : (area cells : List ℕ) (place version : ℕ) (f : Found) →
    length (inserted_at area cells place version f).cells ≡ length cells
unfolding inserted_at pick
length_inserted area cells place version (Found.At i) = go (ltb (version_at area (get_or cells i 0 - 1)) version)
  where
    go : (t : Bool) →
        length
        (pick {A = Insertion} t (record { answer = Inserted.Newer (get_or cells i 0 - 1); cells = set cells i (place + 1) }) (record { answer = Inserted.Older; cells = cells })).cells
        ≡ length cells
    go true = length-set cells i (place + 1)
    go false = refl
length_inserted area cells place version (Found.Free i) = length-set cells i (place + 1)
length_inserted area cells place version Found.Full = refl

module _ (area : List ℕ) (S m : ℕ) where
  tallied-cells : (a : Inserted) (cells : List ℕ) (n : ℕ) → length cells ≡ m → Cells m (tallied a cells n)
  unfolding tallied pick
  tallied-cells Inserted.New cells n e = go (ltb (n + 1) (length cells))
    where
      go : (t : Bool) → Cells m (pick t (counted cells (n + 1)) over)
      go true = e
      go false = tt
  tallied-cells (Inserted.Newer old) cells n e = e
  tallied-cells Inserted.Older cells n e = e
  tallied-cells Inserted.Full cells n e = tt

  next-cells : (x : Placed) (t : Tally) → Cells m t → Cells m (insert_next area S x t)
  unfolding insert_next
  next-cells x (counted cells n) e =
      tallied-cells (inserted area cells (place_of S x) (key_of x.entry) x.entry.version).answer
      (inserted area cells (place_of S x) (key_of x.entry) x.entry.version).cells n
      (length_inserted area cells (place_of S x) x.entry.version (search_for area cells (key_of x.entry)) ∙ e)
  next-cells x over e = tt

  all-cells : (xs : List Placed) (t : Tally) → Cells m t → Cells m (insert_all area S xs t)
  unfolding insert_all
  all-cells [] t e = e
  all-cells (x ∷ xs) t e = all-cells xs (insert_next area S x t) (next-cells x t e)

  finished-cells : (t : Tally) → Cells m t → length (finished m t).cells ≡ m
  unfolding finished
  finished-cells (counted cells n) e = e
  finished-cells over e = length-replicate m 0

length-built : (L : Layout) (area : List ℕ) (S map : ℕ) (order : List ℕ) (m : ℕ) → length (built area S map order m).cells ≡ m
length-built L area S map order m =
    finished-cells area S m _ (all-cells area S m _ (counted (replicate m 0) 0) (length-replicate m 0))

module _ (L : Layout) (r : Record) (area cells : List ℕ) where
  abbrev Long : After → Type 0
  Long a = length a.cells ≡ length cells

  -- by a test, one of two that are as long
  either-long : (t : Bool) (a b : After) → Long a → Long b → Long (pick t a b)
  unfolding pick
  either-long true a b p q = p
  either-long false a b p q = q

  -- an entry of the head's layout, or of a new head's
  found-long : (W : Layout) (done : Commit) (slot place : ℕ) (f : Entered) → Long (found_in W r done area cells slot place f)
  unfolding found_in
  found-long W done slot place (entry e) = length_inserted area cells place r.next.0 (search_for area cells (key_of e))
  found-long W done slot place end = refl
  found-long W done slot place damage = refl

  entry-long : (W : Layout) (done : Commit) (slot offset : ℕ) → Long (finish_entry W r done area cells slot offset)
  unfolding finish_entry
  entry-long W done slot offset = found-long W done slot (slot * r.size + offset) (entry_at W (segment_of area r.size slot) offset)

  finish-long : (p : Pending) → Long (finish_with L r area cells p)
  unfolding finish_with finish_append finish_head finish_clean finish_forget
  finish-long Idle = refl
  finish-long (Append n k) = entry-long L _ _ _
  finish-long (NewHead i n k) = entry-long (new_layout r) _ _ _
  finish-long (Clean i v n k) = length-built L area r.size (clean_map r i v) _ (length cells)
  finish-long (Forget i v n k) = length-built L area r.size (clean_map r i v) _ (length cells)

  advanced-long : Long (advanced L r area cells)
  unfolding advanced
  advanced-long = either-long (ltb 1 (stores_left r.pending)) _ _ refl (finish-long r.pending)

-- ---- the promise

module _ (L : Layout) (r : Record) (area cells work : List ℕ) where
  abbrev Keeps : Moved → Type 0
  Keeps x = StepPromise L r area x.area cells x.after.cells work x.after.stepped

  abbrev cause : Option Refusal
  cause = first_cause (step_causes L r (lent_lengths area cells work))

  stored-made : cause ≡ none → (x : NextStore) → tested_store L (length area) work r ≡ x → Keeps (stored_by L r area cells x)
  unfolding stored_by
  stored-made first (Some s) e =
      stored-promise L r area cells work first s.place s.byte e refl (advanced-long L r (set area s.place s.byte) cells)
  stored-made first None e = bad-promise L r area cells work first e

  unless-made : (c : Option Refusal) → cause ≡ c → Keeps (stepped_unless L r area cells work c)
  unfolding stepped_unless
  unless-made none e = stored-made e (tested_store L (length area) work r) refl
  unless-made (some c) e = refused-promise L r area cells work c e refl

  pub step-made : Keeps (stepped_by L r area cells work)
  step-made = unless-made cause refl
