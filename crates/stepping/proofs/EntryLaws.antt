-- Laws of: An entry that has come to stand goes into the index: the rule holds for the new log, and the number of keys is the new record's.
use Prim.Native.Nat.{ℕ, ◌+◌, ◌*◌, ◌-◌, ◌≤◌, ◌<◌}
use Rattle.std.specs.Prelude.{◌≡◌, Bool, length, drop, Ok, Some}
use Rattle.std.proofs.Math.Path.{refl, ap, subst}
use Rattle.std.proofs.Common.{sym, ◌∙◌, length-take, lt-ltb, ltb-true, ltb-false}
use Rattle.std.proofs.Math.Bool.{true, false}
use mathlib.Core.List.Memᴰ
use mathlib.Core.List.{List, ◌∷◌}
use Rattle.std.proofs.Math.Option.{Option, none, some}
use native.Mathlib.Omega.{arith}
use Rattle.std.proofs.Math.Dec.{ltb}
use Rattle.segment.proofs.Choice.{pick_true}
use Rattle.segment.specs.Layout.{Layout}
use Rattle.segment.specs.Entry.{key_of}
use Rattle.segment.proofs.EntryLaws.{found-fits}
use Rattle.slot_map.specs.Bit.{named}
use Rattle.record.specs.Committed.{committed}
use Rattle.record.specs.declared.Commit.{Commit}
use Rattle.record.specs.Answered.{StepAnswer}
use Rattle.record.specs.declared.Progress.{Progress}
use Rattle.record.specs.declared.Record.{Record}
use Rattle.model.specs.Log.{Placed, place_of, segment_of, views_of, log_of, latest, object_only, present, keys_of}
use Rattle.model.specs.Counts.{more_bytes, object_size, without_live, entry_counts}
use Rattle.model.specs.Index.{IndexRule}
use Rattle.model.specs.Recovery.{recovered}
use Rattle.laws.specs.Members.{In, same-sym, Added, added-same}
use Rattle.laws.specs.Latest.{Apart, apart-same, latest-some}
use Rattle.laws.specs.RecoverLaws.{recovered-case, placed-found}
use Rattle.index.specs.Area.{AllIn}
use Rattle.index.specs.Search.{most_cells}
use Rattle.index.specs.Insert.{Insertion, inserted, counted, over, tallied}
use Rattle.index.specs.InsertLaws.{Indexed, Tells}
use Rattle.index.proofs.InsertLaws.{replaces, comes-new, tells-next, tells-same, tally-new, tally-over, tally-newer, tally-older, tally-full, insert-next}
use Rattle.index.proofs.BuildLaws.{found-in-area}
use Rattle.counting.specs.CountingLaws.{lost-latest}
use Rattle.index.specs.Build.{Built}
use Rattle.index.specs.declared.Inserted.{Inserted}
use Rattle.stepping.specs.Finish.{keys_after, answered_with, lost_by, counts_after, found_in, finish_entry}
use Rattle.stepping.specs.EntryLaws.{AllFound, Finished}

-- ---- what a tally tells of one insertion

module _ (S m : ℕ) (log : List Placed) (few : length (keys_of log) < m) where
  -- the number of keys, and the rule for the cells
  abbrev Counted : Inserted → List ℕ → ℕ → Type 0
  Counted a cells n = (keys_after a n ≡ Some (length (keys_of log))) × IndexRule S log cells

  counted-known : (a : Inserted) (cells : List ℕ) (n k : ℕ) → keys_after a n ≡ Some k → Tells S m log (counted cells k) → Counted a cells n
  unfolding Tells
  counted-known a cells n k e w = (e ∙ ap Some w.keys, w.rule)

  not-over : Tells S m log over → ⊥
  unfolding Tells
  not-over w = omega arith

  pub tally-counted : (a : Inserted) (cells : List ℕ) (n : ℕ) → Tells S m log (tallied a cells n) → Counted a cells n
  unfolding keys_after
  tally-counted Inserted.New cells n w = go (ltb (n + 1) (length cells)) refl
    where
      go : (t : Bool) → ltb (n + 1) (length cells) ≡ t → Counted Inserted.New cells n
      go true e =
          counted-known Inserted.New cells n (n + 1) refl
          (subst (Tells S m log) (tally-new cells n (ltb-true (n + 1) (length cells) e)) w)
      go false e = absurd (not-over (subst (Tells S m log) (tally-over cells n (ltb-false (n + 1) (length cells) e)) w))
  tally-counted (Inserted.Newer old) cells n w = counted-known (Inserted.Newer old) cells n n refl (subst (Tells S m log) (tally-newer cells n old) w)
  tally-counted Inserted.Older cells n w = counted-known Inserted.Older cells n n refl (subst (Tells S m log) (tally-older cells n) w)
  tally-counted Inserted.Full cells n w = absurd (not-over (subst (Tells S m log) (tally-full cells n) w))

pub recovered-found :
    (L : Layout) (n s m : ℕ) (area : List ℕ) (r : Record) → recovered L n s m area ≡ some r →
    AllFound area s (log_of (views_of area s) (named r.map) n)
recovered-found L n s m area r e =
    recovered-case L n s m area (λ (k : Record). AllFound area s (log_of (views_of area s) (named k.map) n))
    (λ h l f x i. placed-found L n s m area h f x i) r e

pub told-known : (r : Record) (done : Commit) (version k : ℕ) (counts : List ℕ) → k < r.cells
    → answered_with r done version counts (Some k) ≡ record { answer = Ok (Progress.Done (record { 0 = version })); rec = committed r done k counts }
unfolding answered_with
told-known r done version k counts h = pick_true (ltb k r.cells) _ _ (lt-ltb k r.cells h)

module _ (r : Record) (done : Commit) (log log' : List Placed) (area' cells : List ℕ) (x : Placed) (added : Added log x log')
    (apart : Apart log') (found : AllFound area' r.size log') (version : x.entry.version ≡ r.next.0)
    (ix : Indexed r.size r.cells log cells r.keys) (few : length (keys_of log') < r.cells) (most : r.cells ≤ most_cells)
    (above : (y : Placed) → In y log → y.entry.version < x.entry.version)
  where
    all_there : AllIn area' r.size (x ∷ log)
    all_there y m =
        found-in-area y.layout area' r.size y.slot y.offset y.entry (found y ((added-same added).to y m))

    all_apart : Apart (x ∷ log)
    all_apart = apart-same (same-sym (added-same added)) apart

    abbrev put : Insertion
    put = inserted area' cells (place_of r.size x) (key_of x.entry) x.entry.version

    told : Tells r.size r.cells log' (tallied put.answer put.cells r.keys)
    unfolding Tells
    told =
        tells-same r.size r.cells (x ∷ log) log' (added-same added) all_apart (tallied put.answer put.cells r.keys)
        (subst (Tells r.size r.cells (x ∷ log)) (insert-next area' r.size x cells r.keys put refl)
        (tells-next area' r.size r.cells log x most all_there all_apart (counted cells r.keys) ix))

    -- the version that the code goes by is the entry's
    same-put : inserted area' cells (place_of r.size x) (key_of x.entry) r.next.0 ≡ put
    same-put = ap (inserted area' cells (place_of r.size x) (key_of x.entry)) (sym version)

    -- the object that the key had counts no longer
    lost : lost_by r.size area' put.answer r.counts ≡ without_live (present log (key_of x.entry)) r.counts
    lost = go (latest log (key_of x.entry)) refl
      where
        kept-none : (o : Option Placed) → latest log (key_of x.entry) ≡ o → o ≡ none → r.counts ≡ without_live (present log (key_of x.entry)) r.counts
        kept-none o p q = unfold present object_only without_live in rw (p ∙ q)

        inside : (z : Placed) → In z log → z.offset < r.size
        inside z i =
            omega (
              arith,
              found-fits z.layout (segment_of area' r.size z.slot) z.offset z.entry (found z (added.old z i)),
              length-take r.size (drop (z.slot * r.size) area'),
            )

        go : (o : Option Placed) → latest log (key_of x.entry) ≡ o → lost_by r.size area' put.answer r.counts ≡ without_live (present log (key_of x.entry)) r.counts
        go none p =
            ap (λ (a : Inserted). lost_by r.size area' a r.counts) (comes-new area' r.size r.cells log x most all_there all_apart cells r.keys ix p)
            ∙ unfold lost_by in kept-none none p refl
        go (some z) p =
            let member = (latest-some log (key_of x.entry) z p).member in
            ap (λ (a : Inserted). lost_by r.size area' a r.counts)
            (replaces area' r.size r.cells log x most all_there all_apart cells r.keys ix z p (above z member))
            ∙ unfold lost_by in
            lost-latest r.size area' log (key_of x.entry) z r.counts p (inside z member) (found z (added.old z member))

    pub entry-finished :
        Finished r.size log' r done r.next.0 (length (keys_of log')) (entry_counts x.layout log x.slot x.entry r.counts)
        (finish_entry x.layout r done area' cells x.slot x.offset)
    unfolding finish_entry found_in
    entry-finished =
        let c = tally-counted r.size r.cells log' few put.answer put.cells r.keys told in
        let counts : List ℕ = counts_after r area' put.answer x.slot (object_size x.layout x.entry) in
        subst (Finished r.size log' r done r.next.0 (length (keys_of log')) (entry_counts x.layout log x.slot x.entry r.counts))
        (sym
        (ap (found_in x.layout r done area' cells x.slot (place_of r.size x)) (found x ((added-same added).to x (Memᴰ.head refl)))
        ∙ ap
        (λ (i : Insertion).
        record {
          stepped =
              answered_with r done r.next.0 (counts_after r area' i.answer x.slot (object_size x.layout x.entry)) (keys_after i.answer r.keys);
          cells = i.cells;
        }) same-put))
        (record {
          answers =
              ap (answered_with r done r.next.0 counts) c.0 ∙ told-known r done r.next.0 (length (keys_of log')) counts few
              ∙ ap
              (λ (l : List ℕ).
              record {
                answer = Ok (Progress.Done (record { 0 = r.next.0 }));
                rec = committed r done (length (keys_of log')) (more_bytes x.slot (object_size x.layout x.entry) l);
              }) lost;
          rule = c.1;
        })
