-- How the premises of isolation are met: lists of events with the same input are put together, and ranges that lie apart share no table.
use Prim.Native.Nat.{ℕ, ◌≤◌, ◌<◌}
use mathlib.Core.Path.{◌≡◌, refl}
use mathlib.Core.Bool.{Bool, true, false, not}
use mathlib.Core.List.{List, [], ◌∷◌, ◌++◌}
use mathlib.Core.Option.{Option, none, some}
use native.Mathlib.Omega.{arith}
use lib.Dec.{leb}
use lib.ListN.{length}
use borrow.Author.Tests.{leb-true}
use Rattle.segment.specs.Choice.{both, either}
use Rattle.segment.proofs.Choice.{both_left, both_right}
use Rattle.record.specs.declared.Tables.{Tables}
use Rattle.record.specs.Reach.{holds_table}
use Rattle.history.specs.Book.{Event, called, cut}
use Rattle.isolation.specs.Owners.{Owner, servo, media, SameCall, SameInput, SameInputs, same_owner, range_of, range_holds, gives, NoTableShared}

-- ---- the same input

-- an event has the input of itself, whoever's it is
same-event : (who : Owner) (e : Event) → SameInput who e e
unfolding SameInput SameCall
same-event servo (called c l a) = (refl, refl)
same-event media (called c l a) = (refl, refl)
same-event who cut = tt

pub same-own : (owners : List Owner) (es : List Event) → length owners ≡ length es → SameInputs owners es es
unfolding SameInputs
same-own [] [] e = tt
same-own (who ∷ owners) (x ∷ es) e = (same-event who x, same-own owners es (omega (arith, e)))
same-own [] (x ∷ es) e = absurd (omega (arith, e))
same-own (who ∷ owners) [] e = absurd (omega (arith, e))

pub same-append :
    (owners more : List Owner) (es es' fs fs' : List Event) → SameInputs owners es es' → SameInputs more fs fs' →
    SameInputs (owners ++ more) (es ++ fs) (es' ++ fs')
unfolding SameInputs
same-append [] more [] [] fs fs' h k = k
same-append (who ∷ owners) more (e ∷ es) (e' ∷ es') fs fs' h k = (h.0, same-append owners more es es' fs fs' h.1 k)
same-append [] more (e ∷ es) es' fs fs' h k = absurd h
same-append [] more [] (e' ∷ es') fs fs' h k = absurd h
same-append (who ∷ owners) more [] es' fs fs' h k = absurd h
same-append (who ∷ owners) more (e ∷ es) [] fs fs' h k = absurd h

-- ---- ranges

-- a range lies between two tables, both included
unfoldable pub lies_within : ℕ → ℕ → Option Tables → Bool
lies_within low high none = true
lies_within low high (some given) = both (leb low given.first) (leb given.last high)

-- and so does every range that an owner gives
unfoldable pub all_within : ℕ → ℕ → Owner → List Owner → List Event → Bool
all_within low high who [] es = true
all_within low high who (o ∷ owners) [] = true
all_within low high who (o ∷ owners) (e ∷ es) =
    both (either (not (same_owner who o)) (lies_within low high (range_of e))) (all_within low high who owners es)

module _ (low high t : ℕ) where
  one-within : (r : Option Tables) → lies_within low high r ≡ true → range_holds r t ≡ true → (low ≤ t) × (t ≤ high)
  unfolding lies_within range_holds holds_table
  one-within none h k = let z : ◌≡◌ {A = ℕ} 0 1 = cc in absurd (omega arith)
  one-within (some given) h k =
      let first = leb-true low given.first (both_left _ _ h) in
      let last = leb-true given.last high (both_right _ _ h) in
      let above = leb-true given.first t (both_left _ _ k) in
      let below = leb-true t given.last (both_right _ _ k) in
      (omega (arith, first, above), omega (arith, last, below))

  pub gives-within : (who : Owner) (owners : List Owner) (es : List Event) → all_within low high who owners es ≡ true → gives who owners es t ≡ true → (low ≤ t) × (t ≤ high)
  unfolding all_within gives
  gives-within who [] es h k = let z : ◌≡◌ {A = ℕ} 0 1 = cc in absurd (omega arith)
  gives-within who (o ∷ owners) [] h k = let z : ◌≡◌ {A = ℕ} 0 1 = cc in absurd (omega arith)
  gives-within who (o ∷ owners) (e ∷ es) h k =
      go (same_owner who o) (range_holds (range_of e) t) refl (both_left _ _ h) k (gives-within who owners es (both_right _ _ h))
    where
      go :
          (own holds : Bool) → range_holds (range_of e) t ≡ holds → either (not own) (lies_within low high (range_of e)) ≡ true →
          either (both own holds) (gives who owners es t) ≡ true → (gives who owners es t ≡ true → (low ≤ t) × (t ≤ high)) → (low ≤ t) × (t ≤ high)
      go true true p q r rest = unfold either in one-within (range_of e) q p
      go true false p q r rest = unfold either both in rest r
      go false holds p q r rest = unfold either both in rest r

-- Ranges of which all of servo's end before all of media's begin share no table.
pub ranges_apart :
    (low high low' high' : ℕ) (owners : List Owner) (es : List Event) → high < low' → all_within low high servo owners es ≡ true →
    all_within low' high' media owners es ≡ true → NoTableShared owners es
ranges_apart low high low' high' owners es apart p q t h k =
    omega (arith, (gives-within low high t servo owners es p h).1, (gives-within low' high' t media owners es q k).0)
