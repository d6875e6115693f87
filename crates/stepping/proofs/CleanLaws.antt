-- A rebuilding over the log of a recovered record keeps the index rule and counts the record's keys.
use Rattle.std.specs.Prelude.{ℕ, zero, suc, ◌+◌, ◌-◌, ◌≤◌, ◌<◌, ◌≡◌, refl, Bool, true, false, not, List, [], ◌∷◌, eqb, length, get_or}
use Rattle.std.proofs.Common.{sym, ◌∙◌, ap, add-zero, arith, length-take, get_or-take, le-ltb, eq-eqb}
use Rattle.std.proofs.Math.Option.{some}
use Rattle.segment.specs.Choice.{either}
use Rattle.segment.proofs.Choice.{both_true}
use Rattle.segment.specs.Layout.{Layout}
use Rattle.slot_map.specs.Bit.{named}
use Rattle.record.specs.RangeLaws.{between-high, map-in}
use Rattle.record.specs.declared.Record.{Record}
use Rattle.model.specs.Log.{views_of, log_of, keys_of}
use Rattle.model.specs.Recovery.{recovered, lists, lists_below, order_bad, log_under}
use Rattle.laws.specs.RecoverLaws.{recovered-case, recovered-facts}
use Rattle.index.specs.Build.{built}
use Rattle.index.specs.BuildLaws.{Holds}
use Rattle.index.proofs.BuildLaws.{built-rule, all_listed}
use Rattle.stepping.specs.Finish.{up_from, ascending}

-- ---- the slots, ascending, are an order list

pub length_up : (a f : ℕ) → length (up_from a f) ≡ f
unfolding up_from
length_up a zero = refl
length_up a (suc f) = ap suc (length_up (a + 1) f)

get_d-up : (a f k : ℕ) → k < f → get_or (up_from a f) k 0 ≡ a + k
unfolding up_from
get_d-up a zero k h = absurd (omega arith)
get_d-up a (suc f) zero h = sym (add-zero a)
get_d-up a (suc f) (suc k) h = get_d-up (a + 1) f k (omega arith) ∙ omega arith

lists-element : (xs : List ℕ) (k : ℕ) → k < length xs → lists xs (get_or xs k 0) ≡ true
unfolding lists either
lists-element [] k h = absurd (omega arith)
lists-element (x ∷ xs) zero h = rw (eq-eqb x x refl)
lists-element (x ∷ xs) (suc k) h = go (eqb x (get_or xs k 0)) (lists-element xs k (omega arith))
  where
    go : (t : Bool) → lists xs (get_or xs k 0) ≡ true → either t (lists xs (get_or xs k 0)) ≡ true
    go true e = refl
    go false e = e

ascending-lists : (n k : ℕ) → n ≤ 32 → k < n → lists (ascending n) k ≡ true
ascending-lists n k h l =
    let element : get_or (ascending n) k 0 ≡ k = get_or-take n (up_from 0 32) k 0 l ∙ get_d-up 0 32 k (omega arith) ∙ omega arith in
    ap (lists (ascending n)) (sym element)
    ∙ lists-element (ascending n) k (simp length-take (omega (arith, length_up 0 32)))

pub ascending-good : (n : ℕ) → n ≤ 32 → order_bad n (ascending n) ≡ false
ascending-good n h =
    ap not
    (both_true (eqb (length (ascending n)) n) (lists_below (ascending n) n)
    (eq-eqb (length (ascending n)) n (simp length-take (omega (arith, length_up 0 32)))) (all_listed (ascending n) n (λ k l. ascending-lists n k h l)))

-- ---- a recovered log

pub recovered-built :
    (L : Layout) (n s m : ℕ) (area order : List ℕ) (r : Record) → recovered L n s m area ≡ some r → order_bad n order ≡ false → 0 < m →
    Holds s m (log_of (views_of area s) (named r.map) n) (built area s r.map order m)
recovered-built L n s m area order r e good some-cell =
    recovered-case L n s m area (λ (k : Record). Holds s m (log_of (views_of area s) (named k.map) n) (built area s k.map order m))
    (λ h l f.
    built-rule area s h.digest.map n m order l.long (map-in n h.slot h.digest.map f.map-good).below f.scans f.versions good
    some-cell (between-high 16 4096 m (recovered-facts L n s m area r e).lent.cells-good) (le-ltb (m - 1) (length (keys_of (log_under (views_of area s) n h))) f.keys))
    r e
