-- The way over: each cleaning of an old slot is accepted, and leaves the others as they were, with no more to keep.
use Prim.Native.Nat.{ℕ, ◌+◌, ◌-◌, ◌^◌, ◌≤◌, ◌<◌}
use native.Mathlib.Omega.{arith}
use native.Mathlib.Decide.{ℕ_discrete}
use mathlib.Core.Path.{◌≡◌, refl, sym, ap, ◌∙◌, subst, subst⁻¹}
use mathlib.Core.Bool.{Bool, true, false, not}
use mathlib.Core.Logic.{inl, inr}
use mathlib.Core.List.Memᴰ
use mathlib.Core.List.{List, [], ◌∷◌}
use mathlib.Core.Option.{Option, none, some}
use lib.Dec.{eqb, ltb}
use lib.ListN.{length, take}
use lib.Pow.{pow_pos, pow_mono}
use lib.Seq.{take_all}
use borrow.Author.Tests.{le-ltb, ltb-false, ne_eqb}
use Rattle.word.specs.Number.{Bytes}
use Rattle.segment.specs.Choice.{pick}
use Rattle.segment.proofs.Choice.{both_true, both-false-right, either-false}
use Rattle.segment.specs.Layout.{Layout, edition1, edition2, digest_size, number_limit}
use Rattle.segment.specs.declared.Edition.TheVariants.{First, Second}
use Rattle.slot_map.specs.Bit.{bit, named, within}
use Rattle.slot_map.proofs.BitLaws.{bit-pow-same, named-true, set-named, within-pow}
use Rattle.slot_map.proofs.NextLaws.{next-clear}
use Rattle.record.specs.Range.{fits_lent}
use Rattle.record.specs.RangeLaws.{Lent, lent-switched, fits-switched}
use Rattle.record.specs.Switch.{new_layout, unswitched}
use Rattle.record.specs.declared.Pending.{Pending}
use Rattle.record.specs.declared.Pending.TheVariants.{Idle}
use Rattle.record.specs.declared.Record.{Record}
use Rattle.model.specs.Log.{View, Placed, views_of, placed_in, items_of, log_of}
use Rattle.model.specs.Causes.{first_cause}
use Rattle.model.specs.Recovery.{recovered}
use Rattle.model.specs.Operations.{clean, log_now, new_slot, kept, new_digest, outside_slots, plan_for, laid, plan_of, stored, finished_record}
use Rattle.model.specs.Refused.{Lengths, freely, is_pending, kept_too_long, kept_length, clean_causes, start_causes}
use Rattle.laws.specs.CauseLaws.{causes-none}
use Rattle.laws.specs.Members.{In, Once, more, clash, first}
use Rattle.laws.specs.MapLaws.{in_slot}
use Rattle.laws.specs.Stores.{length-stored}
use Rattle.laws.specs.Counted.{slot-log}
use Rattle.laws.specs.RecoverLaws.{recovered-case, recovered-apart, recovered-holds}
use Rattle.laws.specs.Operated.{Accepted, plan_at}
use Rattle.laws.specs.Headed.{new_others}
use Rattle.laws.specs.Cleanings.{clean-cleans}
use Rattle.laws.specs.OperationsKept.{edition-laws, clean-cleaned, clean-others, clean-slots}
use Rattle.carrying.specs.WayOver.{Old, FitsAlone, area_then, record_then, area_behind, record_behind, AllAccepted, Carried, WayOver}
use Rattle.carrying.proofs.KeptLess.{other-victim, keeps-less}

-- ---- one cleaning

module _ (l : Lengths) (area : List ℕ) (r : Record) (s : Carried l area r) (i : ℕ) (old : Old area r i) (fits : FitsAlone area r i)
    (number : r.digest.0 < number_limit) where
  abbrev L : Layout
  L = r.edition

  facts : Lent L r (length area) r.cells
  facts = lent-switched r (recovered-holds L r.slots r.size r.cells area (unswitched r) s.recovers)

  idle : r.pending ≡ Idle
  idle = recovered-case L r.slots r.size r.cells area (λ (k : Record). k.pending ≡ Idle) (λ h a f. refl) (unswitched r) s.recovers

  fits-own : fits_lent L r l.area l.index ≡ true
  fits-own =
      ap (λ (n : ℕ). fits_lent L r n l.index) s.area-lent ∙ ap (fits_lent L r (length area)) s.index-lent ∙
      sym (fits-switched L r false (length area) r.cells) ∙
      (edition-laws L).own-lengths r.slots r.size r.cells area (unswitched r) s.area-bytes s.recovers

  sub : within (2 ^ i) r.map ≡ true
  sub = within-pow r.map i (named-true r.map i old.in-log)

  clean-passes : first_cause (start_causes L r (log_now area r) l freely (clean (2 ^ i))) ≡ none
  unfolding start_causes is_pending
  clean-passes =
      causes-none (clean_causes L r l (kept_length (new_layout r) (log_now area r) (2 ^ i)) (2 ^ i)) (
        ap not fits-own,
        (
          le-ltb l.work r.size s.work-lent,
          (
            ap is_pending idle,
            (
              either-false (eqb (2 ^ i) 0) (not (within (2 ^ i) r.map)) (ne_eqb (2 ^ i) 0 (λ e. omega (arith, pow_pos i))) (ap not sub),
              (fits, (ne_eqb r.digest.0 number_limit (λ e. omega (arith, number)), tt)),
            ),
          ),
        ),
      )

  acc : Accepted L area r (clean (2 ^ i))
  acc =
      record {
        lengths = l;
        area-bytes = s.area-bytes;
        typed = omega (arith, pow_mono {i = i} {j = 31} (omega (arith, old.below, facts.slots-high)));
        recovers = s.recovers;
        no-cause = clean-passes;
      }

  -- the area and the record then
  abbrev area' : List ℕ
  area' = area_then area r i

  abbrev r' : Record
  r' = record_then area r i

  long' : length area' ≡ length area
  long' = length-stored area (plan_at L area r (clean (2 ^ i)))

  then-new : new_layout r' ≡ edition2
  unfolding finished_record pick
  then-new = go r.switched refl
    where
      go : (t : Bool) → r.switched ≡ t → pick t edition2 (new_layout r) ≡ edition2
      go true e = refl
      go false e = s.goes_on

  pub then-carried : Carried l area' r'
  unfolding finished_record
  then-carried =
      record {
        area-bytes =
            subst Bytes (ap (stored area) (take_all (length (plan_at L area r (clean (2 ^ i)))) (plan_at L area r (clean (2 ^ i))) (omega arith)))
            ((edition-laws L).plan-bytes area r (clean (2 ^ i)) acc (length (plan_at L area r (clean (2 ^ i)))));
        recovers = (edition-laws L).finish-recovers area r (clean (2 ^ i)) acc;
        goes_on = then-new;
        area-lent = s.area-lent ∙ sym long';
        index-lent = s.index-lent;
        work-lent = s.work-lent;
      }

  clear : bit r.map (new_slot r) ≡ 0
  clear = next-clear r.slots r.map r.head facts.head-below facts.some-free

  -- a slot of the old map is not the new head's
  not_new : (j : ℕ) → named r.map j ≡ true → j ≡ new_slot r → ⊥
  not_new j q e = omega (arith, named-true r.map j q, clear, ap (bit r.map) e)

  then-named : (j : ℕ) → (j ≡ new_slot r → ⊥) → named r'.map j ≡ outside_slots r.map (2 ^ i) j
  unfolding finished_record
  then-named j o = new_others r.map (2 ^ i) (new_slot r) sub clear j o

  -- ---- another old slot

  module _ (j : ℕ) (its : Old area r j) (other : j ≡ i → ⊥) where
    same_view : views_of area' r.size j ≡ views_of area r.size j
    unfolding laid plan_of
    same_view =
        clean-others L (new_layout r) area r (2 ^ i) r.next (log_now area r) (clean-cleans L area r (2 ^ i) acc) j its.below (not_new j its.in-log)

    then-in : named r'.map j ≡ true
    then-in = then-named j (not_new j its.in-log) ∙ both_true (named r.map j) (not (named (2 ^ i) j)) its.in-log (ap not (other-victim i j other))

    pub then-old : Old area' r' j
    unfolding finished_record
    then-old = record { below = its.below; in-log = then-in; first = ap (λ (w : View). w.layout) same_view ∙ its.first }

    same-slot : in_slot j (log_now area' r') ≡ in_slot j (log_now area r)
    unfolding finished_record
    same-slot =
        slot-log (views_of area' r.size) r'.map r.slots j its.below then-in ∙
        ap (λ (w : View). placed_in w.layout j (items_of w.scan)) same_view ∙
        sym (slot-log (views_of area r.size) r.map r.slots j its.below its.in-log)

    pub then-fits : FitsAlone area r j → FitsAlone area' r' j
    unfolding laid plan_of finished_record
    then-fits f =
        subst⁻¹ (λ (W : Layout). ltb r.size (digest_size W + kept_length W (log_now area' r') (2 ^ j)) ≡ false) then-new
        (le-ltb r.size (digest_size edition2 + kept_length edition2 (log_now area' r') (2 ^ j))
        (omega (
          arith,
          ltb-false r.size (digest_size edition2 + kept_length edition2 (log_now area r) (2 ^ j))
              (subst (λ (W : Layout). ltb r.size (digest_size W + kept_length W (log_now area r) (2 ^ j)) ≡ false) s.goes_on f),
          keeps-less i j other (log_now area r) _ (log_now area' r')
              (clean-cleaned L (new_layout r) area r (2 ^ i) r.next (log_now area r) (clean-cleans L area r (2 ^ i) acc))
              (recovered-apart L r.slots r.size r.cells area (unswitched r) s.recovers)
              (recovered-apart r'.edition r.slots r.size r.cells area' (unswitched r') then-carried.recovers) edition2 same-slot,
        )))

  -- An old slot then is another one that was old before.
  pub was-old : (j : ℕ) → Old area' r' j → Old area r j × (j ≡ i → ⊥)
  unfolding laid plan_of finished_record
  was-old j its =
      elim
      (clean-slots L (new_layout r) area r (2 ^ i) r.next (log_now area r) (clean-cleans L area r (2 ^ i) acc) j its.below its.in-log) [
        | inl new ↦ absurd (two-editions (sym its.first ∙ new ∙ s.goes_on))
        | inr same ↦ (record { below = its.below; in-log = same.0; first = sym same.1 ∙ its.first }, λ e. gone e same.0)
      ]
    where
      two-editions : edition1 ≡ edition2 → ⊥
      two-editions e = let z : ◌≡◌ {A = ℕ} 0 1 = cc in absurd (omega arith)

      gone : j ≡ i → named r.map j ≡ true → ⊥
      gone e q =
          clash (named r'.map j) its.in-log
          (then-named j (not_new j q) ∙
          both-false-right (named r.map j) (not (named (2 ^ i) j)) (ap (λ (k : ℕ). not (named (2 ^ i) k)) e ∙ ap not (set-named (2 ^ i) i (bit-pow-same i))))

-- ---- one after the other

-- every slot of the list is old, each stands in it once and fits alone
each :
    (l : Lengths) (is : List ℕ) (area : List ℕ) (r : Record) → Carried l area r → Once is → ((i : ℕ) → In i is → Old area r i) →
    ((i : ℕ) → In i is → FitsAlone area r i) → r.digest.0 + length is ≤ number_limit →
    AllAccepted l is area r × ((j : ℕ) → Old (area_behind is area r) (record_behind is area r) j → Old area r j × (In j is → ⊥))
unfolding AllAccepted area_behind record_behind
each l [] area r s once old fits number = (tt, λ j o. (o, λ m. absurd (Memᴰ.not-nil m)))
each l (i ∷ is) area r s (more fresh once) old fits number =
    let number-left : r.digest.0 < number_limit = omega (arith, number) in
    let here = old i first in
    let own = fits i first in
    let apart : (j : ℕ) → In j is → j ≡ i → ⊥ = λ j m e. fresh (Memᴰ.cast (sym e) m) in
    let rest =
    each l is (area_then area r i) (record_then area r i) (then-carried l area r s i here own number-left) once
    (λ j m. then-old l area r s i here own number-left j (old j (Memᴰ.tail m)) (apart j m))
    (λ j m. then-fits l area r s i here own number-left j (old j (Memᴰ.tail m)) (apart j m) (fits j (Memᴰ.tail m)))
    (then-number area r i is number) in (
      (clean-passes l area r s i here own number-left, rest.0),
      λ j o.
          let before = rest.1 j o in
          let was = was-old l area r s i here own number-left j before.0 in
          (was.0, not_first j was.1 before.1),
    )
  where
    then-number : (area : List ℕ) (r : Record) (i : ℕ) (is : List ℕ) → r.digest.0 + length (i ∷ is) ≤ number_limit → (record_then area r i).digest.0 + length is ≤ number_limit
    then-number area r i is h = unfold finished_record in omega (arith, h)

    not_first : (j : ℕ) → (j ≡ i → ⊥) → (In j is → ⊥) → In j (i ∷ is) → ⊥
    not_first j a b (Memᴰ.head e) = a e
    not_first j a b (Memᴰ.tail m) = b m

-- 02, R-13: the way over.
pub way-over : WayOver
way-over l area r s is once old all fits number =
    let both = each l is area r s once old (λ i m. fits i (old i m)) number in
    (both.0, λ i o. let was = both.1 i o in was.1 (all i was.0))
