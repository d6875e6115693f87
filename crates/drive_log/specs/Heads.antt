-- The head search: the enum for a head, and what a turn of each loop adds.
use Prim.Native.Nat.{ℕ, zero, suc, ◌+◌, ◌≤◌, ◌<◌}
use Rattle.std.specs.Prelude.{◌≡◌, Bool, true, eqb, ltb, nat_lt, cond, ◌==◌}
use Rattle.std.specs.Ordering.{is_lt, nat_cmp}
use Rattle.std.specs.declared.cmp.Ordering.TheVariants.{Less, Equal, Greater}
use Rattle.std.proofs.Math.Path.{refl, sym, ap, ap₂}
use Rattle.std.proofs.Common.{◌∙◌, subst, add-one, arith, eqb-true, eq-eqb, ne_eqb}
use Rattle.std.proofs.Math.Bool.{false, not}
use mathlib.Core.List.{List}
use Rattle.std.proofs.Math.Option.{Option, none, some}
use Rattle.std.proofs.lemmas.Bool.{eqb-false}
use Rattle.segment.specs.Choice.{both, either, is_none}
use Rattle.segment.proofs.Choice.{pick_true, pick-false, both_true, both-false-left, both-false-right, either-false, either-true-left, either-true-right}
use Rattle.segment.specs.Layout.{Layout, edition1, edition2, same_layout}
use Rattle.segment.specs.declared.Edition.TheVariants.{First, Second}
use Rattle.segment.specs.Digest.{layout_in, digest_of, is_digest}
use Rattle.segment.specs.declared.Digest.{Digest}
use Rattle.segment.specs.contracts.Edition.{the_type}
use denote.Enum.Bare.{sameb}
use Rattle.std.specs.Int.{from_bool}
use Rattle.std.specs.Prelude as P
use Rattle.drive_log.specs.Tables.{one-pick}
use Rattle.model.specs.Log.{View, Head, segment_of, views_of, head_of, newer, digest_in}
use Rattle.model.specs.Recovery.{has_number, sharing, names_no_digest, other_edition, later, later_edition}
use Rattle.drive_log.specs.declared.FoundHead.{FoundHead}
use Rattle.laws.specs.HeadLaws.{number-le}

-- what the code answers for a head, and the head that it says
unfoldable pub told : Option Head → P.Option FoundHead
told none = P.None
told (some h) = P.Some (record { slot = h.slot; digest = h.digest })

unfoldable pub untold : P.Option FoundHead → Option Head
untold P.None = none
untold (P.Some f) = some (record { slot = f.slot; digest = f.digest })

pub told-untold : (f : P.Option FoundHead) → told (untold f) ≡ f
unfolding told untold
told-untold P.None = refl
told-untold (P.Some f) = refl

pub untold-told : (h : Option Head) → untold (told h) ≡ h
unfolding told untold
untold-told none = refl
untold-told (some h) = refl

-- what it tells of the head
pub told-nothing : (h : Option Head) → told h ≡ P.None → h ≡ none
unfolding untold
told-nothing h e = sym (untold-told h) ∙ ap untold e

pub told_at : (h : Option Head) (f : FoundHead) → told h ≡ P.Some f → h ≡ some (record { slot = f.slot; digest = f.digest })
unfolding untold
told_at h f e = sym (untold-told h) ∙ ap untold e

-- the derived order of digest numbers and of versions is that of their numbers
pub lt-tested : (a b : ℕ) → is_lt (nat_cmp a b) ≡ ltb a b
lt-tested a b = go (nat_lt a b) (a == b)
  where
    go : (t u : Bool) → is_lt (cond t Less (cond u Equal Greater)) ≡ t
    go true u = refl
    go false true = refl
    go false false = refl

-- ---- the digest of a slot's bytes, by the test for one

module _ (s : List ℕ) (t : Bool) (tested : t ≡ is_digest s) where
  pub none_in : t ≡ false → digest_in s ≡ none
  unfolding digest_in
  none_in e = pick-false (is_digest s) _ _ (sym tested ∙ e)

  pub some_in : t ≡ true → digest_in s ≡ some (digest_of (layout_in s) s)
  unfolding digest_in
  some_in e = pick_true (is_digest s) _ _ (sym tested ∙ e)

-- ---- what may be missing, as the code has it

unfoldable pub as_option : {A : Type 0} → Option A → P.Option A
as_option none = P.None
as_option (some x) = P.Some x

none_of : (o : Option Digest) → as_option o ≡ P.None → o ≡ none
unfolding as_option
none_of none q = refl
none_of (some x) q = cc

some_of : (o : Option Digest) (d : Digest) → as_option o ≡ P.Some d → o ≡ some d
unfolding as_option
some_of none d q = cc
some_of (some x) d q = cc

-- the digest of a slot's bytes, by the code's answer for it
module _ (s : List ℕ) (r : P.Option Digest) (its : r ≡ as_option (digest_in s)) where
  lacks : r ≡ P.None → digest_in s ≡ none
  lacks e = none_of (digest_in s) (sym its ∙ e)

  has : (d : Digest) → r ≡ P.Some d → digest_in s ≡ some d
  has d e = some_of (digest_in s) d (sym its ∙ e)

  -- ---- the later of the newest so far and a slot's

  module _ (best : P.Option FoundHead) (slot : ℕ) where
    pub later-none : r ≡ P.None → best ≡ told (newer (untold best) slot (digest_in s))
    unfolding newer
    later-none e = sym (ap (λ (d : Option Digest). told (newer (untold best) slot d)) (lacks e) ∙ told-untold best)

    -- d is the slot's digest
    module _ (d : Digest) (found : r ≡ P.Some d) where
      pub later_first : best ≡ P.None → P.Some (record { slot = slot; digest = d }) ≡ told (newer (untold best) slot (digest_in s))
      unfolding told untold newer
      later_first e = rw (has d found, e)

      pub later-higher : (top : FoundHead) → best ≡ P.Some top → ltb top.digest.number.0 d.number.0 ≡ true
          → P.Some (record { slot = slot; digest = d }) ≡ told (newer (untold best) slot (digest_in s))
      unfolding told untold newer
      later-higher top e h = rw (has d found, e, pick_true (ltb top.digest.number.0 d.number.0) _ _ h)

      pub later-lower : (top : FoundHead) → best ≡ P.Some top → ltb top.digest.number.0 d.number.0 ≡ false
          → P.Some top ≡ told (newer (untold best) slot (digest_in s))
      unfolding told untold newer
      later-lower top e h = rw (has d found, e, pick-false (ltb top.digest.number.0 d.number.0) _ _ h)

  -- ---- 1 where a slot's digest has the number k

  module _ (k : ℕ) where
    pub number-none : r ≡ P.None → 0 ≡ has_number (digest_in s) k
    unfolding has_number
    number-none e = rw (lacks e)

    pub number-tested : (d : Digest) → r ≡ P.Some d → from_bool (eqb d.number.0 k) ≡ has_number (digest_in s) k
    unfolding has_number
    number-tested d found = rw (has d found) (one-pick (eqb d.number.0 k))

-- ---- the turns of the loops; part is slot i's part of the area

module _ (area : List ℕ) (s i : ℕ) (part : List ℕ) (its : part ≡ segment_of area s i) where
  pub head-turn : (best r : P.Option FoundHead) → best ≡ told (head_of (views_of area s) i) → r ≡ told (newer (untold best) i (digest_in part))
      → r ≡ told (head_of (views_of area s) (i + 1))
  unfolding head_of
  head-turn best r e f =
      f
      ∙ ap (λ (h : Option Head). told (newer h i (digest_in part))) (ap untold e ∙ untold-told (head_of (views_of area s) i))
      ∙ ap (λ (l : List ℕ). told (newer (head_of (views_of area s) i) i (digest_in l))) its
      ∙ ap (λ (m : ℕ). told (head_of (views_of area s) m)) (sym (add-one i))

  pub number-turn : (k count h : ℕ) → count ≡ sharing (views_of area s) k i → h ≡ has_number (digest_in part) k
      → count + h ≡ sharing (views_of area s) k (i + 1)
  unfolding sharing
  number-turn k count h e f =
      ap (λ (m : ℕ). m + h) e
      ∙ ap (λ (m : ℕ). sharing (views_of area s) k i + m) (f ∙ ap (λ (l : List ℕ). has_number (digest_in l) k) its)
      ∙ ap (sharing (views_of area s) k) (sym (add-one i))

-- at most one for each slot
pub sharing-le : (v : ℕ → View) (k n : ℕ) → sharing v k n ≤ n
unfolding sharing
sharing-le v k zero = omega arith
sharing-le v k (suc n) = omega (arith, sharing-le v k n, number-le (v n).digest k)

-- ---- whether the map names a slot with no digest

-- a test over the slots below n that holds at i holds from then on
pub stays : (f : ℕ → Bool) → ((n : ℕ) → f n ≡ true → f (suc n) ≡ true) → (i n : ℕ) → i ≤ n → f i ≡ true → f n ≡ true
stays f on i zero h e = subst (λ (m : ℕ). f m ≡ true) (omega arith) e
stays f on i (suc n) h e = go (eqb i (suc n)) refl (λ l. stays f on i n l e)
  where
    go : (t : Bool) → eqb i (suc n) ≡ t → (i ≤ n → f n ≡ true) → f (suc n) ≡ true
    go true p below = subst (λ (m : ℕ). f m ≡ true) (eqb-true i (suc n) p) e
    go false p below = let apart = eqb-false i (suc n) p in on n (below (omega arith))

module _ (v : ℕ → View) (p : ℕ → Bool) (i : ℕ) where
  pub names-skip : p i ≡ false → names_no_digest v p i ≡ false → names_no_digest v p (i + 1) ≡ false
  unfolding names_no_digest
  names-skip q e =
      ap (names_no_digest v p) (add-one i)
      ∙ either-false (names_no_digest v p i) (both (p i) (is_none (v i).digest)) e (both-false-left (p i) (is_none (v i).digest) q)

  names-has : (d : Digest) → (v i).digest ≡ some d → names_no_digest v p i ≡ false → names_no_digest v p (i + 1) ≡ false
  unfolding names_no_digest is_none
  names-has d q e =
      ap (names_no_digest v p) (add-one i)
      ∙ either-false (names_no_digest v p i) (both (p i) (is_none (v i).digest)) e
      (both-false-right (p i) (is_none (v i).digest) (ap is_none q))

  names-lacks : p i ≡ true → (v i).digest ≡ none → (n : ℕ) → i < n → names_no_digest v p n ≡ true
  unfolding names_no_digest is_none
  names-lacks q e n h =
      stays (names_no_digest v p) (λ m. either-true-left (names_no_digest v p m) (both (p m) (is_none (v m).digest))) (suc i) n h
      (either-true-right (names_no_digest v p i) (both (p i) (is_none (v i).digest))
      (both_true (p i) (is_none (v i).digest) q (ap is_none e)))

-- the test for a digest decides a slot that the map names
module _ (area : List ℕ) (s i : ℕ) (part : List ℕ) (its : part ≡ segment_of area s i) (t : Bool) (tested : t ≡ is_digest part)
    (p : ℕ → Bool) where
  here : t ≡ is_digest (segment_of area s i)
  here = tested ∙ ap is_digest its

  pub names-turn : t ≡ true → names_no_digest (views_of area s) p i ≡ false → names_no_digest (views_of area s) p (i + 1) ≡ false
  names-turn e = names-has (views_of area s) p i (digest_of (layout_in (segment_of area s i)) (segment_of area s i)) (some_in (segment_of area s i) t here e)

  pub names-found : t ≡ false → p i ≡ true → (n : ℕ) → i < n → true ≡ names_no_digest (views_of area s) p n
  names-found e q n h = sym (names-lacks (views_of area s) p i q (none_in (segment_of area s i) t here e) n h)

-- ---- whether the map names a slot of another edition

-- the test for one edition, which compares the numbers of the variants
pub same-tested : (K L : Layout) → sameb the_type K L ≡ same_layout K L
unfolding same_layout
same-tested First First = refl
same-tested First Second = refl
same-tested Second First = refl
same-tested Second Second = refl

module _ (L : Layout) (v : ℕ → View) (p : ℕ → Bool) (i : ℕ) where
  pub other-skip : p i ≡ false → other_edition L v p i ≡ false → other_edition L v p (i + 1) ≡ false
  unfolding other_edition
  other-skip q e =
      ap (other_edition L v p) (add-one i)
      ∙ either-false (other_edition L v p i) (both (p i) (not (same_layout (v i).layout L))) e
      (both-false-left (p i) (not (same_layout (v i).layout L)) q)

  pub other-turn : (t : Bool) → t ≡ same_layout (v i).layout L → t ≡ true → other_edition L v p i ≡ false → other_edition L v p (i + 1) ≡ false
  unfolding other_edition
  other-turn t is same e =
      ap (other_edition L v p) (add-one i)
      ∙ either-false (other_edition L v p i) (both (p i) (not (same_layout (v i).layout L))) e
      (both-false-right (p i) (not (same_layout (v i).layout L)) (ap not (sym is ∙ same)))

  pub other-found : (t : Bool) → t ≡ same_layout (v i).layout L → t ≡ false → p i ≡ true → (n : ℕ) → i < n → true ≡ other_edition L v p n
  unfolding other_edition
  other-found t is other q n h =
      sym
      (stays (other_edition L v p) (λ m. either-true-left (other_edition L v p m) (both (p m) (not (same_layout (v m).layout L)))) (suc i) n h
      (either-true-right (other_edition L v p i) (both (p i) (not (same_layout (v i).layout L)))
      (both_true (p i) (not (same_layout (v i).layout L)) q (ap not (sym is ∙ other)))))

-- ---- whether the map names a slot of a later edition (02, R-13)

module _ (v : ℕ → View) (p : ℕ → Bool) where
  first-others : (n : ℕ) → other_edition edition1 v p n ≡ later_edition edition1 v p n
  unfolding other_edition later_edition
  first-others zero = refl
  first-others (suc n) = ap₂ (λ (a b : Bool). either a (both (p n) b)) (first-others n) (any-other (v n).layout)
    where
      any-other : (K : Layout) → not (same_layout K edition1) ≡ later K edition1
      any-other First = unfold both same_layout in refl
      any-other Second = unfold both same_layout in refl

  second-last : (n : ℕ) → later_edition edition2 v p n ≡ false
  unfolding later_edition
  second-last zero = refl
  second-last (suc n) =
      either-false (later_edition edition2 v p n) (both (p n) (later (v n).layout edition2)) (second-last n)
      (both-false-right (p n) (later (v n).layout edition2) (none-later (v n).layout))
    where
      none-later : (K : Layout) → later K edition2 ≡ false
      none-later First = unfold both same_layout in refl
      none-later Second = unfold both same_layout in refl

  -- after the first edition comes any other,
  pub after_first : (L : Layout) (n : ℕ) {t : Bool} → L ≡ edition1 → t ≡ other_edition L v p n → t ≡ later_edition L v p n
  after_first L n is e =
      e ∙ subst (λ (K : Layout). other_edition K v p n ≡ later_edition K v p n) (sym is) (first-others n)

  -- and after the second comes none
  pub after-second : (L : Layout) (n : ℕ) → L ≡ edition2 → false ≡ later_edition L v p n
  after-second L n is = sym (ap (λ (K : Layout). later_edition K v p n) is ∙ second-last n)

pub same_first : (L : Layout) → same_layout edition1 L ≡ same_layout L edition1
unfolding same_layout
same_first First = refl
same_first Second = refl

pub same_second : (L : Layout) → same_layout edition2 L ≡ not (same_layout L edition1)
unfolding same_layout
same_second First = refl
same_second Second = refl

-- 1 where a slot's digest has the number k
module _ (s : List ℕ) (t : Bool) (tested : t ≡ is_digest s) (k : ℕ) where
  module _ (d : Digest) (its : d ≡ digest_of (layout_in s) s) (has : t ≡ true) where
    own : digest_in s ≡ some d
    own = some_in s t tested has ∙ ap some (sym its)

    pub number_same : d.number.0 ≡ k → 1 ≡ has_number (digest_in s) k
    unfolding has_number
    number_same e = rw (own, pick_true {A = ℕ} (eqb d.number.0 k) 1 0 (eq-eqb d.number.0 k e))

    pub number-other : (d.number.0 ≡ k → ⊥) → 0 ≡ has_number (digest_in s) k
    unfolding has_number
    number-other e = rw (own, pick-false {A = ℕ} (eqb d.number.0 k) 1 0 (ne_eqb d.number.0 k e))
