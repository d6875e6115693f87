-- Laws of: Laws of a layout's table of kinds, and of the versions that it allows.
use Rattle.std.specs.Prelude.{ℕ, ◌^◌, ◌≤◌, ◌<◌, ◌≡◌, Bool, not, ◌⊎◌, ltb, get_or}
use Rattle.std.proofs.Math.Path.{refl}
use Rattle.std.proofs.Common.{sym, ◌∙◌, ap, subst, arith}
use Rattle.std.proofs.Math.Bool.{true, false}
use Rattle.std.proofs.Math.Logic.{inl, inr}
use mathlib.Core.List.{List, [], ◌∷◌, Memᴰ}
use Rattle.std.proofs.Math.Option.{Option, none, some}
use Rattle.std.proofs.Math.Dec.{eqb}
use borrow.Author.Tests.{eq-eqb, ne_eqb, eqb-true, eqb-false, ltb-true, lt-ltb, le-ltb, not-true}
use Rattle.segment.specs.Digest.{layout_in}
use Rattle.segment.specs.declared.Edition.TheVariants.{First, Second}
use Rattle.segment.specs.Choice.{pick, both, is_none}
use Rattle.segment.proofs.Choice.{pick_true, pick-false, both_left, both_right, both_true, both-false-left, both-false-right}
use Rattle.segment.specs.Layout.{Layout, lookup, look_back, is_some, sound_objects, value_length, object_kind, is_tombstone_kind, version_limit, good_version, edition1, edition2, other_layout, same_layout, layout_of_kind, layout_numbered, number_of_layout, table}
use Rattle.segment.proofs.LayoutFacts.{sound-objects, tombstone-not-end, tombstone-byte}
use Rattle.segment.specs.LayoutLaws.{Sound}

is-some : (n : ℕ) (o : Option ℕ) → is_some n o ≡ true → o ≡ some n
unfolding is_some
is-some n none e = cc
is-some n (some m) e = ap some (eqb-true m n e)

sound-pair : (t : ℕ) (all : List (ℕ × ℕ)) (k n : ℕ)
    → both (both (not (eqb k 0)) (not (eqb k t))) (both (ltb k 256) (both (is_some n (lookup k all)) (is_some k (look_back n all)))) ≡ true
    → Sound t all k n
sound-pair t all k n e =
    let once = both (is_some n (lookup k all)) (is_some k (look_back n all)) in
    let apart = both_left (both (not (eqb k 0)) (not (eqb k t))) (both (ltb k 256) once) e in
    let fits = both_right (both (not (eqb k 0)) (not (eqb k t))) (both (ltb k 256) once) e in
    let stands = both_right (ltb k 256) once fits in
    record {
      not_end = eqb-false k 0 (not-true (eqb k 0) (both_left (not (eqb k 0)) (not (eqb k t)) apart));
      not-tombstone = eqb-false k t (not-true (eqb k t) (both_right (not (eqb k 0)) (not (eqb k t)) apart));
      byte = ltb-true k 256 (both_left (ltb k 256) once fits);
      found = is-some n (lookup k all) (both_left (is_some n (lookup k all)) (is_some k (look_back n all)) stands);
      found_back = is-some k (look_back n all) (both_right (is_some n (lookup k all)) (is_some k (look_back n all)) stands);
    }

sound-member : (t : ℕ) (all : List (ℕ × ℕ)) (k n : ℕ) {ps : List (ℕ × ℕ)} → Memᴰ (k, n) ps → sound_objects t all ps ≡ true → Sound t all k n
unfolding sound_objects
sound-member t all k n (Memᴰ.head {x = p} {xs = ps} q) e =
    subst (λ (x : ℕ × ℕ). Sound t all x.0 x.1) (sym q) (sound-pair t all p.0 p.1 (both_left _ (sound_objects t all ps) e))
sound-member t all k n (Memᴰ.tail {x = p} {xs = ps} m) e = sound-member t all k n m (both_right _ (sound_objects t all ps) e)

lookup-member : (k n : ℕ) (ps : List (ℕ × ℕ)) → lookup k ps ≡ some n → Memᴰ (k, n) ps
unfolding lookup
lookup-member k n [] e = let z : ◌≡◌ {A = ℕ} 0 1 = cc in absurd (omega arith)
lookup-member k n (p ∷ ps) e = go (eqb k p.0) refl (λ r. lookup-member k n ps r)
  where
    go : (t : Bool) → eqb k p.0 ≡ t → (lookup k ps ≡ some n → Memᴰ (k, n) ps) → Memᴰ (k, n) (p ∷ ps)
    go true q below =
        let m : p.1 ≡ n = cc (pick_true (eqb k p.0) (some p.1) (lookup k ps) q, e) in
        Memᴰ.head (λ i. (eqb-true k p.0 q i, sym m i))
    go false q below = Memᴰ.tail (below (sym (pick-false (eqb k p.0) (some p.1) (lookup k ps) q) ∙ e))

look_back-member : (n k : ℕ) (ps : List (ℕ × ℕ)) → look_back n ps ≡ some k → Memᴰ (k, n) ps
unfolding look_back
look_back-member n k [] e = let z : ◌≡◌ {A = ℕ} 0 1 = cc in absurd (omega arith)
look_back-member n k (p ∷ ps) e = go (eqb n p.1) refl (λ r. look_back-member n k ps r)
  where
    go : (t : Bool) → eqb n p.1 ≡ t → (look_back n ps ≡ some k → Memᴰ (k, n) ps) → Memᴰ (k, n) (p ∷ ps)
    go true q below =
        let m : p.0 ≡ k = cc (pick_true (eqb n p.1) (some p.0) (look_back n ps) q, e) in
        Memᴰ.head (λ i. (sym m i, eqb-true n p.1 q i))
    go false q below = Memᴰ.tail (below (sym (pick-false (eqb n p.1) (some p.0) (look_back n ps) q) ∙ e))

-- ---- kinds

module _ (L : Layout) where
  -- an entry of kind k is the tombstone, with no value, or stands in the table of objects
  entry-cases : (k n : ℕ) → value_length L k ≡ some n → ((k ≡ (table L).tombstone_kind) × (n ≡ 0)) ⊎ Sound (table L).tombstone_kind (table L).objects k n
  unfolding value_length
  entry-cases k n e = go (eqb k (table L).tombstone_kind) refl
    where
      go : (t : Bool) → eqb k (table L).tombstone_kind ≡ t → ((k ≡ (table L).tombstone_kind) × (n ≡ 0)) ⊎ Sound (table L).tombstone_kind (table L).objects k n
      go true q = inl (eqb-true k (table L).tombstone_kind q, cc (pick_true (eqb k (table L).tombstone_kind) (some 0) (lookup k (table L).objects) q, e))
      go false q =
          inr
          (sound-member (table L).tombstone_kind (table L).objects k n
          (lookup-member k n (table L).objects (sym (pick-false (eqb k (table L).tombstone_kind) (some 0) (lookup k (table L).objects) q) ∙ e)) (sound-objects L))

  pub entry-not-end : (k n : ℕ) → value_length L k ≡ some n → k ≡ 0 → ⊥
  entry-not-end k n e z = go (entry-cases k n e)
    where
      go : ((k ≡ (table L).tombstone_kind) × (n ≡ 0)) ⊎ Sound (table L).tombstone_kind (table L).objects k n → ⊥
      go (inl t) = tombstone-not-end L (cc)
      go (inr s) = s.not_end z

  pub end-no-entry : value_length L 0 ≡ none
  end-no-entry = go (value_length L 0) refl
    where
      go : (o : Option ℕ) → value_length L 0 ≡ o → value_length L 0 ≡ none
      go none e = e
      go (some n) e = absurd (entry-not-end 0 n e refl)

  pub entry-kind-byte : (k n : ℕ) → value_length L k ≡ some n → k < 256
  entry-kind-byte k n e = go (entry-cases k n e)
    where
      go : ((k ≡ (table L).tombstone_kind) × (n ≡ 0)) ⊎ Sound (table L).tombstone_kind (table L).objects k n → k < 256
      go (inl t) = omega (arith, tombstone-byte L)
      go (inr s) = s.byte

  pub tombstone-length : value_length L (table L).tombstone_kind ≡ some 0
  unfolding value_length
  tombstone-length =
      pick_true (eqb (table L).tombstone_kind (table L).tombstone_kind) (some 0) (lookup (table L).tombstone_kind (table L).objects)
      (eq-eqb (table L).tombstone_kind (table L).tombstone_kind refl)

  sound-object : (n k : ℕ) → object_kind L n ≡ some k → Sound (table L).tombstone_kind (table L).objects k n
  sound-object n k e = sound-member (table L).tombstone_kind (table L).objects k n (look_back-member n k (table L).objects e) (sound-objects L)

  pub object-no-tombstone : (n k : ℕ) → object_kind L n ≡ some k → is_tombstone_kind L k ≡ false
  object-no-tombstone n k e = ne_eqb k (table L).tombstone_kind (sound-object n k e).not-tombstone

  pub object-kind : (n k : ℕ) → object_kind L n ≡ some k → value_length L k ≡ some n
  unfolding value_length
  object-kind n k e =
      pick-false (eqb k (table L).tombstone_kind) (some 0) (lookup k (table L).objects) (object-no-tombstone n k e) ∙ (sound-object n k e).found

  -- kind and length of an object determine each other
  pub kind-of-length : (k n : ℕ) → value_length L k ≡ some n → is_tombstone_kind L k ≡ false → object_kind L n ≡ some k
  kind-of-length k n e t = go (entry-cases k n e)
    where
      go : ((k ≡ (table L).tombstone_kind) × (n ≡ 0)) ⊎ Sound (table L).tombstone_kind (table L).objects k n → object_kind L n ≡ some k
      go (inl z) = absurd (eqb-false k (table L).tombstone_kind t z.0)
      go (inr s) = s.found_back

  -- the value of a tombstone is empty
  pub tombstone-empty : (k n : ℕ) → is_tombstone_kind L k ≡ true → value_length L k ≡ some n → n ≡ 0
  tombstone-empty k n t e = cc (eqb-true k (table L).tombstone_kind t, tombstone-length, e)

-- ---- versions

module _ (L : Layout) (v : ℕ) where
  pub version-good : 0 < v → v < version_limit L → good_version L v ≡ true
  unfolding good_version
  version-good p q = both_true (ltb 0 v) (ltb v (version_limit L)) (lt-ltb 0 v p) (lt-ltb v (version_limit L) q)

  pub version-positive : good_version L v ≡ true → 0 < v
  unfolding good_version
  version-positive g = ltb-true 0 v (both_left (ltb 0 v) (ltb v (version_limit L)) g)

  pub version_below : good_version L v ≡ true → v < version_limit L
  unfolding good_version
  version_below g = ltb-true v (version_limit L) (both_right (ltb 0 v) (ltb v (version_limit L)) g)

  pub version-fits : good_version L v ≡ true → v < 256 ^ (table L).width
  version-fits g = omega (arith, version_below g)

  pub version-zero : v ≡ 0 → good_version L v ≡ false
  unfolding good_version
  version-zero e = both-false-left (ltb 0 v) (ltb v (version_limit L)) (le-ltb 0 v (omega arith))

  pub version-past : version_limit L ≤ v → good_version L v ≡ false
  unfolding good_version
  version-past h = both-false-right (ltb 0 v) (ltb v (version_limit L)) (le-ltb v (version_limit L) h)

-- ---- the editions

-- a version has 4 bytes or 8
pub width_low : (L : Layout) → 4 ≤ (table L).width
unfolding table
width_low First = omega arith
width_low Second = omega arith

pub width-high : (L : Layout) → (table L).width ≤ 8
unfolding table
width-high First = omega arith
width-high Second = omega arith

pub first_width : (L : Layout) → L ≡ edition1 → (table L).width ≡ 4
unfolding table
first_width L e = ap (λ (x : Layout). (table x).width) e

pub second-width : (L : Layout) → L ≡ edition2 → (table L).width ≡ 8
unfolding table
second-width L e = ap (λ (x : Layout). (table x).width) e

-- no next version is above what 8 bytes hold
pub limit-high : (L : Layout) → version_limit L ≤ 18446744073709551615
unfolding table
limit-high First = omega arith
limit-high Second = omega arith

-- the test of one layout against another
pub same_layout_lem : (L K : Layout) → same_layout L K ≡ true → L ≡ K
unfolding same_layout
same_layout_lem First First e = refl
same_layout_lem First Second e = let z : ◌≡◌ {A = ℕ} 0 1 = cc in absurd (omega arith)
same_layout_lem Second First e = let z : ◌≡◌ {A = ℕ} 0 1 = cc in absurd (omega arith)
same_layout_lem Second Second e = refl

pub layout-same : (L : Layout) → same_layout L L ≡ true
unfolding same_layout
layout-same First = refl
layout-same Second = refl

-- ---- which edition a kind is of

tells : Layout → ℕ → Bool
tells L k = same_layout (layout_of_kind k) L

all_kinds : (ℕ → Bool) → List (ℕ × ℕ) → Bool
all_kinds t [] = true
all_kinds t (p ∷ ps) = both (t p.0) (all_kinds t ps)

of-all : (t : ℕ → Bool) (k n : ℕ) {ps : List (ℕ × ℕ)} → Memᴰ (k, n) ps → all_kinds t ps ≡ true → t k ≡ true
unfolding all_kinds
of-all t k n (Memᴰ.head {x = p} {xs = ps} q) e = ap (λ (x : ℕ × ℕ). t x.0) q ∙ both_left (t p.0) (all_kinds t ps) e
of-all t k n (Memᴰ.tail {x = p} {xs = ps} m) e = of-all t k n m (both_right (t p.0) (all_kinds t ps) e)

kinds-told : (L : Layout) → both (tells L (table L).tombstone_kind) (all_kinds (tells L) (table L).objects) ≡ true
unfolding table both tells all_kinds layout_of_kind pick same_layout
kinds-told First = refl
kinds-told Second = refl

pub kind-tells : (L : Layout) (k n : ℕ) → value_length L k ≡ some n → layout_of_kind k ≡ L
unfolding value_length tells
kind-tells L k n e = same_layout_lem (layout_of_kind k) L (go (eqb k (table L).tombstone_kind) refl)
  where
    go : (t : Bool) → eqb k (table L).tombstone_kind ≡ t → tells L k ≡ true
    go true q = ap (tells L) (eqb-true k (table L).tombstone_kind q) ∙ both_left _ (all_kinds (tells L) (table L).objects) (kinds-told L)
    go false q =
        of-all (tells L) k n
        (lookup-member k n (table L).objects (sym (pick-false (eqb k (table L).tombstone_kind) (some 0) (lookup k (table L).objects) q) ∙ e))
        (both_right (tells L (table L).tombstone_kind) _ (kinds-told L))

-- the other of the other is the first
pub other-other : (L : Layout) → other_layout (other_layout L) ≡ L
unfolding other_layout
other-other First = refl
other-other Second = refl

-- every edition has objects of the same lengths
some_or : (t : Bool) (a b : ℕ) (o u : Option ℕ) → is_none o ≡ is_none u → is_none (pick t (some a) o) ≡ is_none (pick t (some b) u)
unfolding pick is_none
some_or true a b o u e = refl
some_or false a b o u e = e

known-second : (n : ℕ) → is_none (object_kind edition1 n) ≡ is_none (object_kind edition2 n)
unfolding table look_back
known-second n =
    some_or (eqb n 8) 1 9 _ _ (some_or (eqb n 24) 2 10 _ _ (some_or (eqb n 56) 3 11 _ _ (some_or (eqb n 120) 7 12 none none refl)))

pub known-either : (L K : Layout) (n : ℕ) → is_none (object_kind L n) ≡ is_none (object_kind K n)
known-either First First n = refl
known-either First Second n = known-second n
known-either Second First n = sym (known-second n)
known-either Second Second n = refl

-- the number of a layout names it
pub numbered-layout : (L : Layout) → layout_numbered (number_of_layout L) ≡ some L
unfolding layout_numbered number_of_layout pick
numbered-layout First = refl
numbered-layout Second = refl

-- ---- a segment's edition

-- a segment that begins with an edition's digest is of that edition
pub layout-in : (L : Layout) (s : List ℕ) → get_or s 0 0 ≡ (table L).digest_kind → layout_in s ≡ L
unfolding layout_in table
layout-in First s e = pick-false (eqb (get_or s 0 0) 8) edition2 edition1 (ne_eqb (get_or s 0 0) 8 (λ q. omega (arith, e, q)))
layout-in Second s e = pick_true (eqb (get_or s 0 0) 8) edition2 edition1 (eq-eqb (get_or s 0 0) 8 e)

-- byte 0 alone tells the edition
pub layout-byte : (s t : List ℕ) → get_or s 0 0 ≡ get_or t 0 0 → layout_in s ≡ layout_in t
unfolding layout_in
layout-byte s t e = ap (λ (k : ℕ). pick (eqb k (table edition2).digest_kind) edition2 edition1) e
