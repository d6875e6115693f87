-- The versions of a log, by how often each stands in it: that two entries share one, and the highest.
use Rattle.std.specs.Prelude.{ℕ, ◌+◌, ◌-◌, ◌≤◌, ◌<◌, max, ◌≡◌, refl, Bool, true, false, List, [], ◌∷◌, ◌++◌, eqb}
use Rattle.std.proofs.Common.{sym, ◌∙◌, ap, arith, eq-eqb, eqb-true}
use mathlib.Core.List.Memᴰ
use Rattle.std.proofs.Math.Decide.{dec_le}
use Rattle.std.proofs.Math.Nat.{le-max_left, le-max_right, max-le}
use Rattle.segment.specs.Choice.{pick, either}
use Rattle.segment.proofs.Choice.{pick_true, pick-false, either-false, either-false-left, either-false-right}
use Rattle.segment.specs.Entry.{Entry}
use Rattle.model.specs.Log.{Placed, has_version, version_shared, highest}
use Rattle.laws.specs.Members.{In, first, Within, Same, Added, added-same, entries_of, entries-append, total, total-append}
use Rattle.laws.specs.Latest.{Apart}

-- ---- how many entries of the log have the version v

-- 1 for an entry of version v, else 0
unfoldable pub counted : ℕ → Entry → ℕ
counted v e = pick (eqb e.version v) 1 0

counted-one : (v : ℕ) (e : Entry) → e.version ≡ v → counted v e ≡ 1
unfolding counted
counted-one v e d = pick_true (eqb e.version v) 1 0 (eq-eqb e.version v d)

counted-not : (v : ℕ) (e : Entry) → eqb e.version v ≡ false → counted v e ≡ 0
unfolding counted
counted-not v e d = pick-false (eqb e.version v) 1 0 d

abbrev pub count : ℕ → List Placed → ℕ
count v log = total (counted v) (entries_of log)

pub count-append : (v : ℕ) (a b : List Placed) → count v (a ++ b) ≡ count v a + count v b
count-append v a b = rw (entries-append a b) (total-append (counted v) (entries_of a) (entries_of b))

pub count-member : (v : ℕ) {x : Placed} {log : List Placed} → In x log → x.entry.version ≡ v → 1 ≤ count v log
unfolding total
count-member v {x = x} (Memᴰ.head {x = y} d) e =
    omega (arith, counted-one v y.entry (ap (λ (w : Placed). w.entry.version) (sym d) ∙ e))
count-member v (Memᴰ.tail m) e = omega (arith, count-member v m e)

pub count-found : (v : ℕ) (log : List Placed) → 1 ≤ count v log → (x : Placed) × In x log × x.entry.version ≡ v
unfolding total
count-found v [] h = absurd (omega arith)
count-found v (y ∷ ys) h = go (eqb y.entry.version v) refl (λ i. count-found v ys i)
  where
    go : (t : Bool) → eqb y.entry.version v ≡ t → (1 ≤ count v ys → (x : Placed) × In x ys × x.entry.version ≡ v) →
        (x : Placed) × In x (y ∷ ys) × x.entry.version ≡ v
    go true e ih = (y, first, eqb-true y.entry.version v e)
    go false e ih = let r = ih (omega (arith, counted-not v y.entry e)) in (r.0, Memᴰ.tail r.1, r.2)

-- ---- whether two entries share a version

-- no entry has the version v, if it is counted 0 times
version-none : (log : List Placed) (v : ℕ) → count v log ≡ 0 → has_version log v ≡ false
unfolding total has_version
version-none [] v h = refl
version-none (x ∷ xs) v h = go (eqb x.entry.version v) refl (λ i. version-none xs v i)
  where
    go : (t : Bool) → eqb x.entry.version v ≡ t → (count v xs ≡ 0 → has_version xs v ≡ false) → either t (has_version xs v) ≡ false
    go true e ih = absurd (omega (arith, counted-one v x.entry (eqb-true x.entry.version v e)))
    go false e ih = either-false false (has_version xs v) refl (ih (omega arith))

none-counted : (log : List Placed) (v : ℕ) → has_version log v ≡ false → count v log ≡ 0
unfolding total has_version
none-counted [] v h = refl
none-counted (x ∷ xs) v h =
    let out : counted v x.entry ≡ 0 = counted-not v x.entry (either-false-left (eqb x.entry.version v) (has_version xs v) h) in
    omega (arith, none-counted xs v (either-false-right (eqb x.entry.version v) (has_version xs v) h))

-- Versions are shared unless each stands at most once.
pub shared-count : (log : List Placed) → version_shared log ≡ false → (v : ℕ) → count v log ≤ 1
unfolding total version_shared
shared-count [] h v = omega arith
shared-count (x ∷ xs) h v =
    go (eqb x.entry.version v) refl
    (shared-count xs (either-false-right (has_version xs x.entry.version) (version_shared xs) h) v)
  where
    alone : count x.entry.version xs ≡ 0
    alone = none-counted xs x.entry.version (either-false-left (has_version xs x.entry.version) (version_shared xs) h)

    go : (t : Bool) → eqb x.entry.version v ≡ t → count v xs ≤ 1 → counted v x.entry + count v xs ≤ 1
    go true e ih =
        let d : x.entry.version ≡ v = eqb-true x.entry.version v e in
        omega (arith, counted-one v x.entry d, rw d at alone)
    go false e ih = omega (arith, counted-not v x.entry e)

pub count-shared : (log : List Placed) → ((v : ℕ) → count v log ≤ 1) → version_shared log ≡ false
unfolding total version_shared
count-shared [] h = refl
count-shared (x ∷ xs) h =
    either-false (has_version xs x.entry.version) (version_shared xs)
    (version-none xs x.entry.version (omega (arith, h x.entry.version, counted-one x.entry.version x.entry refl)))
    (count-shared xs (λ v. omega (arith, h v)))

-- So fewer entries share no more.
pub shared-fewer : (a b : List Placed) → ((v : ℕ) → count v a ≤ count v b) → version_shared b ≡ false → version_shared a ≡ false
shared-fewer a b h e = count-shared a (λ v. omega (arith, h v, shared-count b e v))

-- Members of one version are one where no version is shared.
pub shared-apart : (log : List Placed) → version_shared log ≡ false → Apart log
unfolding total version_shared
shared-apart [] h x y m n e = absurd (Memᴰ.not-nil m)
shared-apart (z ∷ zs) h x y m n e =
    go m n (λ i j. shared-apart zs (either-false-right (has_version zs z.entry.version) (version_shared zs) h) x y i j e)
  where
    alone : (w : Placed) → In w zs → z.entry.version ≡ w.entry.version → ⊥
    alone w i d =
        omega (
          arith,
          count-member z.entry.version i (sym d),
          none-counted zs z.entry.version (either-false-left (has_version zs z.entry.version) (version_shared zs) h),
        )

    go : In x (z ∷ zs) → In y (z ∷ zs) → (In x zs → In y zs → x ≡ y) → x ≡ y
    go (Memᴰ.head p) (Memᴰ.head q) ih = p ∙ sym q
    go (Memᴰ.head p) (Memᴰ.tail j) ih = absurd (alone y j (ap (λ (w : Placed). w.entry.version) (sym p) ∙ e))
    go (Memᴰ.tail i) (Memᴰ.head q) ih = absurd (alone x i (ap (λ (w : Placed). w.entry.version) (sym q) ∙ sym e))
    go (Memᴰ.tail i) (Memᴰ.tail j) ih = ih i j

-- Two logs with no version in common.
abbrev pub Disjoint : List Placed → List Placed → Type 0
Disjoint a b = (x y : Placed) → In x a → In y b → x.entry.version ≡ y.entry.version → ⊥

pub shared-append : (a b : List Placed) → version_shared a ≡ false → version_shared b ≡ false → Disjoint a b → version_shared (a ++ b) ≡ false
shared-append a b p q d =
    count-shared (a ++ b) (λ v. rw (count-append v a b) (go v (dec_le 1 (count v a)) (dec_le 1 (count v b))))
  where
    go : (v : ℕ) → Dec (1 ≤ count v a) → Dec (1 ≤ count v b) → count v a + count v b ≤ 1
    go v (yes i) (yes j) =
        let x = count-found v a i in
        let y = count-found v b j in
        absurd (d x.0 y.0 x.1 y.1 (x.2 ∙ sym y.2))
    go v (yes i) (no j) = omega (arith, shared-count a p v)
    go v (no i) j = omega (arith, shared-count b q v)

-- ---- the highest version

pub highest-above : {x : Placed} {log : List Placed} → In x log → x.entry.version ≤ highest log
unfolding highest
highest-above (Memᴰ.head {x = y} {xs = ys} d) =
    omega (arith, ap (λ (w : Placed). w.entry.version) d, le-max_left y.entry.version (highest ys))
highest-above (Memᴰ.tail {x = y} {xs = ys} m) = omega (arith, highest-above m, le-max_right y.entry.version (highest ys))

pub highest-least : (log : List Placed) (n : ℕ) → ((x : Placed) → In x log → x.entry.version ≤ n) → highest log ≤ n
unfolding highest
highest-least [] n h = omega arith
highest-least (x ∷ xs) n h = max-le (h x first) (highest-least xs n (λ y m. h y (Memᴰ.tail m)))

-- A version is above the highest exactly if it is above every one.
pub highest-below : (log : List Placed) (v : ℕ) → 0 < v → ((x : Placed) → In x log → x.entry.version < v) → highest log < v
highest-below log v p h = omega (arith, highest-least log (v - 1) (λ x m. omega (arith, h x m)))

pub below-highest : (log : List Placed) (v : ℕ) → highest log < v → (x : Placed) → In x log → x.entry.version < v
below-highest log v h x m = omega (arith, highest-above m)

-- Only the members count.
pub highest-within : (a b : List Placed) → Within a b → highest a ≤ highest b
highest-within a b w = highest-least a (highest b) (λ x m. highest-above (w x m))

pub highest-same : (a b : List Placed) → Same a b → highest a ≡ highest b
highest-same a b s = omega (arith, highest-within a b s.to, highest-within b a s.from)

pub highest-append : (a b : List Placed) → highest (a ++ b) ≡ max (highest a) (highest b)
unfolding highest
highest-append [] b = omega arith
highest-append (x ∷ a) b = omega (arith, highest-append a b)

pub highest-added : (log : List Placed) (x : Placed) (after : List Placed) → Added log x after → highest after ≡ max x.entry.version (highest log)
unfolding highest
highest-added log x after w = sym (highest-same (x ∷ log) after (added-same w))
