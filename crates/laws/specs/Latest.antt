-- The latest entry of a key, characterised by the log's members: so that it is the same for logs with the same members.
use Rattle.std.specs.Prelude.{ℕ, ◌≤◌, ◌≡◌, refl, Bool, true, false, List, [], ◌∷◌, eqb, ltb}
use Rattle.std.proofs.Common.{sym, ◌∙◌, ap, arith, eq-eqb, eqb-true, ltb-true, ltb-false}
use mathlib.Core.List.Memᴰ
use Rattle.std.proofs.Math.Option.{Option, none, some}
use Rattle.segment.specs.Choice.{pick, either}
use Rattle.segment.proofs.Choice.{both_left, both_right, both_true}
use Rattle.segment.proofs.Choice.{either-true-left, either-true-right}
use Rattle.segment.specs.Entry.{Entry, key_of}
use Rattle.segment.specs.declared.Key.{Key}
use Rattle.model.specs.Log.{Placed, same_keys, same_key, later_of, latest, has_key}
use Rattle.laws.specs.Members.{clash, In, first, Within, Same}

-- ---- the test of a key

-- An entry has the key k exactly if k is the entry's key.
pub same_key_lem : (k : Key) (e : Entry) → same_key k e ≡ true → k ≡ key_of e
unfolding same_key same_keys
same_key_lem k e p = λ i. record { table = table i; key = key i }
  where
    table : k.table ≡ e.table
    table = eqb-true k.table e.table (both_left (eqb k.table e.table) (eqb k.key e.key) p)

    key : k.key ≡ e.key
    key = eqb-true k.key e.key (both_right (eqb k.table e.table) (eqb k.key e.key) p)

pub key-same : (k : Key) (e : Entry) → k ≡ key_of e → same_key k e ≡ true
unfolding same_key same_keys
key-same k e p =
    both_true (eqb k.table e.table) (eqb k.key e.key) (eq-eqb k.table e.table (ap (λ (j : Key). j.table) p))
    (eq-eqb k.key e.key (ap (λ (j : Key). j.key) p))

pub own_key : (e : Entry) → same_key (key_of e) e ≡ true
own_key e = key-same (key_of e) e refl

-- ---- the latest entry of a key

-- x is in the log, has the key k, and no entry of that key has a higher version.
pub record Newest (log : List Placed) (k : Key) (x : Placed) : Type 0 where
  pub member : In x log
  pub of-key : same_key k x.entry ≡ true
  pub none_above : (y : Placed) → In y log → same_key k y.entry ≡ true → y.entry.version ≤ x.entry.version

-- No entry of the log has the key k.
abbrev pub Keyless : List Placed → Key → Type 0
Keyless log k = (x : Placed) → In x log → same_key k x.entry ≡ false

pub data LatestIs (log : List Placed) (k : Key) : Option Placed → Type 0 where
  absent : Keyless log k → LatestIs log k none
  found : {x : Placed} → Newest log k x → LatestIs log k (some x)

-- the newer of x and the newest behind it
newer-is : (x : Placed) (xs : List Placed) (k : Key) (y : Placed) → same_key k x.entry ≡ true → Newest xs k y → (t : Bool) →
    ltb x.entry.version y.entry.version ≡ t → LatestIs (x ∷ xs) k (pick t (some y) (some x))
unfolding pick
newer-is x xs k y p n true e = found (record { member = Memᴰ.tail n.member; of-key = n.of-key; none_above = above })
  where
    above : (z : Placed) → In z (x ∷ xs) → same_key k z.entry ≡ true → z.entry.version ≤ y.entry.version
    above z (Memᴰ.head d) q =
        omega (arith, ltb-true x.entry.version y.entry.version e, ap (λ (w : Placed). w.entry.version) d)
    above z (Memᴰ.tail m) q = n.none_above z m q
newer-is x xs k y p n false e = found (record { member = first; of-key = p; none_above = above })
  where
    above : (z : Placed) → In z (x ∷ xs) → same_key k z.entry ≡ true → z.entry.version ≤ x.entry.version
    above z (Memᴰ.head d) q = omega (arith, ap (λ (w : Placed). w.entry.version) d)
    above z (Memᴰ.tail m) q = omega (arith, n.none_above z m q, ltb-false x.entry.version y.entry.version e)

-- an entry in front, of the key or not
first-is : (x : Placed) (xs : List Placed) (k : Key) (t : Bool) →
    same_key k x.entry ≡ t → (o : Option Placed) → LatestIs xs k o → LatestIs (x ∷ xs) k (pick t (later_of x o) o)
unfolding pick later_of
first-is x xs k true p none (absent f) = found (record { member = first; of-key = p; none_above = above })
  where
    above : (z : Placed) → In z (x ∷ xs) → same_key k z.entry ≡ true → z.entry.version ≤ x.entry.version
    above z (Memᴰ.head d) q = omega (arith, ap (λ (w : Placed). w.entry.version) d)
    above z (Memᴰ.tail m) q = absurd (clash (same_key k z.entry) q (f z m))
first-is x xs k true p (some y) (found n) = newer-is x xs k y p n (ltb x.entry.version y.entry.version) refl
first-is x xs k false p none (absent f) = absent none_of
  where
    none_of : Keyless (x ∷ xs) k
    none_of z (Memᴰ.head d) = ap (λ (w : Placed). same_key k w.entry) d ∙ p
    none_of z (Memᴰ.tail m) = f z m
first-is x xs k false p (some y) (found n) = found (record { member = Memᴰ.tail n.member; of-key = n.of-key; none_above = above })
  where
    above : (z : Placed) → In z (x ∷ xs) → same_key k z.entry ≡ true → z.entry.version ≤ y.entry.version
    above z (Memᴰ.head d) q = absurd (clash (same_key k z.entry) q (ap (λ (w : Placed). same_key k w.entry) d ∙ p))
    above z (Memᴰ.tail m) q = n.none_above z m q

pub latest-is : (log : List Placed) (k : Key) → LatestIs log k (latest log k)
unfolding latest
latest-is [] k = absent (λ x m. absurd (Memᴰ.not-nil m))
latest-is (x ∷ xs) k = first-is x xs k (same_key k x.entry) refl (latest xs k) (latest-is xs k)

-- the two halves of it, for a latest entry that is known
pub newest : {log : List Placed} {k : Key} {x : Placed} → LatestIs log k (some x) → Newest log k x
newest (found n) = n

pub keyless : {log : List Placed} {k : Key} → LatestIs log k none → Keyless log k
keyless (absent f) = f

pub latest-some : (log : List Placed) (k : Key) (x : Placed) → latest log k ≡ some x → Newest log k x
latest-some log k x e = newest (rw e at (latest-is log k))

pub latest-none : (log : List Placed) (k : Key) → latest log k ≡ none → Keyless log k
latest-none log k e = keyless (rw e at (latest-is log k))

-- ---- where versions differ there is only one latest entry

-- Members of one version are one.
abbrev pub Apart : List Placed → Type 0
Apart log = (x y : Placed) → In x log → In y log → x.entry.version ≡ y.entry.version → x ≡ y

pub apart-same : {a b : List Placed} → Same a b → Apart a → Apart b
apart-same s ap-a x y m n e = ap-a x y (s.from x m) (s.from y n) e

pub newest-one : (log : List Placed) (k : Key) (x y : Placed) → Apart log → Newest log k x → Newest log k y → x ≡ y
newest-one log k x y d m n =
    d x y m.member n.member (omega (arith, m.none_above y n.member n.of-key, n.none_above x m.member m.of-key))

pub latest-one : (log : List Placed) (k : Key) → Apart log → (a b : Option Placed) → LatestIs log k a → LatestIs log k b → a ≡ b
latest-one log k d none none (absent f) (absent g) = refl
latest-one log k d none (some y) (absent f) (found n) = absurd (clash (same_key k y.entry) n.of-key (f y n.member))
latest-one log k d (some x) none (found m) (absent g) = absurd (clash (same_key k x.entry) m.of-key (g x m.member))
latest-one log k d (some x) (some y) (found m) (found n) = ap some (newest-one log k x y d m n)

pub latest-unique : (log : List Placed) (k : Key) (o : Option Placed) → Apart log → LatestIs log k o → latest log k ≡ o
latest-unique log k o d l = latest-one log k d (latest log k) o (latest-is log k) l

-- ---- only the members count

pub newest-same : {a b : List Placed} {k : Key} {x : Placed} → Same a b → Newest a k x → Newest b k x
newest-same s n =
    record { member = s.to _ n.member; of-key = n.of-key; none_above = λ y m p. n.none_above y (s.from y m) p }

pub latest-is-same : {a b : List Placed} {k : Key} {o : Option Placed} → Same a b → LatestIs a k o → LatestIs b k o
latest-is-same s (absent f) = absent (λ x m. f x (s.from x m))
latest-is-same s (found n) = found (newest-same s n)

pub latest-same : (a b : List Placed) (k : Key) → Same a b → Apart a → latest a k ≡ latest b k
latest-same a b k s d = sym (latest-unique b k (latest a k) (apart-same s d) (latest-is-same s (latest-is a k)))

-- ---- whether any entry has a key

pub has-key : (log : List Placed) (k : Key) (x : Placed) → In x log → same_key k x.entry ≡ true → has_key log k ≡ true
unfolding has_key
has-key [] k x m p = elim m [ ]
has-key (y ∷ ys) k x (Memᴰ.head e) p =
    either-true-left (same_key k y.entry) (has_key ys k) (ap (λ (w : Placed). same_key k w.entry) (sym e) ∙ p)
has-key (y ∷ ys) k x (Memᴰ.tail m) p = either-true-right (same_key k y.entry) (has_key ys k) (has-key ys k x m p)

pub key-had : (log : List Placed) (k : Key) → has_key log k ≡ true → (x : Placed) × In x log × same_key k x.entry ≡ true
unfolding has_key either
key-had [] k e = let z : ◌≡◌ {A = ℕ} 0 1 = cc in absurd (omega arith)
key-had (y ∷ ys) k e = go (same_key k y.entry) refl e (λ d. key-had ys k d)
  where
    go : (t : Bool) → same_key k y.entry ≡ t → either t (has_key ys k) ≡ true →
        (has_key ys k ≡ true → (x : Placed) × In x ys × same_key k x.entry ≡ true) → (x : Placed) × In x (y ∷ ys) × same_key k x.entry ≡ true
    go true p d ih = (y, first, p)
    go false p d ih = let h = ih d in (h.0, Memᴰ.tail h.1, h.2)

pub key-none : (log : List Placed) (k : Key) → Keyless log k → has_key log k ≡ false
key-none log k f = go (has_key log k) refl
  where
    go : (t : Bool) → has_key log k ≡ t → has_key log k ≡ false
    go true p = let h = key-had log k p in absurd (clash (same_key k h.0.entry) h.2 (f h.0 h.1))
    go false p = p

pub has-key-within : (a b : List Placed) (k : Key) → Within a b → has_key a k ≡ true → has_key b k ≡ true
has-key-within a b k w e = let h = key-had a k e in has-key b k h.0 (w h.0 h.1) h.2

-- a log has the key of which it has a latest entry
pub latest-has : (log : List Placed) (k : Key) (x : Placed) → latest log k ≡ some x → has_key log k ≡ true
latest-has log k x e = let n = latest-some log k x e in has-key log k x n.member n.of-key
