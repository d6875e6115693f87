-- Logs of the same entries in the same slots and the same order, wherever in its slot each stands: keys, versions and map are the same.
use Rattle.std.specs.Prelude.{ℕ, zero, suc, ◌+◌, ◌<◌, max, ◌≡◌, refl, Bool, true, List, [], ◌∷◌, ◌++◌, eqb, ltb}
use Rattle.std.proofs.Common.{sym, ap, ◌∙◌, arith}
use Rattle.std.proofs.Math.Bool.{false}
use Rattle.std.proofs.Math.Option.{Option, none, some}
use Rattle.segment.specs.Choice.{pick, either}
use Rattle.segment.specs.Layout.{Layout}
use Rattle.segment.specs.Entry.{Entry, is_tombstone, key_of}
use Rattle.segment.specs.declared.Key.{Key}
use Rattle.model.specs.Log.{View, Item, Placed, items_of, placed_in, log_of, same_key, later_of, latest, object_only, present, has_key, keys_of, has_version, version_shared, highest}
use Rattle.laws.specs.MapLaws.{unplaced, value_at, gives}
use Rattle.laws.specs.Scans.{item_entries}

pub data Moved : List Placed → List Placed → Type 0 where
  no-entry : Moved [] []
  an-entry : {x y : Placed} {xs ys : List Placed} → x.slot ≡ y.slot → x.entry ≡ y.entry → Moved xs ys → Moved (x ∷ xs) (y ∷ ys)

-- ---- logs put together slot by slot

pub moved-append : {a b c d : List Placed} → Moved a b → Moved c d → Moved (a ++ c) (b ++ d)
moved-append no-entry q = q
moved-append (an-entry s e p) q = an-entry s e (moved-append p q)

moved-items : (L K : Layout) (i : ℕ) (xs ys : List Item) → item_entries xs ≡ item_entries ys → Moved (placed_in L i xs) (placed_in K i ys)
unfolding placed_in
moved-items L K i [] [] e = no-entry
moved-items L K i [] (y ∷ ys) e = let z : ◌≡◌ {A = ℕ} 0 1 = cc in absurd (omega arith)
moved-items L K i (x ∷ xs) [] e = let z : ◌≡◌ {A = ℕ} 0 1 = cc in absurd (omega arith)
moved-items L K i (x ∷ xs) (y ∷ ys) e =
    let same : x.entry ≡ y.entry = cc in
    let rest : item_entries xs ≡ item_entries ys = cc in
    an-entry refl same (moved-items L K i xs ys rest)

pub moved-log : (v w : ℕ → View) (p : ℕ → Bool) (n : ℕ)
    → ((i : ℕ) → i < n → p i ≡ true → item_entries (items_of (v i).scan) ≡ item_entries (items_of (w i).scan))
    → Moved (log_of v p n) (log_of w p n)
unfolding log_of
moved-log v w p zero same = no-entry
moved-log v w p (suc n) same = moved-append (moved-log v w p n (λ i l q. same i (omega arith) q)) (go (p n) refl)
  where
    go : (t : Bool) → p n ≡ t → Moved (pick t (placed_in (v n).layout n (items_of (v n).scan)) []) (pick t (placed_in (w n).layout n (items_of (w n).scan)) [])
    go true q = unfold pick in moved-items (v n).layout (w n).layout n (items_of (v n).scan) (items_of (w n).scan) (same n (omega arith) q)
    go false q = unfold pick in no-entry

-- ---- keys and versions

pub moved-has : {a b : List Placed} → Moved a b → (k : Key) → has_key a k ≡ has_key b k
unfolding has_key
moved-has no-entry k = refl
moved-has (an-entry s e p) k = λ i. either (same_key k (e i)) (moved-has p k i)

pub moved-keys : {a b : List Placed} → Moved a b → keys_of a ≡ keys_of b
unfolding keys_of
moved-keys no-entry = refl
moved-keys (an-entry {x} {y} {xs} {ys} s e p) =
    ap (λ (z : Entry). pick (has_key xs (key_of z)) (keys_of xs) (key_of z ∷ keys_of xs)) e
    ∙ λ i. pick (moved-has p (key_of y.entry) i) (moved-keys p i) (key_of y.entry ∷ moved-keys p i)

pub moved-version : {a b : List Placed} → Moved a b → (v : ℕ) → has_version a v ≡ has_version b v
unfolding has_version
moved-version no-entry v = refl
moved-version (an-entry s e p) v = λ i. either (eqb (e i).version v) (moved-version p v i)

pub moved-shared : {a b : List Placed} → Moved a b → version_shared a ≡ version_shared b
unfolding version_shared
moved-shared no-entry = refl
moved-shared (an-entry {x} {y} {xs} {ys} s e p) =
    ap (λ (z : Entry). either (has_version xs z.version) (version_shared xs)) e
    ∙ λ i. either (moved-version p y.entry.version i) (moved-shared p i)

pub moved-highest : {a b : List Placed} → Moved a b → highest a ≡ highest b
unfolding highest
moved-highest no-entry = refl
moved-highest (an-entry s e p) = λ i. max (e i).version (moved-highest p i)

-- ---- the map

-- the newer of two entries, and what the latest gives its key, without their places
unfoldable later_entry : Entry → Option Entry → Option Entry
later_entry x none = some x
later_entry x (some y) = pick (ltb x.version y.version) (some y) (some x)

unfoldable given : Option Entry → Option Entry
given none = none
given (some x) = gives x

pick-in : (t : Bool) (o u : Option Placed) → unplaced (pick t o u) ≡ pick t (unplaced o) (unplaced u)
unfolding pick
pick-in true o u = refl
pick-in false o u = refl

later-in : (x : Placed) (o : Option Placed) → unplaced (later_of x o) ≡ later_entry x.entry (unplaced o)
unfolding later_of later_entry unplaced
later-in x none = refl
later-in x (some y) = pick-in (ltb x.entry.version y.entry.version) (some y) (some x)

object-in : (o : Option Placed) → unplaced (object_only o) ≡ given (unplaced o)
unfolding object_only given gives unplaced
object-in none = refl
object-in (some x) = pick-in (is_tombstone x.entry) none (some x)

pub moved-latest : {a b : List Placed} → Moved a b → (k : Key) → unplaced (latest a k) ≡ unplaced (latest b k)
unfolding latest
moved-latest no-entry k = refl
moved-latest (an-entry {x} {y} {xs} {ys} s e p) k =
    first x xs
    ∙ (λ i. pick (same_key k (e i)) (later_entry (e i) (moved-latest p k i)) (moved-latest p k i))
    ∙ sym (first y ys)
  where
    first : (z : Placed) (zs : List Placed)
        → unplaced (pick (same_key k z.entry) (later_of z (latest zs k)) (latest zs k))
        ≡ pick (same_key k z.entry) (later_entry z.entry (unplaced (latest zs k))) (unplaced (latest zs k))
    first z zs =
        pick-in (same_key k z.entry) (later_of z (latest zs k)) (latest zs k)
        ∙ ap (λ (o : Option Entry). pick (same_key k z.entry) o (unplaced (latest zs k))) (later-in z (latest zs k))

-- a key is present in both with the same version and value, or in neither
pub moved-present : {a b : List Placed} → Moved a b → (k : Key) → value_at a k ≡ value_at b k
unfolding present
moved-present {a} {b} p k = object-in (latest a k) ∙ ap given (moved-latest p k) ∙ sym (object-in (latest b k))
