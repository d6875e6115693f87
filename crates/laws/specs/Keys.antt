-- The keys with any entry in the log: each is listed once, and only the members' keys count.
use Rattle.std.specs.Prelude.{◌+◌, ◌≤◌, ◌≡◌, refl, Bool, true, false, List, [], ◌∷◌, length}
use Rattle.std.proofs.Common.{sym, ◌∙◌, arith}
use mathlib.Core.List.Memᴰ
use Rattle.segment.specs.Choice.{pick, either}
use Rattle.segment.proofs.Choice.{either-true-left, either-true-right}
use Rattle.segment.specs.Entry.{key_of}
use Rattle.segment.specs.declared.Key.{Key}
use Rattle.model.specs.Log.{Placed, same_key, has_key, keys_of}
use Rattle.model.specs.Operations.{count_new}
use Rattle.laws.specs.Members.{clash, In, Same, Added, added-same, Once, empty, more, once-length}
use Rattle.laws.specs.Latest.{same_key_lem, key-same, has-key-within}

-- ---- which keys are listed

pub key-listed : (log : List Placed) (k : Key) → has_key log k ≡ true → In k (keys_of log)
unfolding has_key keys_of either pick
key-listed [] k e = absurd (clash false e refl)
key-listed (x ∷ xs) k e = go (same_key k x.entry) refl e (has_key xs (key_of x.entry)) refl (λ j d. key-listed xs j d)
  where
    go : (s : Bool) → same_key k x.entry ≡ s → either s (has_key xs k) ≡ true → (t : Bool) → has_key xs (key_of x.entry) ≡ t →
        ((j : Key) → has_key xs j ≡ true → In j (keys_of xs)) → In k (pick t (keys_of xs) (key_of x.entry ∷ keys_of xs))
    go true p d true q ih = Memᴰ.cast (same_key_lem k x.entry p) (ih (key_of x.entry) q)
    go true p d false q ih = Memᴰ.head (same_key_lem k x.entry p)
    go false p d true q ih = ih k d
    go false p d false q ih = Memᴰ.tail (ih k d)

pub listed-key : (log : List Placed) (k : Key) → In k (keys_of log) → has_key log k ≡ true
unfolding has_key keys_of pick
listed-key [] k m = absurd (Memᴰ.not-nil m)
listed-key (x ∷ xs) k m = go (has_key xs (key_of x.entry)) m (λ i. listed-key xs k i)
  where
    later : has_key xs k ≡ true → either (same_key k x.entry) (has_key xs k) ≡ true
    later e = either-true-right (same_key k x.entry) (has_key xs k) e

    front : In k (key_of x.entry ∷ keys_of xs) → (In k (keys_of xs) → has_key xs k ≡ true) → either (same_key k x.entry) (has_key xs k) ≡ true
    front (Memᴰ.head e) ih = either-true-left (same_key k x.entry) (has_key xs k) (key-same k x.entry e)
    front (Memᴰ.tail i) ih = later (ih i)

    go : (t : Bool) → In k (pick t (keys_of xs) (key_of x.entry ∷ keys_of xs)) → (In k (keys_of xs) → has_key xs k ≡ true) →
        either (same_key k x.entry) (has_key xs k) ≡ true
    go true i ih = later (ih i)
    go false i ih = front i ih

pub keys-once : (log : List Placed) → Once (keys_of log)
unfolding keys_of pick
keys-once [] = empty
keys-once (x ∷ xs) = go (has_key xs (key_of x.entry)) refl (keys-once xs)
  where
    go : (t : Bool) → has_key xs (key_of x.entry) ≡ t → Once (keys_of xs) → Once (pick t (keys_of xs) (key_of x.entry ∷ keys_of xs))
    go true e ih = ih
    go false e ih = more (λ m. clash (has_key xs (key_of x.entry)) (listed-key xs (key_of x.entry) m) e) ih

-- ---- how many they are

-- The keys of a are keys of b.
abbrev pub KeysWithin : List Placed → List Placed → Type 0
KeysWithin a b = (k : Key) → has_key a k ≡ true → has_key b k ≡ true

pub keys-within : (a b : List Placed) → KeysWithin a b → length (keys_of a) ≤ length (keys_of b)
keys-within a b w = once-length (keys_of a) (keys_of b) (keys-once a) (λ k m. key-listed b k (w k (listed-key a k m)))

pub keys-same : (a b : List Placed) → Same a b → length (keys_of a) ≡ length (keys_of b)
keys-same a b s =
    omega (
      arith,
      keys-within a b (λ k e. has-key-within a b k s.to e),
      keys-within b a (λ k e. has-key-within b a k s.from e),
    )

-- One entry more is one key more if its key is new.
pub keys-added : (log : List Placed) (x : Placed) (after : List Placed) → Added log x after →
    length (keys_of after) ≡ length (keys_of log) + count_new log (key_of x.entry)
unfolding keys_of count_new pick
keys-added log x after w = sym (keys-same (x ∷ log) after (added-same w)) ∙ go (has_key log (key_of x.entry))
  where
    go : (t : Bool) → length (pick t (keys_of log) (key_of x.entry ∷ keys_of log)) ≡ length (keys_of log) + pick t 0 1
    go true = omega arith
    go false = omega arith
