-- One store changes one byte of one segment, and no other segment; what the stores of a plan do, one by one and together.
use Rattle.std.specs.Prelude.{ℕ, zero, suc, ◌+◌, ◌*◌, ◌-◌, ◌≤◌, ◌<◌, ◌≡◌, Bool, true, false, ltb, take, drop}
use Rattle.std.proofs.Math.Path.{refl, ap}
use Rattle.std.proofs.Common.{sym, ◌∙◌, subst, add-zero, add_assoc, mul-le-mul_right, add-one, arith, length-append, length-take, length-drop, length-set, get_or-drop, get_or-set_same, drop-set-lt, ltb-true, ltb-false, lt-ltb, le-ltb}
use mathlib.Core.List.{List, [], ◌∷◌, ◌++◌}
use Rattle.std.proofs.Math.ListN.{length, get_or, set, get_or-append, get_or-eq_default}
use Rattle.std.proofs.lemmas.List.Edits.{sets}
use Rattle.std.proofs.Math.Seq.{length-sets, take-set-lt, take-set-le, take-length}
use Rattle.std.proofs.lemmas.List.{set_comm, get_or_at, drop-set-add, take-append-le}
use Rattle.word.specs.Number.{Bytes}
use Rattle.word.specs.Laws.{bytes_drop, bytes-set, taken-sets}
use Rattle.segment.specs.Choice.{pick}
use Rattle.segment.proofs.Choice.{pick_true, pick-false}
use Rattle.model.specs.Log.{segment_of}
use Rattle.model.specs.Operations.{stores_from, commit, stored}

-- ---- the segments of an area

-- two slots do not overlap
pub slots_apart : (S : ℕ) {k i : ℕ} → k < i → k * S + S ≤ i * S
slots_apart S h = omega (arith, mul-le-mul_right S h)

pub slot-inside : (area : List ℕ) (n S i : ℕ) → length area ≡ n * S → i < n → i * S + S ≤ length area
slot-inside area n S i whole below = omega (arith, slots_apart S below)

pub length-segment : (area : List ℕ) (S i : ℕ) → i * S + S ≤ length area → length (segment_of area S i) ≡ S
length-segment area S i h = simp (length-take, length-drop) (omega arith)

pub segment-length : (a b : List ℕ) (S i : ℕ) → length a ≡ length b → length (segment_of a S i) ≡ length (segment_of b S i)
segment-length a b S i e = simp (length-take, length-drop, e)

-- ---- one store

module _ (area : List ℕ) (S i j b : ℕ) (inside : j < S) where
  pub store-own : segment_of (set area (i * S + j) b) S i ≡ set (segment_of area S i) j b
  store-own = ap (take S) (drop-set-add (i * S) area j b) ∙ take-set-lt S (drop (i * S) area) j b inside

  store-above : (k : ℕ) → k < i → segment_of (set area (i * S + j) b) S k ≡ segment_of area S k
  store-above k h =
      let far = slots_apart S h in
      let at : i * S + j ≡ k * S + (i * S + j - k * S) = omega arith in
      ap (λ (p : ℕ). segment_of (set area p b) S k) at
      ∙ ap (take S) (drop-set-add (k * S) area (i * S + j - k * S) b)
      ∙ take-set-le S (drop (k * S) area) (i * S + j - k * S) b (omega arith)

  store_below : (k : ℕ) → i < k → segment_of (set area (i * S + j) b) S k ≡ segment_of area S k
  store_below k h = ap (take S) (drop-set-lt (k * S) area (i * S + j) b (omega (arith, slots_apart S h)))

  pub store_other : (k : ℕ) → (k ≡ i → ⊥) → segment_of (set area (i * S + j) b) S k ≡ segment_of area S k
  store_other k apart = go (ltb k i) refl
    where
      go : (t : Bool) → ltb k i ≡ t → segment_of (set area (i * S + j) b) S k ≡ segment_of area S k
      go true p = store-above k (ltb-true k i p)
      go false p = let h = ltb-false k i p in store_below k (omega arith)

-- a store of 0 at byte 0 of a slot
module _ (area : List ℕ) (S i : ℕ) (some_byte : 0 < S) where
  at_first : set area (i * S) 0 ≡ set area (i * S + 0) 0
  at_first = rw (add-zero (i * S))

  pub first-own : get_or (segment_of (set area (i * S) 0) S i) 0 0 ≡ 0
  first-own =
      ap (λ (a : List ℕ). get_or (segment_of a S i) 0 0) at_first
      ∙ ap (λ (s : List ℕ). get_or s 0 0) (store-own area S i 0 0 some_byte)
      ∙ first-zero (segment_of area S i)
    where
      first-zero : (s : List ℕ) → get_or (set s 0 0) 0 0 ≡ 0
      first-zero [] = refl
      first-zero (b ∷ s) = refl

  pub first-other : (k : ℕ) → (k ≡ i → ⊥) → segment_of (set area (i * S) 0) S k ≡ segment_of area S k
  first-other k apart = ap (λ (a : List ℕ). segment_of a S k) at_first ∙ store_other area S i 0 0 some_byte k apart

-- ---- the stores of a plan

pub length-stored : (area : List ℕ) (plan : List (ℕ × ℕ)) → length (stored area plan) ≡ length area
unfolding stored
length-stored area [] = refl
length-stored area (x ∷ plan) = length-stored (set area x.0 x.1) plan ∙ length-set area x.0 x.1

pub stored-append : (area : List ℕ) (a b : List (ℕ × ℕ)) → stored area (a ++ b) ≡ stored (stored area a) b
unfolding stored
stored-append area [] b = refl
stored-append area (x ∷ a) b = stored-append (set area x.0 x.1) a b

-- after the last store, and one store more
pub stored-all : (area : List ℕ) (plan : List (ℕ × ℕ)) → stored area (take (length plan) plan) ≡ stored area plan
stored-all area plan = ap (stored area) (take-length plan)

pub stored_next : (area : List ℕ) (plan : List (ℕ × ℕ)) (k : ℕ) → k < length plan
    → stored area (take (suc k) plan) ≡ set (stored area (take k plan)) (get_or plan k (0, 0)).0 (get_or plan k (0, 0)).1
unfolding stored
stored_next area [] k h = absurd (omega arith)
stored_next area (x ∷ plan) zero h = refl
stored_next area (x ∷ plan) (suc k) h = stored_next (set area x.0 x.1) plan k (omega arith)

-- every byte that a plan stores is a byte
abbrev pub StoresBytes : List (ℕ × ℕ) → Type 0
StoresBytes plan = (k : ℕ) → (get_or plan k (0, 0)).1 < 256

pub bytes-stored : (area : List ℕ) (plan : List (ℕ × ℕ)) → Bytes area → StoresBytes plan → Bytes (stored area plan)
unfolding stored
bytes-stored area [] h p = h
bytes-stored area (x ∷ plan) h p = bytes-stored (set area x.0 x.1) plan (bytes-set area x.0 x.1 h (p 0)) (λ k. p (suc k))

pub stores-bytes-take : (k : ℕ) (plan : List (ℕ × ℕ)) → StoresBytes plan → StoresBytes (take k plan)
stores-bytes-take zero plan p j = omega arith
stores-bytes-take (suc k) [] p j = omega arith
stores-bytes-take (suc k) (x ∷ plan) p zero = p 0
stores-bytes-take (suc k) (x ∷ plan) p (suc j) = stores-bytes-take k plan (λ m. p (suc m)) j

pub stores-bytes-append : (a b : List (ℕ × ℕ)) → StoresBytes a → StoresBytes b → StoresBytes (a ++ b)
stores-bytes-append [] b p q j = q j
stores-bytes-append (x ∷ a) b p q zero = p 0
stores-bytes-append (x ∷ a) b p q (suc j) = stores-bytes-append a b (λ m. p (suc m)) q j

-- ---- a run of stores: bytes from a place on

pub length-stores_from : (p : ℕ) (bs : List ℕ) → length (stores_from p bs) ≡ length bs
unfolding stores_from
length-stores_from p [] = refl
length-stores_from p (b ∷ bs) = ap suc (length-stores_from (p + 1) bs)

pub get_d-stores_from : (p : ℕ) (bs : List ℕ) (k : ℕ) → k < length bs → get_or (stores_from p bs) k (0, 0) ≡ (p + k, get_or bs k 0)
unfolding stores_from
get_d-stores_from p [] k h = absurd (omega arith)
get_d-stores_from p (b ∷ bs) zero h = rw (add-zero p)
get_d-stores_from p (b ∷ bs) (suc k) h =
    let e : p + 1 + k ≡ p + suc k = omega arith in
    get_d-stores_from (p + 1) bs k (omega arith) ∙ rw e

pub stores-bytes-from : (p : ℕ) (bs : List ℕ) → Bytes bs → StoresBytes (stores_from p bs)
unfolding stores_from
stores-bytes-from p [] h j = omega arith
stores-bytes-from p (b ∷ bs) h zero = h 0
stores-bytes-from p (b ∷ bs) h (suc j) = stores-bytes-from (p + 1) bs (λ m. h (suc m)) j

pub stored-from : (area : List ℕ) (p : ℕ) (bs : List ℕ) → stored area (stores_from p bs) ≡ sets area p bs
unfolding stored stores_from
stored-from area p [] = refl
stored-from area p (b ∷ bs) = stored-from (set area p b) (p + 1) bs ∙ rw (add-one p)

-- a run within a slot, on that slot's segment
pub run-own : (area : List ℕ) (S i o : ℕ) (bs : List ℕ) → o + length bs ≤ S
    → segment_of (stored area (stores_from (i * S + o) bs)) S i ≡ sets (segment_of area S i) o bs
unfolding stored stores_from
run-own area S i o [] h = refl
run-own area S i o (b ∷ bs) h =
    let e : i * S + o + 1 ≡ i * S + suc o = omega arith in
    ap (λ (p : ℕ). segment_of (stored (set area (i * S + o) b) (stores_from p bs)) S i) e
    ∙ run-own (set area (i * S + o) b) S i (suc o) bs (omega arith)
    ∙ ap (λ (s : List ℕ). sets s (suc o) bs) (store-own area S i o b (omega arith))

-- ---- stores that fall within one slot, at an offset lo or above

pub data Within (S i lo : ℕ) : List (ℕ × ℕ) → Type 0 where
  no_store : Within S i lo []
  one_store : (j b : ℕ) {plan : List (ℕ × ℕ)} → lo ≤ j → j < S → Within S i lo plan → Within S i lo ((i * S + j, b) ∷ plan)

module _ {S i lo : ℕ} where
  pub within-append : {a b : List (ℕ × ℕ)} → Within S i lo a → Within S i lo b → Within S i lo (a ++ b)
  within-append no_store w = w
  within-append (one_store j b h q v) w = one_store j b h q (within-append v w)

  pub within-take : {plan : List (ℕ × ℕ)} (k : ℕ) → Within S i lo plan → Within S i lo (take k plan)
  within-take zero w = no_store
  within-take (suc k) no_store = no_store
  within-take (suc k) (one_store j b {plan = plan} h q w) = one_store j b h q (within-take {plan = plan} k w)

  pub within-lower : {plan : List (ℕ × ℕ)} (m : ℕ) → m ≤ lo → Within S i lo plan → Within S i m plan
  within-lower m l no_store = no_store
  within-lower m l (one_store j b h q w) = one_store j b (omega arith) q (within-lower m l w)

  pub within-other : (area : List ℕ) {plan : List (ℕ × ℕ)} → Within S i lo plan → (k : ℕ) → (k ≡ i → ⊥)
      → segment_of (stored area plan) S k ≡ segment_of area S k
  unfolding stored
  within-other area no_store k apart = refl
  within-other area (one_store j b h q w) k apart = within-other (set area (i * S + j) b) w k apart ∙ store_other area S i j b q k apart

  -- the bytes below lo stay
  pub within-front : (area : List ℕ) {plan : List (ℕ × ℕ)} → Within S i lo plan
      → take lo (segment_of (stored area plan) S i) ≡ take lo (segment_of area S i)
  unfolding stored
  within-front area no_store = refl
  within-front area (one_store j b h q w) =
      within-front (set area (i * S + j) b) w
      ∙ ap (take lo) (store-own area S i j b q)
      ∙ take-set-le lo (segment_of area S i) j b h

  -- a store below lo may as well come first
  pub within-late : (area : List ℕ) {plan : List (ℕ × ℕ)} (o b : ℕ) → o < lo → Within S i lo plan
      → set (stored area plan) (i * S + o) b ≡ stored (set area (i * S + o) b) plan
  unfolding stored
  within-late area o b l no_store = refl
  within-late area o b l (one_store j c {plan} h q w) =
      within-late (set area (i * S + j) c) o b l w
      ∙ ap (λ (a : List ℕ). stored a plan) (set_comm area (i * S + j) (i * S + o) c b (λ e. omega arith))

pub run-within : (S i lo o p : ℕ) (bs : List ℕ) → p ≡ i * S + o → lo ≤ o → o + length bs ≤ S → Within S i lo (stores_from p bs)
unfolding stores_from
run-within S i lo o p [] e l h = no_store
run-within S i lo o p (b ∷ bs) e l h =
    subst (λ (q : ℕ). Within S i lo ((q, b) ∷ stores_from (p + 1) bs)) (sym e)
    (one_store o b l (omega arith) (run-within S i lo (o + 1) (p + 1) bs (omega arith) (omega arith) (omega arith)))

pub run-other : (area : List ℕ) (S i o : ℕ) (bs : List ℕ) → o + length bs ≤ S → (k : ℕ) → (k ≡ i → ⊥)
    → segment_of (stored area (stores_from (i * S + o) bs)) S k ≡ segment_of area S k
run-other area S i o bs h k apart = within-other area (run-within S i o o (i * S + o) bs refl (omega arith) h) k apart

-- ---- a commit, store by store

-- the 0 after n bytes at an offset, and a commit but for its last store
abbrev pub end_store : ℕ → ℕ → ℕ → ℕ → List (ℕ × ℕ)
end_store S i o n = pick (ltb (o + n) S) ((i * S + o + n, 0) ∷ []) []

abbrev pub commit_body : ℕ → ℕ → ℕ → List ℕ → List (ℕ × ℕ)
commit_body S i o bytes = stores_from (i * S + o + 1) (drop 1 bytes) ++ end_store S i o (length bytes)

module _ (S i o n : ℕ) where
  pub end-stored : o + n < S → end_store S i o n ≡ (i * S + o + n, 0) ∷ []
  end-stored h = pick_true (ltb (o + n) S) ((i * S + o + n, 0) ∷ []) [] (lt-ltb (o + n) S h)

  pub no-end-stored : S ≤ o + n → end_store S i o n ≡ []
  no-end-stored h = pick-false (ltb (o + n) S) ((i * S + o + n, 0) ∷ []) [] (le-ltb (o + n) S h)

  pub end-within : (lo : ℕ) → lo ≤ o + n → Within S i lo (end_store S i o n)
  end-within lo l = go (ltb (o + n) S) refl
    where
      go : (t : Bool) → ltb (o + n) S ≡ t → Within S i lo (end_store S i o n)
      go true p =
          rw (end-stored (ltb-true (o + n) S p), add_assoc (i * S) o n) (one_store (o + n) 0 l (ltb-true (o + n) S p) no_store)
      go false p = rw (no-end-stored (ltb-false (o + n) S p)) no_store

  end-bytes : StoresBytes (end_store S i o n)
  end-bytes = go (ltb (o + n) S) refl
    where
      zero-byte : StoresBytes ((i * S + o + n, 0) ∷ [])
      zero-byte zero = omega arith
      zero-byte (suc j) = omega arith

      go : (t : Bool) → ltb (o + n) S ≡ t → StoresBytes (end_store S i o n)
      go true p = rw (end-stored (ltb-true (o + n) S p)) zero-byte
      go false p = rw (no-end-stored (ltb-false (o + n) S p)) (λ j. omega arith)

pub stores-bytes-commit : (S i o : ℕ) (bytes : List ℕ) → Bytes bytes → StoresBytes (commit S i o bytes)
stores-bytes-commit S i o bytes h =
    stores-bytes-append (commit_body S i o bytes) ((i * S + o, get_or bytes 0 0) ∷ [])
    (stores-bytes-append (stores_from (i * S + o + 1) (drop 1 bytes)) (end_store S i o (length bytes))
    (stores-bytes-from (i * S + o + 1) (drop 1 bytes) (bytes_drop 1 bytes h)) (end-bytes S i o (length bytes))) last_byte
  where
    last_byte : StoresBytes ((i * S + o, get_or bytes 0 0) ∷ [])
    last_byte zero = h 0
    last_byte (suc j) = omega arith

module _ (S i o : ℕ) (bytes : List ℕ) (some_byte : 0 < length bytes) where
  length_run : length (stores_from (i * S + o + 1) (drop 1 bytes)) ≡ length bytes - 1
  length_run = length-stores_from (i * S + o + 1) (drop 1 bytes) ∙ length-drop 1 bytes

  -- how many stores: one for each byte, and one for the 0 where the bytes end before S
  pub length-commit-within : o + length bytes < S → length (commit S i o bytes) ≡ length bytes + 1
  length-commit-within h = rw (end-stored S i o (length bytes) h) (simp length-append (omega (arith, length_run)))

  pub length-commit-full : S ≤ o + length bytes → length (commit S i o bytes) ≡ length bytes
  length-commit-full h = rw (no-end-stored S i o (length bytes) h) (simp length-append (omega (arith, length_run)))

  -- the bytes from the second on
  pub commit-byte : (k : ℕ) → k + 1 < length bytes → get_or (commit S i o bytes) k (0, 0) ≡ (i * S + o + 1 + k, get_or bytes (k + 1) 0)
  commit-byte k h =
      let e : 1 + k ≡ k + 1 = omega arith in
      get_or-append (commit_body S i o bytes) ((i * S + o, get_or bytes 0 0) ∷ []) (0, 0) k (simp length-append (omega (arith, length_run)))
      ∙ get_or-append (stores_from (i * S + o + 1) (drop 1 bytes)) (end_store S i o (length bytes)) (0, 0) k (omega (arith, length_run))
      ∙ get_d-stores_from (i * S + o + 1) (drop 1 bytes) k (simp length-drop (omega arith))
      ∙ ap {B = ℕ × ℕ} (λ (b : ℕ). (i * S + o + 1 + k, b)) (get_or-drop 1 bytes k 0 ∙ ap (λ (m : ℕ). get_or bytes m 0) e)

  -- the 0 after the last
  pub commit-end : (k : ℕ) → o + length bytes < S → k + 1 ≡ length bytes → get_or (commit S i o bytes) k (0, 0) ≡ (i * S + o + length bytes, 0)
  commit-end k h e =
      let p = stores_from (i * S + o + 1) (drop 1 bytes) in
      rw (end-stored S i o (length bytes) h)
      (get_or-append (p ++ (i * S + o + length bytes, 0) ∷ []) ((i * S + o, get_or bytes 0 0) ∷ []) (0, 0) k (simp length-append (omega (arith, length_run)))
      ∙ get_or_at p (i * S + o + length bytes, 0) [] (0, 0) k (omega (arith, length_run)))

  -- the first byte
  pub commit-last : (k : ℕ) → k + 1 ≡ length (commit S i o bytes) → get_or (commit S i o bytes) k (0, 0) ≡ (i * S + o, get_or bytes 0 0)
  commit-last k e =
      get_or_at (commit_body S i o bytes) (i * S + o, get_or bytes 0 0) [] (0, 0) k
      (omega (arith, length-append (commit_body S i o bytes) ((i * S + o, get_or bytes 0 0) ∷ [])))

-- ---- what a commit does to its slot

module _ (S i o : ℕ) (bytes : List ℕ) (some_byte : 0 < length bytes) (fits : o + length bytes ≤ S) where
  -- before its last store a commit leaves the byte at its offset and all before it
  body-within : Within S i (o + 1) (commit_body S i o bytes)
  body-within =
      within-append
      (run-within S i (o + 1) (o + 1) (i * S + o + 1) (drop 1 bytes) (omega arith) (omega arith) (simp length-drop (omega arith)))
      (end-within S i o (length bytes) (o + 1) (omega arith))

  pub prefix-within : (k : ℕ) → k < length (commit S i o bytes) → Within S i (o + 1) (take k (commit S i o bytes))
  prefix-within k h =
      rw (take-append-le k (commit_body S i o bytes) ((i * S + o, get_or bytes 0 0) ∷ [])
      (omega (arith, length-append (commit_body S i o bytes) ((i * S + o, get_or bytes 0 0) ∷ []))))
      (within-take k body-within)

  pub commit-within : Within S i o (commit S i o bytes)
  commit-within =
      within-append (within-lower o (omega arith) body-within) (one_store o (get_or bytes 0 0) (omega arith) (omega arith) no_store)

  -- the whole commit comes to the bytes in order, and the 0 after them
  pub commit-in-order : (area : List ℕ)
      → stored area (commit S i o bytes) ≡ stored (stored area (stores_from (i * S + o) bytes)) (end_store S i o (length bytes))
  unfolding stored stores_from
  commit-in-order area =
      stored-append area (commit_body S i o bytes) ((i * S + o, get_or bytes 0 0) ∷ [])
      ∙ within-late area o (get_or bytes 0 0) (omega arith) body-within
      ∙ stored-append (set area (i * S + o) (get_or bytes 0 0)) (stores_from (i * S + o + 1) (drop 1 bytes)) (end_store S i o (length bytes))
      ∙ ap (λ (plan : List (ℕ × ℕ)). stored (stored area plan) (end_store S i o (length bytes))) (first-stored bytes some_byte)
    where
      first-stored : (bs : List ℕ) → 0 < length bs → (i * S + o, get_or bs 0 0) ∷ stores_from (i * S + o + 1) (drop 1 bs) ≡ stores_from (i * S + o) bs
      first-stored [] h = absurd (omega arith)
      first-stored (b ∷ bs) h = refl

-- What it means that bytes come to stand at an offset o of a segment s, and an end behind them: t is the segment then. The
-- end is a 0, or that of the segment, past which `get_or` gives 0 too.
pub record Written (s t : List ℕ) (o : ℕ) (bytes : List ℕ) : Type 0 where
  pub same_length : length t ≡ length s
  pub front : take o t ≡ take o s
  pub own : take (length bytes) (drop o t) ≡ bytes
  pub ends : get_or t (o + length bytes) 0 ≡ 0

take-sets-le : (n : ℕ) (s : List ℕ) (o : ℕ) (bs : List ℕ) → n ≤ o → take n (sets s o bs) ≡ take n s
take-sets-le n s o [] h = refl
take-sets-le n s o (b ∷ bs) h = take-sets-le n (set s o b) (suc o) bs (omega arith) ∙ take-set-le n s o b h

module _ (s : List ℕ) (o : ℕ) (bytes : List ℕ) where
  pub written-full : o + length bytes ≡ length s → Written s (sets s o bytes) o bytes
  written-full e =
      record {
        same_length = length-sets s o bytes;
        front = take-sets-le o s o bytes (omega arith);
        own = taken-sets s o bytes (length bytes) refl (omega arith);
        ends = get_or-eq_default (sets s o bytes) 0 (omega (arith, length-sets s o bytes));
      }

  pub written-ended : o + length bytes < length s → Written s (set (sets s o bytes) (o + length bytes) 0) o bytes
  written-ended h =
      record {
        same_length = length-set (sets s o bytes) (o + length bytes) 0 ∙ length-sets s o bytes;
        front = take-set-le o (sets s o bytes) (o + length bytes) 0 (omega arith) ∙ take-sets-le o s o bytes (omega arith);
        own =
            ap (take (length bytes)) (drop-set-add o (sets s o bytes) (length bytes) 0)
            ∙ take-set-le (length bytes) (drop o (sets s o bytes)) (length bytes) 0 (omega arith)
            ∙ taken-sets s o bytes (length bytes) refl (omega arith);
        ends = get_or-set_same (sets s o bytes) (o + length bytes) 0 0 (omega (arith, length-sets s o bytes));
      }

module _ (S i o : ℕ) (bytes : List ℕ) (some_byte : 0 < length bytes) (fits : o + length bytes ≤ S) (area : List ℕ) where
  committed-ended : o + length bytes < S
      → segment_of (stored area (commit S i o bytes)) S i ≡ set (sets (segment_of area S i) o bytes) (o + length bytes) 0
  unfolding stored
  committed-ended h =
      ap (λ (a : List ℕ). segment_of a S i)
      (commit-in-order S i o bytes some_byte fits area
      ∙ ap (stored (stored area (stores_from (i * S + o) bytes))) (end-stored S i o (length bytes) h)
      ∙ ap (λ (p : ℕ). set (stored area (stores_from (i * S + o) bytes)) p 0) (add_assoc (i * S) o (length bytes)))
      ∙ store-own (stored area (stores_from (i * S + o) bytes)) S i (o + length bytes) 0 h
      ∙ ap (λ (s : List ℕ). set s (o + length bytes) 0) (run-own area S i o bytes fits)

  committed-full : S ≤ o + length bytes → segment_of (stored area (commit S i o bytes)) S i ≡ sets (segment_of area S i) o bytes
  unfolding stored
  committed-full h =
      ap (λ (a : List ℕ). segment_of a S i)
      (commit-in-order S i o bytes some_byte fits area
      ∙ ap (stored (stored area (stores_from (i * S + o) bytes))) (no-end-stored S i o (length bytes) h))
      ∙ run-own area S i o bytes fits

  -- whatever stood there
  pub commit-written : i * S + S ≤ length area → Written (segment_of area S i) (segment_of (stored area (commit S i o bytes)) S i) o bytes
  commit-written inside = go (ltb (o + length bytes) S) refl
    where
      go : (t : Bool) → ltb (o + length bytes) S ≡ t → Written (segment_of area S i) (segment_of (stored area (commit S i o bytes)) S i) o bytes
      go true p =
          let h = ltb-true (o + length bytes) S p in
          rw (committed-ended h) (written-ended (segment_of area S i) o bytes (omega (arith, length-segment area S i inside)))
      go false p =
          let h = ltb-false (o + length bytes) S p in
          rw (committed-full h) (written-full (segment_of area S i) o bytes (omega (arith, length-segment area S i inside)))
