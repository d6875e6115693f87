-- 02, R-12: the slots of a converted area, one behind the other, and what each is viewed as.
use Prim.Native.Nat.{ℕ, zero, suc, ◌+◌, ◌*◌, ◌-◌, ◌^◌, ◌≤◌, ◌<◌}
use Rattle.std.specs.Prelude.{◌≡◌, refl, Bool, ltb, length, get_or, take, drop, replicate}
use Rattle.std.proofs.Math.Path.{sym}
use Rattle.std.proofs.Common.{◌∙◌, ap, subst, zero-mul, length-drop, take_all, drop_at, get_or-append-add, ltb-false, le-ltb}
use Rattle.std.proofs.Math.Bool.{true, false}
use mathlib.Core.List.{List, [], ◌++◌, Memᴰ}
use Rattle.std.proofs.Math.Option.{Option, none, some}
use Rattle.std.proofs.Math.Decide.{ℕ_discrete}
use Rattle.std.proofs.Math.Nat.{suc-mul}
use native.Mathlib.Omega.{arith}
use Rattle.std.proofs.Math.ListN.{length-append}
use Rattle.std.proofs.lemmas.List.{length-replicate, take-append-le, drop-append-le}
use Rattle.std.proofs.Math.Seq.{take-append_seam}
use Rattle.word.specs.Number.{Bytes}
use Rattle.word.specs.Laws.{bytes-append}
use Rattle.segment.specs.Choice.{pick, both}
use Rattle.segment.proofs.Choice.{pick_true, pick-false}
use Rattle.segment.specs.Layout.{Layout, digest_size, table}
use Rattle.segment.specs.Entry.{Entry, WellFormed}
use Rattle.segment.specs.Digest.{encoded_digest}
use Rattle.segment.proofs.DigestLaws.{bytes-encoded_digest}
use Rattle.segment.specs.declared.Digest.{Digest}
use Rattle.model.specs.Log.{View, scanned, segment_of, view_of, views_of}
use Rattle.model.specs.Operations.{all_encoded}
use Rattle.model.specs.Conversion.{entries_in, slot_bytes, rewritten, filled_to, converted_slot, converted_slots, slot_too_long}
use Rattle.laws.specs.Stores.{Written, slots_apart}
use Rattle.laws.specs.Scans.{items_from, bytes-all_encoded, no-digest}
use Rattle.laws.specs.NewHeadBytes.{head_bytes, length-head_bytes, head-view}
use Rattle.laws.specs.LogLaws.{any_below, below_none, none_below_lem, both-true-false, both-of-true}

-- ---- bytes with zeros behind them

zeros : (n i : ℕ) → ◌≡◌ {A = ℕ} (get_or (replicate n 0) i 0) 0
zeros zero i = refl
zeros (suc n) zero = refl
zeros (suc n) (suc i) = zeros n i

pub bytes-zeros : (n : ℕ) → Bytes (replicate n 0)
bytes-zeros n i = omega (arith, zeros n i)

module _ (S : ℕ) (bytes : List ℕ) where
  pub length-filled : length bytes ≤ S → length (filled_to S bytes) ≡ S
  length-filled h =
      omega (arith, length-append bytes (replicate (S - length bytes) 0), length-replicate {A = ℕ} (S - length bytes) 0)

  filled-written : Written (filled_to S bytes) (filled_to S bytes) 0 bytes
  filled-written =
      record {
        same_length = refl;
        front = refl;
        own = take-append_seam bytes (replicate (S - length bytes) 0);
        ends =
            ap (λ (k : ℕ). get_or (filled_to S bytes) k 0) (omega arith) ∙ get_or-append-add bytes (replicate (S - length bytes) 0) 0 0 ∙
            zeros (S - length bytes) 0;
      }

  bytes-filled : Bytes bytes → Bytes (filled_to S bytes)
  bytes-filled h = bytes-append bytes (replicate (S - length bytes) 0) h (bytes-zeros (S - length bytes))

-- ---- one slot

-- What a slot needs to be written in the layout K: its digest's fields and its entries' versions fit, and so do all its bytes.
pub record Convertible (K : Layout) (S : ℕ) (w : View) (d : Digest) : Type 0 where
  pub has-digest : w.digest ≡ some d
  pub number_fits : d.number.0 < 256 ^ 4
  pub map-fits : d.map < 256 ^ 4
  pub next_fits : d.next.0 < 256 ^ (table K).width
  pub formed : (x : Entry) → Memᴰ x (entries_in w) → WellFormed K x
  pub fits : digest_size K + length (all_encoded K (entries_in w)) ≤ S

pub rewritten-head : (K : Layout) (w : View) (d : Digest) → w.digest ≡ some d → rewritten K w ≡ head_bytes K d (entries_in w)
unfolding slot_bytes
rewritten-head K w d e = ap (λ (o : Option Digest). slot_bytes K o (entries_in w)) e

-- what such a slot is viewed as then
abbrev pub view_in : Layout → Digest → List Entry → View
view_in K d es =
    record { layout = K; digest = some d; scan = scanned (items_from K (digest_size K) es) (digest_size K + length (all_encoded K es)) }

module _ (K : Layout) (S : ℕ) (w : View) (d : Digest) (c : Convertible K S w d) where
  pub convertible-short : length (rewritten K w) ≤ S
  convertible-short =
      omega (arith, ap length (rewritten-head K w d c.has-digest), length-head_bytes K d (entries_in w), c.fits)

  pub convertible-bytes : Bytes (rewritten K w)
  convertible-bytes =
      subst Bytes (sym (rewritten-head K w d c.has-digest))
      (bytes-append (encoded_digest K d) (all_encoded K (entries_in w)) (bytes-encoded_digest K d) (bytes-all_encoded K (entries_in w) c.formed))

  pub rewritten-view : view_of (filled_to S (rewritten K w)) ≡ view_in K d (entries_in w)
  rewritten-view =
      ap (λ (b : List ℕ). view_of (filled_to S b)) (rewritten-head K w d c.has-digest) ∙
      head-view K d (entries_in w) c.number_fits c.map-fits c.next_fits c.formed (filled_to S (head_bytes K d (entries_in w)))
      (filled_to S (head_bytes K d (entries_in w))) (filled-written S (head_bytes K d (entries_in w)))
      (omega (
        arith,
        length-filled S (head_bytes K d (entries_in w)) (omega (arith, length-head_bytes K d (entries_in w), c.fits)),
        c.fits,
      ))

-- ---- all slots

too-long-any : (K : Layout) (v : ℕ → View) (p : ℕ → Bool) (S n : ℕ)
    → slot_too_long K v p S n ≡ any_below (λ i. both (p i) (ltb S (length (rewritten K (v i))))) n
unfolding slot_too_long any_below
too-long-any K v p S zero = refl
too-long-any K v p S (suc n) = cc (too-long-any K v p S n)

module _ (K : Layout) (v : ℕ → View) (p : ℕ → Bool) (S : ℕ) where
  -- 29 does not hold
  pub short-slots : (n : ℕ) → slot_too_long K v p S n ≡ false → (i : ℕ) → i < n → p i ≡ true → length (rewritten K (v i)) ≤ S
  short-slots n e i l q =
      ltb-false S (length (rewritten K (v i)))
      (both-true-false (p i) (ltb S (length (rewritten K (v i))))
      (below_none n (λ k. both (p k) (ltb S (length (rewritten K (v k))))) (sym (too-long-any K v p S n) ∙ e) i l) q)

  pub slots-short : (n : ℕ) → ((i : ℕ) → i < n → p i ≡ true → length (rewritten K (v i)) ≤ S) → slot_too_long K v p S n ≡ false
  slots-short n f =
      too-long-any K v p S n ∙
      none_below_lem n (λ k. both (p k) (ltb S (length (rewritten K (v k)))))
      (λ i l. both-of-true (p i) (ltb S (length (rewritten K (v i)))) (λ q. le-ltb S (length (rewritten K (v i))) (f i l q)))

  pub bytes-slots : (n : ℕ) → ((i : ℕ) → i < n → p i ≡ true → Bytes (rewritten K (v i))) → Bytes (converted_slots K v p S n)
  unfolding converted_slots
  bytes-slots zero f = λ i. omega arith
  bytes-slots (suc n) f =
      bytes-append (converted_slots K v p S n) (converted_slot K v p S n) (bytes-slots n (λ i l q. f i (omega arith) q))
      (bytes-filled S (pick (p n) (rewritten K (v n)) []) (content (p n) refl))
    where
      content : (t : Bool) → p n ≡ t → Bytes (pick t (rewritten K (v n)) [])
      content true q = unfold pick in f n (omega arith) q
      content false q = unfold pick in λ i. omega arith

  module _ (n : ℕ) (short : slot_too_long K v p S n ≡ false) where
    content-short : (i : ℕ) → i < n → length (pick (p i) (rewritten K (v i)) []) ≤ S
    content-short i l = go (p i) refl
      where
        go : (t : Bool) → p i ≡ t → length (pick t (rewritten K (v i)) []) ≤ S
        go true q = unfold pick in short-slots n short i l q
        go false q = unfold pick in omega arith

    pub length-slot : (i : ℕ) → i < n → length (converted_slot K v p S i) ≡ S
    length-slot i l = length-filled S (pick (p i) (rewritten K (v i)) []) (content-short i l)

  -- the first k slots of those that are not too long
  module _ (n : ℕ) (short : slot_too_long K v p S n ≡ false) where
    pub length-slots : (k : ℕ) → k ≤ n → length (converted_slots K v p S k) ≡ k * S
    unfolding converted_slots
    length-slots zero h = sym (zero-mul S)
    length-slots (suc k) h =
        omega (
          arith,
          length-append (converted_slots K v p S k) (converted_slot K v p S k),
          length-slots k (omega arith),
          length-slot n short k (omega arith),
          suc-mul k S,
        )

    pub segment-slots : (k : ℕ) → k ≤ n → (i : ℕ) → i < k → segment_of (converted_slots K v p S k) S i ≡ converted_slot K v p S i
    unfolding converted_slots
    segment-slots zero h i l = absurd (omega arith)
    segment-slots (suc k) h i l = go (ℕ_discrete i k) (λ b. segment-slots k (omega arith) i b)
      where
        front : List ℕ
        front = converted_slots K v p S k

        last : List ℕ
        last = converted_slot K v p S k

        at_last : segment_of (front ++ last) S k ≡ last
        at_last =
            ap (take S) (drop_at front last (k * S) (length-slots k (omega arith))) ∙
            take_all S last (omega (arith, length-slot n short k (omega arith)))

        at_front : i < k → segment_of (front ++ last) S i ≡ segment_of front S i
        at_front b =
            ap (take S) (drop-append-le (i * S) front last (omega (arith, slots_apart S b, length-slots k (omega arith)))) ∙
            take-append-le S (drop (i * S) front) last
            (omega (arith, slots_apart S b, length-slots k (omega arith), length-drop (i * S) front))

        go : Dec (i ≡ k) → (i < k → segment_of front S i ≡ converted_slot K v p S i) → segment_of (front ++ last) S i ≡ converted_slot K v p S i
        go (yes q) r = subst (λ (j : ℕ). segment_of (front ++ last) S j ≡ converted_slot K v p S j) (sym q) at_last
        go (no q) r = let b : i < k = omega arith in at_front b ∙ r b

-- ---- what the slots of the converted area are viewed as

module _ (K : Layout) (v : ℕ → View) (p : ℕ → Bool) (S n : ℕ) (some_byte : 0 < S) (short : slot_too_long K v p S n ≡ false) where
  abbrev target : List ℕ
  target = converted_slots K v p S n

  pub target-slot : (i : ℕ) → i < n → segment_of target S i ≡ converted_slot K v p S i
  target-slot i l = segment-slots K v p S n short n (omega arith) i l

  -- a slot of the log
  pub logged-view : (i : ℕ) → i < n → p i ≡ true → (d : Digest) → Convertible K S (v i) d → views_of target S i ≡ view_in K d (entries_in (v i))
  logged-view i l q d c =
      ap view_of (target-slot i l ∙ ap (filled_to S) (pick_true (p i) (rewritten K (v i)) [] q)) ∙ rewritten-view K S (v i) d c

  -- any other has no digest
  pub free-view : (i : ℕ) → i < n → p i ≡ false → (views_of target S i).digest ≡ none
  free-view i l q =
      no-digest (segment_of target S i)
      (ap (λ (b : List ℕ). get_or b 0 0) (target-slot i l ∙ ap (filled_to S) (pick-false (p i) (rewritten K (v i)) [] q)) ∙ zeros (S - 0) 0)
