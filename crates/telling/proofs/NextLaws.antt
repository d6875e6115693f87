-- Laws of: Place and byte at each test of the code, and for a started operation: the store of its plan whose turn it is.
use Rattle.std.specs.Prelude.{ℕ, ◌+◌, ◌*◌, ◌-◌, ◌≤◌, ◌<◌, Bool, true, false, not, List, eqb, ltb, leb, length, get_or, None, Some}
use Rattle.std.proofs.Math.Path.{◌≡◌, refl, sym, ap, subst⁻¹}
use Rattle.std.proofs.Common.{◌∙◌, mul-le-mul, mul-le-mul_right}
use Rattle.std.proofs.Math.Decide.{ℕ_discrete, dec_lt}
use native.Mathlib.Omega.{arith}
use borrow.Author.Tests.{lt-ltb, le-ltb, le-leb, lt-leb, not-true, not-false, eq-eqb, ne_eqb, ltb-true, leb-true}
use Rattle.segment.specs.Choice.{pick, both}
use Rattle.segment.proofs.Choice.{pick_true, pick-false, both_left, both_right, both_true, both-false-left, both-false-right}
use Rattle.record.specs.Answers.{stores_left}
use Rattle.record.specs.declared.Pending.{Pending}
use Rattle.record.specs.declared.Pending.TheVariants.{Idle, Append, NewHead, Clean, Forget}
use Rattle.record.specs.declared.Record.{Record}
use Rattle.starting.specs.Stores.{commit_stores, stores-full}
use Rattle.record.specs.AnswerLaws.{some-same}
use Rattle.record.specs.declared.ToldStore.{ToldStore}
use Rattle.telling.specs.Next.{commit_store, fits_slot, fits_left, slot_store, slot_next, head_target, target_of, pending_next, next_store, PendingIn, NextStore}
use Rattle.telling.specs.declared.Target.{Target}
use Rattle.telling.specs.NextLaws.{Fit}

-- ---- a store of a commit at each test; m is what the code finds for the number of stores

module _ (base S offset n : ℕ) (work : List ℕ) (j : ℕ) {m : ℕ} (total : m ≡ commit_stores S offset n) where
  pub store-last : j + 1 ≡ m → Some (record { place = (base + offset); byte = (get_or work 0 0) }) ≡ commit_store base S offset n work j
  unfolding commit_store
  store-last e = sym (pick_true (eqb (j + 1) (commit_stores S offset n)) _ _ (eq-eqb (j + 1) (commit_stores S offset n) (e ∙ total)))

  module _ (more : j + 1 ≡ m → ⊥) where
    passed : commit_store base S offset n work j
        ≡ pick (ltb (j + 1) n) (Some (record { place = (base + offset + (j + 1)); byte = (get_or work (j + 1) 0) })) (Some (record { place = (base + offset + n); byte = 0 }))
    unfolding commit_store
    passed =
        pick-false (eqb (j + 1) (commit_stores S offset n)) _ _
        (ne_eqb (j + 1) (commit_stores S offset n) (λ e. more (e ∙ sym total)))

    pub store_byte : j + 1 < n → Some (record { place = (base + offset + (j + 1)); byte = (get_or work (j + 1) 0) }) ≡ commit_store base S offset n work j
    store_byte h = sym (passed ∙ pick_true (ltb (j + 1) n) _ _ (lt-ltb (j + 1) n h))

    pub store-end : n ≤ j + 1 → Some (record { place = (base + offset + n); byte = 0 }) ≡ commit_store base S offset n work j
    store-end h = sym (passed ∙ pick-false (ltb (j + 1) n) _ _ (le-ltb (j + 1) n h))

-- a slot's end fits 64 bits
pub slot-end-fits : (slot S : ℕ) → slot < 4294967296 → S < 4294967296 → slot * S + S < 18446744073709551616
slot-end-fits slot S h l =
    let a : slot ≤ 4294967295 = omega arith in
    let b : S ≤ 4294967295 = omega arith in
    omega (arith, mul-le-mul a b)

module _ (area_length work_length S slot offset n : ℕ) where
  pub slot-empty : n ≡ 0 → false ≡ fits_slot area_length work_length S slot offset n
  unfolding fits_slot
  slot-empty e = sym (both-false-left _ _ (le-ltb 0 n (omega arith)))

  pub slot-unread : work_length < n → false ≡ fits_slot area_length work_length S slot offset n
  unfolding fits_slot
  slot-unread h = sym (both-false-right _ _ (both-false-left _ _ (lt-leb n work_length h)))

  pub slot-past : S < offset + n → false ≡ fits_slot area_length work_length S slot offset n
  unfolding fits_slot
  slot-past h = sym (both-false-right _ _ (both-false-right _ _ (both-false-left _ _ (lt-leb (offset + n) S h))))

  pub slot-rest : (n ≡ 0 → ⊥) → n ≤ work_length → offset + n ≤ S → leb (slot * S + S) area_length ≡ fits_slot area_length work_length S slot offset n
  unfolding fits_slot both
  slot-rest e h l = rw (lt-ltb 0 n (omega arith), le-leb n work_length h, le-leb (offset + n) S l)

  pub slot-facts : fits_slot area_length work_length S slot offset n ≡ true → Fit area_length work_length S slot offset n
  unfolding fits_slot
  slot-facts e =
      record {
        some = ltb-true 0 n (both_left _ _ e);
        read = leb-true n work_length (both_left _ _ (both_right _ _ e));
        room = leb-true (offset + n) S (both_left _ _ (both_right _ _ (both_right _ _ e)));
        inside = leb-true (slot * S + S) area_length (both_right _ _ (both_right _ _ (both_right _ _ e)));
      }

  pub slot-fits : Fit area_length work_length S slot offset n → fits_slot area_length work_length S slot offset n ≡ true
  unfolding fits_slot
  slot-fits f =
      both_true _ _ (lt-ltb 0 n f.some)
      (both_true _ _ (le-leb n work_length f.read)
      (both_true _ _ (le-leb (offset + n) S f.room) (le-leb (slot * S + S) area_length f.inside)))

-- ---- the next store where the test of the slot is passed, and where it is not; t is what is found for it

module _ (area_length : ℕ) (work : List ℕ) (S slot offset n first k : ℕ) where
  pub next-at :
      fits_slot area_length (length work) S slot offset n ≡ true → 0 < k → k ≤ commit_stores S offset n + first →
      slot_next area_length work S slot offset n first k ≡ slot_store (slot * S) S offset n work first (commit_stores S offset n + first - k)
  unfolding slot_next fits_left
  next-at e more most = pick_true _ _ _ (both_true _ _ e (both_true _ _ (lt-ltb 0 k more) (le-leb k (commit_stores S offset n + first) most)))

  module _ {t : Bool} (found : t ≡ fits_slot area_length (length work) S slot offset n) where
    pub next-unfit : not t ≡ true → None ≡ slot_next area_length work S slot offset n first k
    unfolding slot_next
    next-unfit e = sym (pick-false _ _ _ (both-false-left _ _ (sym found ∙ not-true t e)))

-- ---- the next store of each pending operation

module _ {p : Pending} (head end : ℕ) where
  pub target-idle : p ≡ Idle → record { slot = 0; offset = 0; count = 0; first = 0; left = 0 } ≡ target_of p head end
  unfolding target_of
  target-idle e = ap (λ (q : Pending). target_of q head end) (sym e)

  pub target-append : {n k : ℕ} → p ≡ Append n k → record { slot = head; offset = end; count = n; first = 0; left = k } ≡ target_of p head end
  unfolding target_of
  target-append e = ap (λ (q : Pending). target_of q head end) (sym e)

  pub target-new-head : {i n k : ℕ} → p ≡ NewHead i n k → {t : Target} → t ≡ head_target i n k → t ≡ target_of p head end
  unfolding target_of
  target-new-head e h = h ∙ ap (λ (q : Pending). target_of q head end) (sym e)

  pub target-clean : {i v n k : ℕ} → p ≡ Clean i v n k → {t : Target} → t ≡ head_target i n k → t ≡ target_of p head end
  unfolding target_of
  target-clean e h = h ∙ ap (λ (q : Pending). target_of q head end) (sym e)

  pub target-forget : {i v n k : ℕ} → p ≡ Forget i v n k → {t : Target} → t ≡ head_target i n k → t ≡ target_of p head end
  unfolding target_of
  target-forget e h = h ∙ ap (λ (q : Pending). target_of q head end) (sym e)

-- at most one store comes before
first-most : (p : Pending) (head end : ℕ) → (target_of p head end).first ≤ 1
unfolding target_of
first-most Idle head end = omega arith
first-most (Append n k) head end = omega arith
first-most (NewHead i n k) head end = omega arith
first-most (Clean i v n k) head end = omega arith
first-most (Forget i v n k) head end = omega arith

pub target_first : (p : Pending) (head end : ℕ) {t : Target} → t ≡ target_of p head end → t.first ≤ 1
target_first p head end e = subst⁻¹ (λ (t : Target). t.first ≤ 1) e (first-most p head end)

-- and it has the operation's stores left
left-same : (p : Pending) (head end : ℕ) → (target_of p head end).left ≡ stores_left p
unfolding target_of
left-same Idle head end = refl
left-same (Append n k) head end = refl
left-same (NewHead i n k) head end = refl
left-same (Clean i v n k) head end = refl
left-same (Forget i v n k) head end = refl

pub target_left : (p : Pending) (head end : ℕ) {t : Target} → t ≡ target_of p head end → t.left ≡ stores_left p
target_left p head end e = ap (λ (t : Target). t.left) e ∙ left-same p head end

module _ (area_length : ℕ) (work : List ℕ) (r : Record) where
  abbrev store_at : Target → NextStore
  store_at t = slot_next area_length work r.size t.slot t.offset t.count t.first t.left

  target-next : (p : Pending) → store_at (target_of p r.head r.end) ≡ pending_next area_length work r p
  unfolding target_of pending_next
  target-next Idle = sym (next-unfit area_length work r.size 0 0 0 0 0 {t = false} (slot-empty area_length (length work) r.size 0 0 0 refl) refl)
  target-next (Append n k) = refl
  target-next (NewHead i n k) = refl
  target-next (Clean i v n k) = refl
  target-next (Forget i v n k) = refl

  pub next-target : {t : Target} → t ≡ target_of r.pending r.head r.end → {x : NextStore} → x ≡ store_at t → x ≡ next_store area_length work r
  next-target e h = h ∙ ap store_at e ∙ target-next r.pending

-- ---- what is known where there is a next store

module _ (base S offset n : ℕ) (work : List ℕ) (j p b : ℕ) (some_byte : 0 < n) (room : offset + n ≤ S) (h : j < commit_stores S offset n)
    (e : commit_store base S offset n work j ≡ Some (record { place = p; byte = b }))
  where
    same_place : (x y : ℕ) → ◌≡◌ {A = NextStore} (Some (record { place = x; byte = y })) (Some (record { place = p; byte = b })) → x ≡ p
    same_place x y q = ap (λ (s : ToldStore). s.place) (some-same q)

    commit-inside : p < base + S
    commit-inside = go (ℕ_discrete (j + 1) (commit_stores S offset n)) (dec_lt (j + 1) n)
      where
        go : Dec (j + 1 ≡ commit_stores S offset n) → Dec (j + 1 < n) → p < base + S
        go (yes q) d =
            let s = same_place (base + offset) (get_or work 0 0) (store-last base S offset n work j refl q ∙ e) in
            omega arith
        go (no q) (yes d) =
            let s = same_place (base + offset + (j + 1)) (get_or work (j + 1) 0) (store_byte base S offset n work j refl q d ∙ e) in
            omega arith
        go (no q) (no d) =
            let s = same_place (base + offset + n) 0 (store-end base S offset n work j refl q (omega arith) ∙ e) in
            ended (dec_lt (offset + n) S) s
          where
            ended : Dec (offset + n < S) → base + offset + n ≡ p → p < base + S
            ended (yes w) s = omega arith
            ended (no w) s = absurd (q (omega (arith, stores-full S offset n (omega arith))))

module _ (area_length : ℕ) (work : List ℕ) (S slot offset n first k p b : ℕ) (e : slot_next area_length work S slot offset n first k ≡ Some (record { place = p; byte = b })) where
  never : ◌≡◌ {A = NextStore} None (Some (record { place = p; byte = b })) → ⊥
  never q = let z : ◌≡◌ {A = ℕ} 0 1 = cc in omega arith

  pub slot_at : Fit area_length (length work) S slot offset n × (p < area_length)
  unfolding slot_next fits_left slot_store
  slot_at = go (both (fits_slot area_length (length work) S slot offset n) (both (ltb 0 k) (leb k (commit_stores S offset n + first)))) refl
    where
      placed : Fit area_length (length work) S slot offset n → 0 < k → k ≤ commit_stores S offset n + first
          → slot_store (slot * S) S offset n work first (commit_stores S offset n + first - k) ≡ Some (record { place = p; byte = b }) → p < area_length
      placed f more most q = by (dec_lt (commit_stores S offset n + first - k) first)
        where
          by : Dec (commit_stores S offset n + first - k < first) → p < area_length
          by (yes d) =
              let s : Some (record { place = (slot * S); byte = 0 }) ≡ Some (record { place = p; byte = b }) =
              sym (pick_true (ltb (commit_stores S offset n + first - k) first) _ _ (lt-ltb (commit_stores S offset n + first - k) first d)) ∙ q in
              let same : slot * S ≡ p = ap (λ (t : ToldStore). t.place) (some-same s) in
              omega (arith, f.some, f.room, f.inside)
          by (no d) =
              let s : commit_store (slot * S) S offset n work (commit_stores S offset n + first - k - first) ≡ Some (record { place = p; byte = b }) =
              sym (pick-false (ltb (commit_stores S offset n + first - k) first) _ _ (le-ltb (commit_stores S offset n + first - k) first (omega arith))) ∙ q in
              omega (
                arith,
                commit-inside (slot * S) S offset n work (commit_stores S offset n + first - k - first) p b f.some f.room (omega arith) s,
                f.inside,
              )

      go : (t : Bool) → both (fits_slot area_length (length work) S slot offset n) (both (ltb 0 k) (leb k (commit_stores S offset n + first))) ≡ t
          → Fit area_length (length work) S slot offset n × (p < area_length)
      go true t =
          let f = slot-facts area_length (length work) S slot offset n (both_left _ _ t) in (
            f,
            placed f (ltb-true 0 k (both_left _ _ (both_right _ _ t)))
                (leb-true k (commit_stores S offset n + first) (both_right _ _ (both_right _ _ t))) (sym (pick_true _ _ _ t) ∙ e),
          )
      go false t = absurd (never (sym (pick-false _ _ _ t) ∙ e))

-- A slot whose segment lies in the area is one of the store's.
pub slot-below : (slots S slot : ℕ) → 0 < S → slot * S + S ≤ slots * S → slot < slots
slot-below slots S slot more h = go (dec_lt slot slots)
  where
    go : Dec (slot < slots) → slot < slots
    go (yes l) = l
    go (no l) =
        let over : slots ≤ slot = omega arith in
        absurd (omega (arith, mul-le-mul_right S over))

module _ (area_length : ℕ) (work : List ℕ) (r : Record) (p b : ℕ) (head : r.head < r.slots) (long : area_length ≡ r.slots * r.size) where
  own-slot : (i o n : ℕ) → Fit area_length (length work) r.size i o n → i < r.slots
  own-slot i o n f = slot-below r.slots r.size i (omega (arith, f.some, f.room)) (omega (arith, f.inside))

  pub next-inside : (q : Pending) → pending_next area_length work r q ≡ Some (record { place = p; byte = b }) → PendingIn r q × (p < area_length)
  unfolding pending_next PendingIn
  next-inside Idle e = let z : ◌≡◌ {A = ℕ} 0 1 = cc in absurd (omega arith)
  next-inside (Append n k) e =
      let f = slot_at area_length work r.size r.head r.end n 0 k p b e in
      ((head, f.0.room), f.1)
  next-inside (NewHead i n k) e =
      let f = slot_at area_length work r.size i 0 n 1 k p b e in
      ((own-slot i 0 n f.0, omega (arith, f.0.room)), f.1)
  next-inside (Clean i v n k) e =
      let f = slot_at area_length work r.size i 0 n 1 k p b e in
      ((own-slot i 0 n f.0, omega (arith, f.0.room)), f.1)
  next-inside (Forget i v n k) e =
      let f = slot_at area_length work r.size i 0 n 1 k p b e in
      ((own-slot i 0 n f.0, omega (arith, f.0.room)), f.1)
