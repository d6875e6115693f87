-- Laws of: The place of the next store at each test of the code, and that with the work buffer's byte it is the next store.
use Rattle.std.specs.Prelude.{ℕ, ◌+◌, ◌*◌, ◌-◌, ◌≤◌, ◌<◌, refl, Bool, false, not, List, eqb, ltb, leb, length, get_or, Ok, Err, None, Some}
use Rattle.std.proofs.Math.Path.{◌≡◌, sym, ap}
use Rattle.std.proofs.Common.{◌∙◌}
use Rattle.std.proofs.Math.Bool.{true}
use native.Mathlib.Omega.{arith}
use borrow.Author.Tests.{lt-ltb, le-ltb, le-leb, lt-leb, not-true, not-false, eq-eqb, ne_eqb, ltb-true, leb-true}
use Rattle.segment.specs.Choice.{pick, both}
use Rattle.segment.proofs.Choice.{pick_true, pick-false, both_left, both_true, both-false-left, both-false-right}
use Rattle.segment.specs.Layout.{Layout}
use Rattle.record.specs.declared.Record.{Record}
use Rattle.record.specs.declared.Refusal.{Refusal}
use Rattle.record.specs.Answered.{TellAnswer}
use Rattle.starting.specs.Stores.{commit_stores}
use Rattle.telling.specs.Next.{commit_store, fits_slot, fits_left, slot_store, slot_next, NextStore}
use Rattle.telling.proofs.NextLaws.{slot-facts}
use Rattle.telling.specs.Told.{told_by}
use Rattle.record.specs.AnswerLaws.{ok-same, some-same}
use Rattle.telling.specs.declared.NextPlace.{NextPlace}
use Rattle.telling.specs.Places.{byte_from, filled, commit_place, turn_place, slot_place, answered, PlaceTold, PlaceAnswer, Place}
use Rattle.telling.specs.declared.Target.{Target}
use Rattle.telling.specs.PlaceLaws.{Copies}

-- ---- a commit at each test; m is what the code finds for the number of stores

module _ (base S offset n j : ℕ) {m : ℕ} (total : m ≡ commit_stores S offset n) where
  pub place-last : j + 1 ≡ m → Some (record { place = (base + offset); from = 0; copied = true }) ≡ commit_place base S offset n j
  unfolding commit_place
  place-last e = sym (pick_true (eqb (j + 1) (commit_stores S offset n)) _ _ (eq-eqb (j + 1) (commit_stores S offset n) (e ∙ total)))

  module _ (more : j + 1 ≡ m → ⊥) where
    passed : commit_place base S offset n j ≡ pick (ltb (j + 1) n) (Some (record { place = (base + offset + (j + 1)); from = (j + 1); copied = true })) (Some (record { place = (base + offset + n); from = 0; copied = false }))
    unfolding commit_place
    passed =
        pick-false (eqb (j + 1) (commit_stores S offset n)) _ _
        (ne_eqb (j + 1) (commit_stores S offset n) (λ e. more (e ∙ sym total)))

    pub place_byte : j + 1 < n → Some (record { place = (base + offset + (j + 1)); from = (j + 1); copied = true }) ≡ commit_place base S offset n j
    place_byte h = sym (passed ∙ pick_true (ltb (j + 1) n) _ _ (lt-ltb (j + 1) n h))

    pub place_end : n ≤ j + 1 → Some (record { place = (base + offset + n); from = 0; copied = false }) ≡ commit_place base S offset n j
    place_end h = sym (passed ∙ pick-false (ltb (j + 1) n) _ _ (le-ltb (j + 1) n h))

-- ---- an operation at each test; t is what the code finds for the test of the slot

module _ (area_length work_length S slot offset n first k : ℕ) where
  place_at :
      fits_slot area_length work_length S slot offset n ≡ true → 0 < k → k ≤ commit_stores S offset n + first →
      slot_place area_length work_length S slot offset n first k ≡ turn_place (slot * S) S offset n first (commit_stores S offset n + first - k)
  unfolding slot_place fits_left
  place_at e more most = pick_true _ _ _ (both_true _ _ e (both_true _ _ (lt-ltb 0 k more) (le-leb k (commit_stores S offset n + first) most)))

  module _ {t : Bool} (found : t ≡ fits_slot area_length work_length S slot offset n) where
    pub place-unfit : not t ≡ true → None ≡ slot_place area_length work_length S slot offset n first k
    unfolding slot_place
    place-unfit e = sym (pick-false _ _ _ (both-false-left _ _ (sym found ∙ not-true t e)))

    module _ (fits : not t ≡ false) where
      pub place-none-left : k ≡ 0 → None ≡ slot_place area_length work_length S slot offset n first k
      unfolding slot_place fits_left
      place-none-left e = sym (pick-false _ _ _ (both-false-right _ _ (both-false-left _ _ (le-ltb 0 k (omega arith)))))

      module _ {m : ℕ} (total : m ≡ commit_stores S offset n) where
        pub place-too-many : m + first < k → None ≡ slot_place area_length work_length S slot offset n first k
        unfolding slot_place fits_left
        place-too-many h =
            sym (pick-false _ _ _ (both-false-right _ _ (both-false-right _ _ (lt-leb k (commit_stores S offset n + first) (omega arith)))))

        module _ (more : k ≡ 0 → ⊥) (most : k ≤ m + first) where
          pub place-first : m + first - k < first → Some (record { place = (slot * S); from = 0; copied = false }) ≡ slot_place area_length work_length S slot offset n first k
          unfolding turn_place
          place-first h =
              sym
              (place_at (sym found ∙ not-false t fits) (omega arith) (omega arith)
              ∙ pick_true _ _ _ (lt-ltb (commit_stores S offset n + first - k) first (omega arith)))

          pub place-commit :
              first ≤ m + first - k → {x : Place} → x ≡ commit_place (slot * S) S offset n (m + first - k - first) →
              x ≡ slot_place area_length work_length S slot offset n first k
          unfolding turn_place
          place-commit h e =
              let same : m + first - k - first ≡ commit_stores S offset n + first - k - first = omega arith in
              e ∙ ap (commit_place (slot * S) S offset n) same
              ∙ sym
              (place_at (sym found ∙ not-false t fits) (omega arith) (omega arith)
              ∙ pick-false _ _ _ (le-ltb (commit_stores S offset n + first - k) first (omega arith)))

-- ---- with the work buffer

filled-commit : (work : List ℕ) (base S offset n j : ℕ) → commit_store base S offset n work j ≡ filled work (commit_place base S offset n j)
unfolding commit_store commit_place filled pick
filled-commit work base S offset n j = go (eqb (j + 1) (commit_stores S offset n)) (ltb (j + 1) n)
  where
    go : (t u : Bool)
        → pick t (Some (record { place = (base + offset); byte = (get_or work 0 0) })) (pick u (Some (record { place = (base + offset + (j + 1)); byte = (get_or work (j + 1) 0) })) (Some (record { place = (base + offset + n); byte = 0 })))
        ≡ filled work (pick t (Some (record { place = (base + offset); from = 0; copied = true })) (pick u (Some (record { place = (base + offset + (j + 1)); from = (j + 1); copied = true })) (Some (record { place = (base + offset + n); from = 0; copied = false }))))
    go true u = refl
    go false true = refl
    go false false = refl

filled-turn : (work : List ℕ) (base S offset n first j : ℕ) → slot_store base S offset n work first j ≡ filled work (turn_place base S offset n first j)
unfolding slot_store turn_place filled pick
filled-turn work base S offset n first j = go (ltb j first)
  where
    go : (t : Bool) → pick t (Some (record { place = base; byte = 0 })) (commit_store base S offset n work (j - first))
        ≡ filled work (pick t (Some (record { place = base; from = 0; copied = false })) (commit_place base S offset n (j - first)))
    go true = refl
    go false = filled-commit work base S offset n (j - first)

pub filled-slot : (area_length : ℕ) (work : List ℕ) (S slot offset n first k : ℕ)
    → slot_next area_length work S slot offset n first k ≡ filled work (slot_place area_length (length work) S slot offset n first k)
unfolding slot_next slot_place filled pick
filled-slot area_length work S slot offset n first k =
    go (both (fits_slot area_length (length work) S slot offset n) (fits_left k (commit_stores S offset n + first)))
  where
    go : (t : Bool) → pick t (slot_store (slot * S) S offset n work first (commit_stores S offset n + first - k)) None
        ≡ filled work (pick t (turn_place (slot * S) S offset n first (commit_stores S offset n + first - k)) None)
    go true = filled-turn work (slot * S) S offset n first (commit_stores S offset n + first - k)
    go false = refl

-- where the work buffer is as long as the code says
pub filled_next : (area_length work_length S : ℕ) (t : Target) {x : Place}
    → x ≡ slot_place area_length work_length S t.slot t.offset t.count t.first t.left → (work : List ℕ) → length work ≡ work_length
    → filled work x ≡ slot_next area_length work S t.slot t.offset t.count t.first t.left
filled_next area_length work_length S t h work e =
    ap (filled work) h
    ∙ ap (λ (k : ℕ). filled work (slot_place area_length k S t.slot t.offset t.count t.first t.left)) (sym e)
    ∙ sym (filled-slot area_length work S t.slot t.offset t.count t.first t.left)

copies_at : (m k p f : ℕ) (c : Bool) → f ≤ m → (c ≡ true → f < k) → Copies m k (Some (record { place = p; from = f; copied = c }))
copies_at m k p f c l h q g d e =
    let s : ◌≡◌ {A = NextPlace ℕ} (record { place = p; from = f; copied = c }) (record { place = q; from = g; copied = d }) = some-same e in
    let same : f ≡ g = ap (λ (x : NextPlace ℕ). x.from) s in
    (omega arith, λ t. let copied : c ≡ true = ap (λ (x : NextPlace ℕ). x.copied) s ∙ t in omega (arith, h copied))

copies-bad : (m k : ℕ) → Copies m k None
copies-bad m k q g d e = let z : ◌≡◌ {A = ℕ} 0 1 = cc in absurd (omega arith)

copies-zero : (m k p : ℕ) → Copies m k (Some (record { place = p; from = 0; copied = false }))
copies-zero m k p = copies_at m k p 0 false (omega arith) (λ e. let z : ◌≡◌ {A = ℕ} 0 1 = cc in absurd (omega arith))

copies-pick : (m k : ℕ) (t : Bool) (x y : Place) → (t ≡ true → Copies m k x) → Copies m k y → Copies m k (pick t x y)
unfolding pick
copies-pick m k true x y h l = h refl
copies-pick m k false x y h l = l

copies-commit : (base S offset n j : ℕ) → 0 < n → Copies n n (commit_place base S offset n j)
unfolding commit_place
copies-commit base S offset n j more =
    copies-pick n n _ _ _ (λ _. copies_at n n _ 0 true (omega arith) (λ _. more))
    (copies-pick n n _ _ _ (λ e. let below = ltb-true (j + 1) n e in copies_at n n _ (j + 1) true (omega (arith, below)) (λ _. below)) (copies-zero n n _))

pub copies-slot : (area_length work_length S slot offset n first k : ℕ) → Copies n work_length (slot_place area_length work_length S slot offset n first k)
unfolding slot_place turn_place
copies-slot area_length work_length S slot offset n first k =
    copies-pick n work_length _ _ _
    (λ e p f c q.
    let fit = slot-facts area_length work_length S slot offset n (both_left _ _ e) in
    let below = copies-pick n n _ _ _ (λ _. copies-zero n n _) (copies-commit (slot * S) S offset n _ fit.some) p f c q in
    (below.0, λ t. omega (arith, below.1 t, fit.read)))
    (copies-bad n work_length)

-- ---- the answer

module _ (L : Layout) (r : Record) (area : List ℕ) (work_length : ℕ) where
  pub place-refused : (c : Refusal) → ((work : List ℕ) → length work ≡ work_length → Err c ≡ (told_by L r area work).answer)
      → PlaceTold L r area work_length (Err c)
  unfolding answered
  place-refused c h = record { told = h; inside = λ p f t e. let z : ◌≡◌ {A = ℕ} 0 1 = cc in absurd (omega arith) }

  pub place-told : (p f : ℕ) (c : Bool)
      → ((work : List ℕ) → length work ≡ work_length → Ok (record { place = p; byte = (byte_from work f c) }) ≡ (told_by L r area work).answer) → (c ≡ true → f < work_length)
      → PlaceTold L r area work_length (Ok (record { place = p; from = f; copied = c }))
  unfolding answered
  place-told p f c h l =
      record {
        told = h;
        inside =
            λ q g d e t.
            let s : ◌≡◌ {A = NextPlace ℕ} (record { place = p; from = f; copied = c }) (record { place = q; from = g; copied = d }) = ok-same e in
            let same : f ≡ g = ap (λ (x : NextPlace ℕ). x.from) s in
            let copied : c ≡ true = ap (λ (x : NextPlace ℕ). x.copied) s ∙ t in
            omega (arith, l copied);
      }
