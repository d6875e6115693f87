-- The tests at each return of the code: premises are what the code's tests and callees told.
use Rattle.std.specs.Prelude.{ℕ, ◌+◌, ◌-◌, ◌≤◌, ◌≡◌, Bool, true, false, List, [], ◌∷◌, ◌++◌, eqb, ltb, get_or, Ok, Err}
use Rattle.std.proofs.Math.Path.{sym, ap}
use Rattle.std.proofs.Common.{◌∙◌}
use Rattle.std.proofs.Math.Bool.{not}
use borrow.Author.Tests.{eq-eqb, ne_eqb, eqb-false, not-false}
use Rattle.segment.specs.Choice.{both, is_none, or_zero}
use Rattle.segment.proofs.Choice.{both_true, both-false-left, both-false-right}
use Rattle.segment.specs.Layout.{Layout, object_kind, entry_size, digest_size, number_limit}
use Rattle.segment.proofs.LayoutLaws.{object-kind}
use Rattle.segment.specs.Area.{stands_at}
use Rattle.segment.proofs.KindsLaws.{no_kind, has-kind}
use Rattle.segment.specs.declared.Key.{Key}
use Rattle.segment.specs.declared.Version.{Version}
use Rattle.slot_map.specs.Count.{free}
use Rattle.record.specs.Range.{fits_lent}
use Rattle.record.specs.declared.Expected.{Expected}
use Rattle.record.specs.declared.Expected.TheVariants.{Any, Only}
use Rattle.record.specs.declared.Refusal.{Refusal}
use Rattle.record.specs.declared.Refusal.TheVariants.{BadRecord, ValueLength, VersionsSpent, NumbersSpent, KeysFull, NoRoom, OtherVersion, OutsideTables}
use Rattle.record.specs.declared.Record.{Record}
use Rattle.record.specs.declared.Tables.{Tables}
use Rattle.record.specs.Reach.{holds_table}
use Rattle.record.specs.RangeLaws.{Lent, lent}
use Rattle.model.specs.Causes.{Cause, when, first_cause}
use Rattle.model.specs.Operations.{fits_with}
use Rattle.model.specs.Refused.{Lengths, Terms, KeyFacts, expects_other, versions_spent, numbers_spent, reach_causes, write_causes, no_room}
use Rattle.laws.specs.Entering.{Roomy}
use Rattle.laws.specs.CauseLaws.{NoCause, no-cause}
use Rattle.index.specs.Search.{search_for}
use Rattle.index.specs.declared.Found.TheVariants.{At, Free, Full}
use Rattle.record.specs.Answered.{Check}
use Rattle.starting.specs.Checks.{checked, idle_causes}
use Rattle.starting.specs.NewHead.{NumberLeft}
use Rattle.starting.specs.CheckLaws.{refused, skipped, passed, checked-none, part-refused, part-passed, record-bad}
use Rattle.writing.specs.declared.Presence.{Presence}
use Rattle.writing.specs.declared.Presence.TheVariants.{Object, Nothing, Forbidden}
use Rattle.writing.specs.Tests.{facts_of, presence_of, presence_at, presence_for, first_tests, version_tests, expected_tests, key_tests, number_tests, room_tests, entry_tests, present_tests, full_tests}

-- ---- 21

module _ (v : ℕ) where
  pub version-any : (e : Expected) → e ≡ Any → Ok tt ≡ checked (first_cause (version_tests e v))
  unfolding version_tests expects_other
  version-any e q = skipped _ _ (ap (λ (x : Expected). expects_other x v) q) passed

  module _ (e : Expected) (only : Version) (q : e ≡ Only only) where
    pub version-same : only.0 ≡ v → Ok tt ≡ checked (first_cause (version_tests e v))
    unfolding version_tests expects_other
    version-same h = skipped _ _ (ap (λ (x : Expected). expects_other x v) q ∙ ap not (eq-eqb only.0 v h)) passed

    pub version-other : (only.0 ≡ v → ⊥) → Err OtherVersion ≡ checked (first_cause (version_tests e v))
    unfolding version_tests expects_other
    version-other h = refused _ _ (ap (λ (x : Expected). expects_other x v) q ∙ ap not (ne_eqb only.0 v h))

-- ---- 4 and 21, by what is known of the key

module _ (e : Expected) (p : Presence) where
  pub expected-at :
      {a : Check} (x : Presence) → p ≡ x → (facts_of x).forbidden ≡ false → a ≡ checked (first_cause (version_tests e (facts_of x).version)) →
      a ≡ checked (first_cause (expected_tests e (facts_of p)))
  unfolding version_tests expected_tests
  expected-at x q sound h =
      skipped _ _ (ap (λ (y : Presence). (facts_of y).forbidden) q ∙ sound)
      (h ∙ sym (ap (λ (y : Presence). checked (first_cause (when (expects_other e (facts_of y).version) OtherVersion ∷ []))) q))

  pub expected-forbidden : p ≡ Forbidden → Err BadRecord ≡ checked (first_cause (expected_tests e (facts_of p)))
  unfolding facts_of expected_tests
  expected-forbidden q = refused _ _ (ap (λ (y : Presence). (facts_of y).forbidden) q)

-- ---- 11, by what is known of the key

module _ (r : Record) where
  pub keys-over : r.keys ≡ r.cells - 1 → Err KeysFull ≡ checked (first_cause (key_tests r (facts_of Nothing)))
  unfolding facts_of both key_tests
  keys-over e = refused _ _ (eq-eqb r.keys (r.cells - 1) e)

  pub keys-left : (r.keys ≡ r.cells - 1 → ⊥) → Ok tt ≡ checked (first_cause (key_tests r (facts_of Nothing)))
  unfolding facts_of both key_tests
  keys-left n = skipped _ _ (ne_eqb r.keys (r.cells - 1) n) passed

  module _ (p : Presence) where
    -- a key that the log has
    pub key-known : (x : Presence) → p ≡ x → (facts_of x).in-log ≡ true → Ok tt ≡ checked (first_cause (key_tests r (facts_of p)))
    unfolding key_tests
    key-known x q known =
        skipped _ _ (both-false-left (not (facts_of p).in-log) _ (ap (λ (y : Presence). not (facts_of y).in-log) q ∙ ap not known)) passed

    pub key-new :
        {a : Check} (x : Presence) → p ≡ x → (facts_of x).in-log ≡ false → a ≡ checked (first_cause (key_tests r (facts_of Nothing))) →
        a ≡ checked (first_cause (key_tests r (facts_of p)))
    unfolding key_tests facts_of
    key-new x q new h =
        h ∙ sym (ap (λ (t : Bool). checked (first_cause (when (both (not t) (eqb r.keys (r.cells - 1))) KeysFull ∷ [])))
        (ap (λ (y : Presence). (facts_of y).in-log) q ∙ new))

-- ---- 12 and 10: t is what the code finds for the fit, and f for the free slots

module _ (L : Layout) (r : Record) (n : ℕ) (t : Bool) (e : t ≡ fits_with L r n) where
  pub room_fits : t ≡ true → false ≡ no_room L r n
  room_fits h = sym (both-false-left _ _ (ap not (sym e ∙ h)))

  pub room-free : t ≡ false → (f : ℕ) → f ≡ free r.slots r.map → ltb f 2 ≡ no_room L r n
  unfolding both
  room-free out f q = rw (sym e ∙ out, q)

  pub number_fits : t ≡ true → Ok tt ≡ checked (first_cause (number_tests L r n))
  unfolding number_tests
  number_fits h = skipped _ _ (both-false-left _ _ (ap not (sym e ∙ h))) passed

  module _ (out : t ≡ false) where
    pub number-spent : r.digest.0 ≡ number_limit → Err NumbersSpent ≡ checked (first_cause (number_tests L r n))
    unfolding number_tests
    number-spent h = refused _ _ (both_true _ _ (ap not (sym e ∙ out)) (eq-eqb r.digest.0 number_limit h))

    pub number-left : (r.digest.0 ≡ number_limit → ⊥) → Ok tt ≡ checked (first_cause (number_tests L r n))
    unfolding number_tests
    number-left h = skipped _ _ (both-false-right _ _ (ne_eqb r.digest.0 number_limit h)) passed

-- t is what the code finds for the room
module _ (L : Layout) (r : Record) (n : ℕ) {t : Bool} (e : t ≡ no_room L r n) where
  pub room-none : t ≡ true → Err NoRoom ≡ checked (first_cause (room_tests L r n))
  unfolding room_tests
  room-none h = refused _ _ (sym e ∙ h)

  pub room-enough : {a : Check} → t ≡ false → a ≡ checked (first_cause (number_tests L r n)) → a ≡ checked (first_cause (room_tests L r n))
  unfolding room_tests
  room-enough h g = skipped _ _ (sym e ∙ h) g

-- ---- a write: k is what the code finds for the kind of its value

kind-none : (L : Layout) (n k : ℕ) → k ≡ or_zero (object_kind L n) → k ≡ 0 → is_none (object_kind L n) ≡ true
unfolding is_none
kind-none L n k e z = ap is_none (no_kind L n (sym e ∙ z))

kind-some : (L : Layout) (n k : ℕ) → k ≡ or_zero (object_kind L n) → (k ≡ 0 → ⊥) → is_none (object_kind L n) ≡ false
unfolding is_none
kind-some L n k e z = ap is_none (has-kind L n k e z)

-- an object of that value fits a fresh segment of the smallest size
pub kind-room :
    (L : Layout) (n k : ℕ) → Roomy L → k ≡ or_zero (object_kind L n) → (k ≡ 0 → ⊥) → digest_size L + entry_size L n ≤ 256
kind-room L n k roomy e z = roomy.room k n (object-kind L n k (has-kind L n k e z))

-- ---- 9, 11, 12 and 10

module _ (L : Layout) (r : Record) (k : KeyFacts) (n : ℕ) where
  pub entry-spent : versions_spent r ≡ true → Err VersionsSpent ≡ checked (first_cause (entry_tests L r k n))
  unfolding entry_tests
  entry-spent h = refused _ _ h

  module _ (left : versions_spent r ≡ false) where
    pub entry_key : (c : Refusal) → Err c ≡ checked (first_cause (key_tests r k)) → Err c ≡ checked (first_cause (entry_tests L r k n))
    unfolding entry_tests
    entry_key c h = skipped _ _ left (part-refused (key_tests r k) (room_tests L r n) c h)

    pub entry-room :
        {a : Check} → Ok tt ≡ checked (first_cause (key_tests r k)) → a ≡ checked (first_cause (room_tests L r n)) →
        a ≡ checked (first_cause (entry_tests L r k n))
    unfolding entry_tests
    entry-room h g = skipped _ _ left (part-passed (key_tests r k) (room_tests L r n) h g)

-- ---- 4, 22, 3 and 5: x is what the code finds for the range and the lengths, and y for the key's table

module _ (L : Layout) (r : Record) (l : Lengths) (t : Tables) (k : Key) {x : Bool} (e : x ≡ fits_lent L r l.area l.index) where
  pub first-bad : not x ≡ true → Err BadRecord ≡ checked (first_cause (first_tests L r l t k))
  unfolding first_tests
  first-bad h = refused _ _ (record-bad L r l e h)

  module _ (fits : not x ≡ false) {y : Bool} (d : y ≡ holds_table t k.table) where
    pub first-outside : not y ≡ true → Err OutsideTables ≡ checked (first_cause (first_tests L r l t k))
    unfolding first_tests
    first-outside h = skipped _ _ (sym (ap not e) ∙ fits) (refused _ _ (sym (ap not d) ∙ h))

    pub first-idle : {a : Check} → not y ≡ false → a ≡ checked (first_cause (idle_causes r l.work)) → a ≡ checked (first_cause (first_tests L r l t k))
    unfolding first_tests
    first-idle h g = skipped _ _ (sym (ap not e) ∙ fits) (skipped _ _ (sym (ap not d) ∙ h) g)

-- what they leave
pub first-lent :
    (L : Layout) (r : Record) (l : Lengths) (t : Tables) (k : Key) → Ok tt ≡ checked (first_cause (first_tests L r l t k)) →
    Lent L r l.area l.index
unfolding first_tests
first-lent L r l t k h =
    lent L r l.area l.index
    (not-false (fits_lent L r l.area l.index) (no-cause (reach_causes L r l t k ++ idle_causes r l.work) (checked-none _ h)).0)

-- ---- a write: p is what the code finds for the key

module _ (L : Layout) (r : Record) (l : Lengths) (q : Terms) (j : Key) (p : Presence) (n : ℕ) where
  abbrev WriteIs : Check → Type 0
  WriteIs a = a ≡ checked (first_cause (write_causes L r l q j (facts_of p) n))

  pub write-first : (c : Refusal) → Err c ≡ checked (first_cause (first_tests L r l q.tables j)) → WriteIs (Err c)
  unfolding first_tests idle_causes
  write-first c h = part-refused (first_tests L r l q.tables j) _ c h

  module _ (first : Ok tt ≡ checked (first_cause (first_tests L r l q.tables j))) where
    pub write-value : (m : ℕ) → m ≡ or_zero (object_kind L n) → m ≡ 0 → WriteIs (Err ValueLength)
    unfolding first_tests idle_causes
    write-value m d z = part-passed (first_tests L r l q.tables j) _ first (refused _ _ (kind-none L n m d z))

    module _ (m : ℕ) (d : m ≡ or_zero (object_kind L n)) (some-kind : m ≡ 0 → ⊥) where
      goes_on :
          {a : Check} → a ≡ checked (first_cause (expected_tests q.expected (facts_of p) ++ entry_tests L r (facts_of p) (entry_size L n))) → WriteIs a
      unfolding first_tests idle_causes expected_tests entry_tests key_tests room_tests number_tests
      goes_on h = part-passed (first_tests L r l q.tables j) _ first (skipped _ _ (kind-some L n m d some-kind) h)

      pub write-expected : (c : Refusal) → Err c ≡ checked (first_cause (expected_tests q.expected (facts_of p))) → WriteIs (Err c)
      write-expected c h = goes_on (part-refused (expected_tests q.expected (facts_of p)) (entry_tests L r (facts_of p) (entry_size L n)) c h)

      -- s is what the code finds for the length of the entry
      pub write-entry :
          {a : Check} (s : ℕ) → s ≡ entry_size L n → Ok tt ≡ checked (first_cause (expected_tests q.expected (facts_of p))) →
          a ≡ checked (first_cause (entry_tests L r (facts_of p) s)) → WriteIs a
      write-entry s e h g =
          goes_on
          (part-passed (expected_tests q.expected (facts_of p)) (entry_tests L r (facts_of p) (entry_size L n)) h
          (g ∙ ap (λ (x : ℕ). checked (first_cause (entry_tests L r (facts_of p) x))) e))

-- ---- what the index says of a key

module _ (area cells : List ℕ) (k : Key) where
  pub presence-full : Full ≡ search_for area cells k → Forbidden ≡ presence_for area cells k
  unfolding presence_at
  presence-full e = ap (presence_at area cells) e

  module _ (i : ℕ) where
    pub presence-free : Free i ≡ search_for area cells k → Nothing ≡ presence_for area cells k
    unfolding presence_at
    presence-free e = ap (presence_at area cells) e

    pub presence-at :
        {p : Presence} → At i ≡ search_for area cells k → p ≡ presence_of (stands_at area (get_or cells i 0 - 1)) →
        p ≡ presence_for area cells k
    unfolding presence_at
    presence-at e h = h ∙ ap (presence_at area cells) e

-- ---- a delete: p is what the code finds for the key

module _ (L : Layout) (r : Record) (l : Lengths) (t : Tables) (j : Key) (p : Presence) where
  abbrev PresentIs : Check → Type 0
  PresentIs a = a ≡ checked (first_cause (present_tests L r l t j (facts_of p)))

  pub delete-first : (c : Refusal) → Err c ≡ checked (first_cause (first_tests L r l t j)) → PresentIs (Err c)
  unfolding present_tests
  delete-first c h = part-refused (first_tests L r l t j) _ c h

  module _ (first : Ok tt ≡ checked (first_cause (first_tests L r l t j))) where
    pub delete-forbidden : Forbidden ≡ p → PresentIs (Err BadRecord)
    unfolding present_tests facts_of
    delete-forbidden q = part-passed (first_tests L r l t j) _ first (refused _ _ (ap (λ (x : Presence). (facts_of x).forbidden) (sym q)))

    pub delete-absent : (x : Presence) → x ≡ p → (facts_of x).forbidden ≡ false → (facts_of x).absent ≡ true → PresentIs (Err Refusal.Absent)
    unfolding present_tests
    delete-absent x q sound absent =
        part-passed (first_tests L r l t j) _ first
        (skipped _ _ (ap (λ (y : Presence). (facts_of y).forbidden) (sym q) ∙ sound)
        (refused _ _ (ap (λ (y : Presence). (facts_of y).absent) (sym q) ∙ absent)))

    module _ (v : Version) (q : Object v ≡ p) where
      known-goes : {a : Check} (cs : List Cause) → a ≡ checked (first_cause cs) →
          a ≡ checked (first_cause (when (facts_of p).forbidden BadRecord ∷ when (facts_of p).absent Refusal.Absent ∷ cs))
      unfolding facts_of
      known-goes cs h =
          skipped _ _ (ap (λ (y : Presence). (facts_of y).forbidden) (sym q)) (skipped _ _ (ap (λ (y : Presence). (facts_of y).absent) (sym q)) h)

      pub delete-spent : versions_spent r ≡ true → PresentIs (Err VersionsSpent)
      unfolding present_tests
      delete-spent h = part-passed (first_tests L r l t j) _ first (known-goes _ (refused _ _ h))

      pub delete-known : versions_spent r ≡ false → PresentIs (Ok tt)
      unfolding present_tests
      delete-known left = part-passed (first_tests L r l t j) _ first (known-goes _ (skipped _ _ left passed))

-- ---- 12 and 10 of a delete that finds no room: t is what the code finds for the fit of what its victim keeps

module _ (r : Record) (t : Bool) where
  abbrev FullIs : Check → Type 0
  FullIs a = a ≡ checked (first_cause (full_tests r (not t)))

  pub full-long : not t ≡ true → FullIs (Err NoRoom)
  unfolding full_tests
  full-long h = refused _ _ h

  pub full-spent : not t ≡ false → numbers_spent r ≡ true → FullIs (Err NumbersSpent)
  unfolding full_tests
  full-spent fits h = skipped _ _ fits (refused _ _ h)

  pub full-left : not t ≡ false → numbers_spent r ≡ false → FullIs (Ok tt)
  unfolding full_tests
  full-left fits h = skipped _ _ fits (skipped _ _ h passed)

  -- what they leave
  module _ (h : FullIs (Ok tt)) where
    left : NoCause (full_tests r (not t))
    left = no-cause (full_tests r (not t)) (checked-none _ h)

    pub full-fits : t ≡ true
    unfolding full_tests
    full-fits = not-false t left.0

    pub full-number : NumberLeft r
    unfolding full_tests
    full-number = eqb-false r.digest.0 number_limit left.1.0
