-- A write that met 12 passes all its tests once two log slots have been cleaned into one.
use Prim.Native.Nat.{ℕ, ◌+◌, ◌-◌, ◌^◌, ◌≤◌, ◌<◌}
use native.Mathlib.Omega.{arith}
use native.Mathlib.Decide.{ℕ_discrete}
use native.Mathlib.Nat.{zero-add}
use mathlib.Core.Path.{◌≡◌, refl, sym, ap, ◌∙◌}
use mathlib.Core.Bool.{Bool, true, false, not}
use mathlib.Core.List.Memᴰ
use mathlib.Core.List.{List, [], ◌∷◌}
use mathlib.Core.Option.{Option, none, some}
use lib.Dec.{eqb, ltb, leb}
use lib.ListN.{length}
use lib.Pow.{pow_pos}
use borrow.Author.Tests.{le-ltb, ne_eqb, eqb-false, not-false, not-true}
use Rattle.segment.specs.Choice.{pick, both, either}
use Rattle.segment.proofs.Choice.{both-false-left, both-false-right, either-false}
use Rattle.segment.specs.Layout.{Layout, edition2, entry_size, digest_size, version_limit, number_limit}
use Rattle.segment.proofs.LayoutLaws.{known-either}
use Rattle.segment.specs.Entry.{Entry}
use Rattle.segment.specs.declared.Key.{Key}
use Rattle.slot_map.specs.Bit.{bit, named, within}
use Rattle.slot_map.proofs.BitLaws.{bit-pow-same, bit-pow-other, bit-add-same, bit-add-other, bit-of-zero, named-true, within-of-le}
use Rattle.slot_map.specs.Count.{used, free}
use Rattle.slot_map.proofs.CountLaws.{used-add, used-of-zero, used-renewed, used-within}
use Rattle.slot_map.proofs.NextLaws.{next-below, next-clear}
use Rattle.record.specs.Range.{fits_lent}
use Rattle.record.specs.RangeLaws.{Lent, lent-switched}
use Rattle.record.specs.Refusals.{number_of_refusal}
use Rattle.record.specs.Switch.{new_layout, unswitched}
use Rattle.record.specs.declared.Expected.{Expected}
use Rattle.record.specs.declared.Refusal.{Refusal}
use Rattle.record.specs.declared.Record.{Record}
use Rattle.model.specs.Log.{Placed, views_of, has_key, keys_of, present, log_of}
use Rattle.model.specs.Causes.{Cause, first_cause}
use Rattle.model.specs.Recovery.{recovered}
use Rattle.model.specs.Operations.{clean, log_now, new_slot, new_digest, digest_with, kept, placed_from, laid, plan_of, stored, finished_record}
use Rattle.model.specs.Refused.{Lengths, Terms, KeyFacts, key_facts, version_in, outside_tables, is_pending, value_bad, versions_spent, expects_other, keys_full, no_room, no_number, numbers_spent, victims_bad, write_causes, record_bad, work_short}
use Rattle.model.specs.Joining.{pair_of}
use Rattle.laws.specs.CauseLaws.{NoCause, causes-none}
use Rattle.laws.specs.Members.{In, Once, more, once-length, Within, clash}
use Rattle.laws.specs.Keys.{KeysWithin, key-listed, listed-key, keys-once, keys-within}
use Rattle.laws.specs.MapLaws.{value_at, unplaced, Cleaned, clean-keys}
use Rattle.laws.specs.Operated.{Accepted, plan_at, map_after}
use Rattle.laws.specs.OperationsKept.{edition-laws}
use Rattle.laws.specs.RecoverLaws.{recovered-case, recovered-holds}
use Rattle.laws.specs.Cleanings.{Cleaning, clean-cleans}
use Rattle.laws.specs.Cleaned.{cleaned-cleaned}
use Rattle.laws.specs.Headed.{Heads}
use Rattle.laws.specs.NewHeadBytes.{head_plan, new-head-other, new-head-view}
use Rattle.laws.specs.Planned.{new-below, new-map-fits}

-- ---- two slots as victims

module _ (i j : ℕ) (apart : i ≡ j → ⊥) where
  clear : bit (2 ^ i) j ≡ 0
  clear = bit-pow-other i j apart

  pub pair-within : (map : ℕ) → named map i ≡ true → named map j ≡ true → within (pair_of i j) map ≡ true
  pair-within map p q = within-of-le (pair_of i j) map (λ s. go s (ℕ_discrete s i) (ℕ_discrete s j))
    where
      go : (s : ℕ) → Dec (s ≡ i) → Dec (s ≡ j) → bit (pair_of i j) s ≤ bit map s
      go s d (yes e) = omega (arith, bit-add-same (2 ^ i) j clear, named-true map j q, ap (bit (pair_of i j)) e, ap (bit map) e)
      go s (yes e) (no f) =
          omega (arith, bit-add-other (2 ^ i) j s clear (λ z. f (sym z)), ap (bit (2 ^ i)) e, bit-pow-same i, named-true map i p, ap (bit map) e)
      go s (no e) (no f) = omega (arith, bit-add-other (2 ^ i) j s clear (λ z. f (sym z)), bit-pow-other i s (λ z. e (sym z)))

  pub pair-some : 0 < pair_of i j
  pair-some = omega (arith, pow_pos i)

  pair-used : (n : ℕ) → i < n → j < n → used n (pair_of i j) ≡ 2
  pair-used n l m =
      let one : used n (2 ^ i) ≡ 1 = ap (used n) (sym (zero-add (2 ^ i))) ∙ used-add n 0 i l (bit-of-zero i) ∙ ap (λ (x : ℕ). x + 1) (used-of-zero n) in
      omega (arith, used-add n (2 ^ i) j m clear, one)

  pub pair-good : (r : Record) → named r.map i ≡ true → named r.map j ≡ true → victims_bad r (pair_of i j) ≡ false
  pair-good r p q =
      either-false (eqb (pair_of i j) 0) (not (within (pair_of i j) r.map)) (ne_eqb (pair_of i j) 0 (λ e. omega (arith, pair-some)))
      (ap not (pair-within r.map p q))

-- ---- the tests before a number

-- where a number is met, a cause of another number before it does not hold
pub skips : (c : Cause) (cs : List Cause) (x : Refusal) (v : ℕ) → number_of_refusal x ≡ v → eqb (number_of_refusal c.refusal) v ≡ false →
    first_cause (c ∷ cs) ≡ some x →
    (c.holds ≡ false) × (first_cause cs ≡ some x)
unfolding first_cause pick
skips c cs x v its apart e = go c.holds refl e
  where
    go : (t : Bool) → c.holds ≡ t → pick t (some c.refusal) (first_cause cs) ≡ some x → (c.holds ≡ false) × (first_cause cs ≡ some x)
    go false p q = (p, q)
    go true p q =
        let same : c.refusal ≡ x = cc in
        absurd (eqb-false (number_of_refusal c.refusal) v apart (ap number_of_refusal same ∙ its))

-- what a write has passed that met 12
pub record Met12 (L : Layout) (r : Record) (l : Lengths) (t : Terms) (j : Key) (k : KeyFacts) (n : ℕ) : Type 0 where
  pub record-good : record_bad L r l ≡ false
  pub in_reach : outside_tables t.tables j ≡ false
  pub idle : is_pending r.pending ≡ false
  pub value-known : value_bad L n ≡ false
  pub as-expected : expects_other t.expected k.version ≡ false
  pub versions-left : versions_spent r ≡ false
  pub key_fits : keys_full r k ≡ false

pub met-12 : (L : Layout) (r : Record) (l : Lengths) (t : Terms) (j : Key) (k : KeyFacts) (n : ℕ) →
    (x : Refusal) → number_of_refusal x ≡ 12 → first_cause (write_causes L r l t j k n) ≡ some x → Met12 L r l t j k n
met-12 L r l t j k n x twelve e =
    let a = skips _ _ x 12 twelve refl e in
    let b = skips _ _ x 12 twelve refl a.1 in
    let c = skips _ _ x 12 twelve refl b.1 in
    let d = skips _ _ x 12 twelve refl c.1 in
    let f = skips _ _ x 12 twelve refl d.1 in
    let g = skips _ _ x 12 twelve refl f.1 in
    let h = skips _ _ x 12 twelve refl g.1 in
    let i = skips _ _ x 12 twelve refl h.1 in
    let m = skips _ _ x 12 twelve refl i.1 in
    record {
      record-good = a.0;
      in_reach = b.0;
      idle = d.0;
      value-known = f.0;
      as-expected = h.0;
      versions-left = i.0;
      key_fits = m.0;
    }

-- ---- the keys after a cleaning

-- a key that is lost is one less
pub keys-lost : (a b : List Placed) → KeysWithin a b → (k : Key) → has_key a k ≡ false → has_key b k ≡ true → length (keys_of a) < length (keys_of b)
keys-lost a b w k gone had =
    once-length (k ∷ keys_of a) (keys_of b) (more (λ m. clash (has_key a k) (listed-key a k m) gone) (keys-once a)) all
  where
    all : Within (k ∷ keys_of a) (keys_of b)
    all x (Memᴰ.head e) = key-listed b x (ap (has_key b) e ∙ had)
    all x (Memᴰ.tail m) = key-listed b x (w x (listed-key a x m))

module _ (L : Layout) (n s m : ℕ) (area : List ℕ) (r : Record) (e : recovered L n s m area ≡ some r) where
  -- a recovered record counts its log's keys
  pub keys-counted : r.keys ≡ length (keys_of (log_of (views_of area s) (named r.map) n))
  keys-counted = recovered-case L n s m area (λ (k : Record). k.keys ≡ length (keys_of (log_of (views_of area s) (named k.map) n))) (λ h l f. refl) r e

-- the version of a key goes by its entry alone
entry_version : Option Entry → ℕ
entry_version none = 0
entry_version (some e) = e.version

version_of : (p : Option Placed) → version_in p ≡ entry_version (unplaced p)
unfolding version_in unplaced entry_version
version_of none = refl
version_of (some x) = refl

both_rest : (t : Bool) → both true t ≡ false → t ≡ false
unfolding both
both_rest t h = h

-- ---- after the cleaning

-- a new head leaves the edition of new heads as it was
pick-again : (t : Bool) (x y : Layout) → pick t x (pick t x y) ≡ pick t x y
unfolding pick
pick-again true x y = refl
pick-again false x y = refl

module _ (L : Layout) (area : List ℕ) (r : Record) (i j : ℕ) (apart : i < j) (below : j < r.slots)
    (acc : Accepted L area r (clean (pair_of i j)))
  where
    abbrev victims : ℕ
    victims = pair_of i j

    abbrev pub after : List ℕ
    after = stored area (plan_at L area r (clean victims))

    abbrev pub done : Record
    done = finished_record L area r (clean victims)

    facts : Lent L r (length area) r.cells
    facts = lent-switched r (recovered-holds L r.slots r.size r.cells area (unswitched r) acc.recovers)

    -- the new head is of the layout that the record has for new heads, in which what is kept is rewritten (02, R-13)
    abbrev new : Layout
    new = new_layout r

    cleaning : Cleaning L new area r victims r.next (log_now area r)
    cleaning = clean-cleans L area r victims acc

    recovers-done : recovered done.edition r.slots r.size r.cells after ≡ some (unswitched done)
    recovers-done = (edition-laws L).finish-recovers area r (clean victims) acc

    -- what is kept, in the new head
    abbrev placed : List Placed
    placed = placed_from new (new_slot r) (digest_size new) (kept victims (log_now area r))

    -- the log that is left is the cleaned one
    cleaned : Cleaned victims (log_now area r) placed (log_now after done)
    unfolding laid plan_of finished_record
    cleaned =
        cleaned-cleaned L new cleaning.up r.slots r.size r.cells area
        (stored area (head_plan new r.size (new_slot r) (new_digest r victims) (kept victims (log_now area r)))) (unswitched r) victims r.next (log_now area r)
        acc.recovers cleaning.sub cleaning.stands
        (record {
          others =
              λ x l o. new-head-other new r.size (new_slot r) area (new_digest r victims) (kept victims (log_now area r)) cleaning.room x o;
          own =
              new-head-view new (new_digest r victims) (kept victims (log_now area r)) cleaning.number-left
              (new-map-fits L area r acc.recovers victims cleaning.sub) cleaning.next_fits cleaning.formed
              r.slots r.size (new_slot r) area facts.area-own (new-below L area r acc.recovers) cleaning.room;
        })

    -- 21: the key has the same version
    version-stays : (k : Key) → version_in (present (log_now after done) k) ≡ version_in (present (log_now area r) k)
    unfolding map_after
    version-stays k =
        version_of (present (log_now after done) k) ∙
        ap entry_version ((edition-laws L).finish-map area r (clean victims) acc k) ∙ sym (version_of (present (log_now area r) k))

    -- 11: no more keys, and one less where the key is lost
    keys-fit : (k : Key) → keys_full r (key_facts (log_now area r) k) ≡ false → keys_full done (key_facts (log_now after done) k) ≡ false
    unfolding finished_record
    keys-fit k old = go (has_key (log_now after done) k) refl (has_key (log_now area r) k) refl
      where
        within-keys : KeysWithin (log_now after done) (log_now area r)
        within-keys = clean-keys victims (log_now area r) placed (log_now after done) cleaned

        counted : done.keys ≡ length (keys_of (log_now after done))
        counted = keys-counted done.edition r.slots r.size r.cells after (unswitched done) recovers-done

        counted-old : r.keys ≡ length (keys_of (log_now area r))
        counted-old = keys-counted L r.slots r.size r.cells area (unswitched r) acc.recovers

        go : (t : Bool) → has_key (log_now after done) k ≡ t → (u : Bool) → has_key (log_now area r) k ≡ u →
            both (not (has_key (log_now after done) k)) (eqb done.keys (r.cells - 1)) ≡ false
        go true p u q = both-false-left _ _ (ap not p)
        go false p true q =
            both-false-right _ _
            (ne_eqb done.keys (r.cells - 1)
            (λ e. omega (arith, e, counted, counted-old, facts.keys-high, keys-lost (log_now after done) (log_now area r) within-keys k p q)))
        go false p false q =
            both-false-right _ _
            (ne_eqb done.keys (r.cells - 1)
            (λ e.
            omega (
              arith,
              e,
              counted,
              counted-old,
              facts.keys-high,
              keys-within (log_now after done) (log_now area r) within-keys,
              eqb-false r.keys (r.cells - 1) (both_rest (eqb r.keys (r.cells - 1)) (sym (ap (λ (b : Bool). both (not b) (eqb r.keys (r.cells - 1))) q) ∙ old)),
            )))

    -- 9: the next version and its limit are the same
    versions-stay : versions_spent done ≡ versions_spent r
    unfolding finished_record
    versions-stay = ap (λ (W : Layout). eqb r.next.0 (version_limit W)) (pick-again r.switched edition2 r.edition)

    -- 12: one slot more is free, and one was
    room-left : (K : Layout) (k : ℕ) → no_room K done k ≡ false
    unfolding finished_record
    room-left K k =
        both-false-right _ _
        (le-ltb (free r.slots (new_digest r victims).map) 2
        (omega (
          arith,
          used-renewed r.slots r.map victims (new_slot r) cleaning.sub
              (next-below r.slots r.map r.head facts.head-below facts.some-free)
              (next-clear r.slots r.map r.head facts.head-below facts.some-free),
          pair-used i j (λ e. omega arith) r.slots (omega arith) below,
          used-within r.slots r.map victims cleaning.sub,
          facts.some-free,
        )))

    -- The write passes all its tests, which then go by the new head's layout.
    pub write_again : (l l' : Lengths) (t : Terms) (k : Key) (n : ℕ) → (x : Refusal) → number_of_refusal x ≡ 12 →
        first_cause (write_causes L r l t k (key_facts (log_now area r) k) n) ≡ some x → r.digest.0 ≤ 4294967293 →
        (K : Layout) → fits_lent K done l'.area l'.index ≡ true → r.size ≤ l'.work →
        first_cause (write_causes K done l' t k (key_facts (log_now after done) k) n) ≡ none
    unfolding finished_record is_pending
    write_again l l' t k n x twelve e few K fits long =
        let p = met-12 L r l t k (key_facts (log_now area r) k) n x twelve e in
        causes-none (write_causes K done l' t k (key_facts (log_now after done) k) n) (
          ap not fits,
          (
            p.in_reach,
            (
              le-ltb l'.work r.size long,
              (
                refl,
                (
                  known-either K L n ∙ p.value-known,
                  (
                    refl,
                    (
                      ap (expects_other t.expected) (version-stays k) ∙ p.as-expected,
                      (
                        versions-stay ∙ p.versions-left,
                        (
                          keys-fit k p.key_fits,
                          (
                            room-left K (entry_size K n),
                            (
                              both-false-right _ _ (ne_eqb (r.digest.0 + 1) number_limit (λ z. omega (arith, z))),
                              tt,
                            ),
                          ),
                        ),
                      ),
                    ),
                  ),
                ),
              ),
            ),
          ),
        )
