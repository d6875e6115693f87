-- On an undamaged store the bytes that the code puts behind the digest are those of the entries that the model keeps.
use Rattle.std.specs.Prelude.{ℕ, ◌-◌, ◌/◌, ◌^◌, ◌≤◌, ◌<◌, ◌≡◌, Bool, length, get_or}
use Rattle.std.proofs.Math.Path.{refl, sym, ap}
use Rattle.std.proofs.Common.{◌∙◌, arith, eq-eqb, lt-ltb, eqb-true}
use Rattle.std.proofs.Math.Bool.{true, false}
use Rattle.std.proofs.Math.Option.{Option, some}
use mathlib.Core.List.Memᴰ
use mathlib.Core.List.{List, [], ◌∷◌, ◌++◌, append-nil}
use Rattle.std.proofs.Math.Decide.{ℕ_discrete}
use Rattle.std.proofs.Math.Dec.{eqb}
use Rattle.word.specs.Number.{Bytes}
use Rattle.segment.specs.Choice.{pick, is_none}
use Rattle.segment.proofs.Choice.{pick_true, pick-false, both_true, both_left}
use Rattle.segment.specs.Layout.{Layout, table}
use Rattle.segment.proofs.LayoutLaws.{tombstone-length}
use Rattle.segment.proofs.AreaLaws.{place-slot}
use Rattle.segment.specs.Entry.{Entry, encoded, key_of}
use Rattle.segment.proofs.ValueLaws.{value-tombstone}
use Rattle.segment.specs.Written.{encoded_head}
use Rattle.segment.proofs.Written.{encoded-said}
use Rattle.segment.specs.declared.Key.{Key}
use Rattle.slot_map.specs.Bit.{named, within}
use Rattle.slot_map.proofs.BitLaws.{named-true, set-named, bit-pow-same, bit-pow-other, within-pow}
use Rattle.record.specs.declared.Record.{Record}
use Rattle.model.specs.Log.{Placed, place_of, views_of, placed_in, latest, present, highest}
use Rattle.model.specs.Operations.{log_now, tombstone_entry, object_outside, is_kept, kept_of, all_encoded, replaced, replaced_by, slot_of, forget_kept}
use Rattle.laws.specs.Members.{clash, In, first, Within, those, those-in}
use Rattle.laws.specs.Latest.{Apart, same_key_lem, latest-some}
use Rattle.laws.specs.Versions.{shared-apart}
use Rattle.laws.specs.LogLaws.{InLog, log-in}
use Rattle.laws.specs.MapLaws.{in_slot}
use Rattle.laws.specs.Forgotten.{IsLive, present-live, instead, instead-own, instead-other, replaced-those, forgotten-kept, forgotten-tombstone}
use Rattle.laws.specs.Counted.{slot-log}
use Rattle.index.specs.Search.{search_for}
use Rattle.index.specs.declared.Found.{Found}
use Rattle.cleaning.specs.Entries.{slot_layout, placed_header}
use Rattle.cleaning.specs.Kept.{kept_test, kept_entry, gather_by}
use Rattle.cleaning.proofs.KeptLaws.{entry_kept, entry-dropped}
use Rattle.cleaning.specs.KeptModel.{Indexed}
use Rattle.cleaning.proofs.KeptModel.{kept-front, kept-behind, KeyCell, key-cell, inside, place-one, own-moved, walked-tells, marked-outside, kept_same}
use Rattle.cleaning.proofs.OutsideLaws.{slot-items}
use Rattle.forgetting.specs.Forgot.{dead_bytes, forgot_entry, forgot_own}
use Rattle.forgetting.proofs.ForgotLaws.{entry-dead, entry_other}
use Rattle.forgetting.specs.Forgetting.{in_log, outside_marks, live_at}
use Rattle.forgetting.specs.declared.Live.{Live}

-- the victim is the one slot that its map names
only_one : (i j : ℕ) → named (2 ^ i) j ≡ true → j ≡ i
only_one i j p = go (ℕ_discrete j i)
  where
    go : Dec (j ≡ i) → j ≡ i
    go (yes h) = h
    go (no h) = absurd (omega (arith, named-true (2 ^ i) j p, bit-pow-other i j (λ z. h (sym z))))

-- so what is kept is kept of that slot
kept-only : (i : ℕ) (log xs : List Placed) → kept_of (2 ^ i) log xs ≡ kept_of (2 ^ i) log (in_slot i xs)
unfolding kept_of those pick
kept-only i log [] = refl
kept-only i log (x ∷ xs) = go (eqb x.slot i) refl (is_kept (2 ^ i) log x) refl (kept-only i log xs)
  where
    go : (t : Bool) → eqb x.slot i ≡ t → (u : Bool) → is_kept (2 ^ i) log x ≡ u → kept_of (2 ^ i) log xs ≡ kept_of (2 ^ i) log (in_slot i xs) →
        kept_of (2 ^ i) log (x ∷ xs) ≡ kept_of (2 ^ i) log (pick t (x ∷ in_slot i xs) (in_slot i xs))
    go true p true q ih =
        kept-front (2 ^ i) log x xs q ∙ ap (λ (l : List Entry). x.entry ∷ l) ih ∙ sym (kept-front (2 ^ i) log x (in_slot i xs) q)
    go true p false q ih = kept-behind (2 ^ i) log x xs q ∙ ih ∙ sym (kept-behind (2 ^ i) log x (in_slot i xs) q)
    go false p true q ih =
        let n : named (2 ^ i) x.slot ≡ true = both_left (named (2 ^ i) x.slot) _ q in
        absurd (clash (eqb x.slot i) (eq-eqb x.slot i (only_one i x.slot n)) p)
    go false p false q ih = kept-behind (2 ^ i) log x xs q ∙ ih

-- ---- an undamaged store, whatever the editions of its slots (02, R-13), and a present key

module _ (area cells : List ℕ) (r : Record) (g : Indexed area r cells) (above : highest (log_now area r) < r.next.0) (few : length cells ≤ 4096) (k : Key)
    (x : Placed) (is : present (log_now area r) k ≡ some x) where
  abbrev log : List Placed
  log = log_now area r

  abbrev tomb : Entry
  tomb = tombstone_entry r k

  live : IsLive log k x
  live = present-live log k x is

  member : In x log
  member = (latest-some log k x live.latest-of).member

  of-key : k ≡ key_of x.entry
  of-key = same_key_lem k x.entry (latest-some log k x live.latest-of).of-key

  apart : Apart log
  apart = shared-apart log g.versions

  at : InLog (views_of area r.size) (named r.map) r.slots x
  at = log-in (views_of area r.size) (named r.map) r.slots x member

  sub : within (2 ^ x.slot) r.map ≡ true
  sub = within-pow r.map x.slot (named-true r.map x.slot at.picked)

  -- ---- what the index tells

  pub cell : KeyCell area cells r g (key_of x.entry)
  cell = key-cell area cells r g few x member

  abbrev i : ℕ
  i = cell.cell.cell

  pub live-found : search_for area cells k ≡ Found.At i
  live-found = ap (search_for area cells) of-key ∙ cell.finds

  top-live : cell.top ≡ x
  top-live =
      let p : ◌≡◌ {A = Option Placed} (some cell.top) (some x) = sym cell.is ∙ ap (latest log) (sym of-key) ∙ live.latest-of in
      cc

  pub live-place : get_or cells i 0 - 1 ≡ place_of r.size x
  live-place = omega (arith, cell.cell.holds, ap (place_of r.size) top-live)

  pub live-slot : place_of r.size x / r.size ≡ x.slot
  live-slot = place-slot r.size x.slot x.offset (omega (arith, inside area cells r g x member))

  pub live_in : in_log r x.slot ≡ true
  unfolding in_log
  live_in = both_true _ _ (lt-ltb x.slot r.slots at.below) at.picked

  -- ---- the bytes

  abbrev marks : List ℕ
  marks = outside_marks r area cells x.slot

  abbrev going : Live
  going = live_at r area cells k i (place_of r.size x) x.slot

  abbrev stand : List Placed
  stand = replaced x.entry.version tomb log

  abbrev dead : Placed
  dead = record { slot = x.slot; layout = x.layout; offset = x.offset; entry = tomb }

  needed-same : going.needed ≡ object_outside (2 ^ x.slot) log k
  needed-same =
      marked-outside area cells r g (2 ^ x.slot) sub few (key_of x.entry) cell ∙ ap (object_outside (2 ^ x.slot) log) (sym of-key)

  tomb-encoded : (W : Layout) → encoded_head W (table W).tombstone_kind k r.next ≡ encoded W tomb
  tomb-encoded W =
      sym (append-nil (encoded_head W (table W).tombstone_kind k r.next))
      ∙ encoded-said W (table W).tombstone_kind k r.next [] (tombstone-length W)
      ∙ ap (λ (v : Option (List ℕ)). encoded W (record { table = k.table; key = k.key; version = r.next.0; value = v }))
      (value-tombstone W (table W).tombstone_kind [] (eq-eqb (table W).tombstone_kind (table W).tombstone_kind refl))

  -- the tombstone is kept where it is needed
  dead-kept : is_kept (2 ^ x.slot) stand dead ≡ going.needed
  unfolding is_none
  dead-kept = forgotten-tombstone log k x live tomb refl refl above g.versions ∙ sym needed-same

  module _ (bytes : Bytes area) (W : Layout) where
    -- what comes of an entry, and then of those behind it
    joined :
        (y : Placed) (ys : List Placed) (part rest : List ℕ) → (is_kept (2 ^ x.slot) stand y ≡ true → part ≡ encoded W y.entry) →
        (is_kept (2 ^ x.slot) stand y ≡ false → part ≡ []) → rest ≡ all_encoded W (kept_of (2 ^ x.slot) stand ys) →
        part ++ rest ≡ all_encoded W (kept_of (2 ^ x.slot) stand (y ∷ ys))
    unfolding all_encoded
    joined y ys part rest kept-part dropped e = go (is_kept (2 ^ x.slot) stand y) refl
      where
        go : (t : Bool) → is_kept (2 ^ x.slot) stand y ≡ t → part ++ rest ≡ all_encoded W (kept_of (2 ^ x.slot) stand (y ∷ ys))
        go true p = (λ j. kept-part p j ++ e j) ∙ ap (all_encoded W) (sym (kept-front (2 ^ x.slot) stand y ys p))
        go false p = (λ j. dropped p j ++ e j) ∙ ap (all_encoded W) (sym (kept-behind (2 ^ x.slot) stand y ys p))

    abbrev part_of : Placed → List ℕ
    part_of y = forgot_entry W area cells marks going y.layout (placed_header y) (place_of r.size y)

    -- the entry as it stands in the log by which the delete goes
    abbrev standing : Placed → Placed
    standing y = record { slot = y.slot; layout = y.layout; offset = y.offset; entry = instead x.entry.version tomb y.entry }

    -- the live object
    module _ (y : Placed) (same : y ≡ x) where
      put-dead : standing y ≡ dead
      put-dead =
          ap standing same
          ∙ ap (λ (d : Entry). record { slot = x.slot; layout = x.layout; offset = x.offset; entry = d }) (instead-own x.entry.version tomb x.entry refl)

      part-dead : part_of y ≡ dead_bytes W going
      part-dead = entry-dead W area cells marks going y.layout (placed_header y) (place_of r.size y) (ap (place_of r.size) same)

      dead-front : is_kept (2 ^ x.slot) stand (standing y) ≡ true → part_of y ≡ encoded W (standing y).entry
      unfolding dead_bytes
      dead-front p =
          part-dead
          ∙ pick_true going.needed _ _ (sym dead-kept ∙ ap (is_kept (2 ^ x.slot) stand) (sym put-dead) ∙ p)
          ∙ tomb-encoded W
          ∙ ap (λ (z : Placed). encoded W z.entry) (sym put-dead)

      dead-behind : is_kept (2 ^ x.slot) stand (standing y) ≡ false → part_of y ≡ []
      unfolding dead_bytes
      dead-behind p = part-dead ∙ pick-false going.needed _ _ (sym dead-kept ∙ ap (is_kept (2 ^ x.slot) stand) (sym put-dead) ∙ p)

    -- another entry of the slot
    module _ (y : Placed) (m : In y log) (n : named (2 ^ x.slot) y.slot ≡ true) (other : y.entry.version ≡ x.entry.version → ⊥) where
      stays : standing y ≡ y
      stays = ap (λ (d : Entry). record { slot = y.slot; layout = y.layout; offset = y.offset; entry = d }) (instead-other x.entry.version tomb y.entry other)

      part_stays : part_of y ≡ kept_entry W area cells marks y.layout (placed_header y) (place_of r.size y)
      part_stays =
          entry_other W area cells marks going y.layout (placed_header y) (place_of r.size y)
          (λ p. other (ap (λ (z : Placed). z.entry.version) (place-one area cells r g y x m member p)))

      test-same : is_kept (2 ^ x.slot) stand (standing y) ≡ kept_test area cells marks (placed_header y) (place_of r.size y)
      unfolding is_none
      test-same =
          ap (is_kept (2 ^ x.slot) stand) stays
          ∙ forgotten-kept log k x live tomb refl refl above g.versions y m other
          ∙ sym (kept_same area cells r g (2 ^ x.slot) sub few marks (walked-tells area cells r g (2 ^ x.slot) sub few) y m n)

      other-front : is_kept (2 ^ x.slot) stand (standing y) ≡ true → part_of y ≡ encoded W (standing y).entry
      other-front p =
          part_stays
          ∙ entry_kept W area cells marks y.layout (placed_header y) (place_of r.size y) (sym test-same ∙ p)
          ∙ own-moved area cells r g y m bytes W
          ∙ ap (λ (z : Placed). encoded W z.entry) (sym stays)

      other-behind : is_kept (2 ^ x.slot) stand (standing y) ≡ false → part_of y ≡ []
      other-behind p = part_stays ∙ entry-dropped W area cells marks y.layout (placed_header y) (place_of r.size y) (sym test-same ∙ p)

    gathered-forgot : (ys : List Placed) → Within ys log → ((y : Placed) → In y ys → named (2 ^ x.slot) y.slot ≡ true) →
        gather_by (forgot_entry W area cells marks going) r.size ys ≡ all_encoded W (kept_of (2 ^ x.slot) stand (replaced x.entry.version tomb ys))
    unfolding gather_by all_encoded kept_of replaced
    gathered-forgot [] w f = refl
    gathered-forgot (y ∷ ys) w f =
        go (ℕ_discrete y.entry.version x.entry.version)
        (gathered-forgot ys (λ z m. w z (Memᴰ.tail m)) (λ z m. f z (Memᴰ.tail m)))
      where
        go : Dec (y.entry.version ≡ x.entry.version) →
            gather_by (forgot_entry W area cells marks going) r.size ys ≡ all_encoded W (kept_of (2 ^ x.slot) stand (replaced x.entry.version tomb ys)) →
            part_of y ++ gather_by (forgot_entry W area cells marks going) r.size ys ≡
            all_encoded W (kept_of (2 ^ x.slot) stand (standing y ∷ replaced x.entry.version tomb ys))
        go (yes p) ih =
            let same : y ≡ x = apart y x (w y first) member p in
            joined (standing y) (replaced x.entry.version tomb ys) (part_of y) _ (dead-front y same) (dead-behind y same) ih
        go (no p) ih =
            joined (standing y) (replaced x.entry.version tomb ys) (part_of y) _ (other-front y (w y first) (f y first) p)
            (other-behind y (w y first) (f y first) p) ih

    -- The victim's bytes are those of the entries that the model keeps.
    pub bytes-forgot : forgot_own W area cells marks going r.size x.slot ≡ all_encoded W (forget_kept r log k)
    unfolding replaced_by slot_of
    bytes-forgot =
        rw is
        (ap (gather_by (forgot_entry W area cells marks going) r.size)
        (ap (placed_in (slot_layout area r.size x.slot) x.slot) (slot-items area r.size r.map r.slots g.scans x.slot at.below at.picked)
        ∙ sym (slot-log (views_of area r.size) r.map r.slots x.slot at.below at.picked))
        ∙ gathered-forgot (in_slot x.slot log) (λ y m. (those-in (λ z. eqb z.slot x.slot) log y m).0)
        (λ y m.
        ap (named (2 ^ x.slot)) (eqb-true y.slot x.slot (those-in (λ z. eqb z.slot x.slot) log y m).1)
        ∙ set-named (2 ^ x.slot) x.slot (bit-pow-same x.slot))
        ∙ ap (λ (ys : List Placed). all_encoded W (kept_of (2 ^ x.slot) stand ys)) (sym (replaced-those x.entry.version tomb (λ j. eqb j x.slot) log))
        ∙ ap (all_encoded W) (sym (kept-only x.slot stand stand)))
