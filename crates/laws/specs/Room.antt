-- Room: one victim fits a new head of its own edition, also of a delete that cleans it, a new head leaves a slot free, and a cleaning never
-- leaves fewer free than before.
use Rattle.std.specs.Prelude.{ℕ, ◌+◌, ◌-◌, ◌^◌, ◌≤◌, ◌<◌, ◌≡◌, true, false, List, eqb}
use Rattle.std.proofs.Math.Nat.{sub-zero}
use Rattle.std.proofs.Common.{arith, sym, ap, subst, ◌∙◌}
use Rattle.std.proofs.Math.Decide.{ℕ_discrete}
use Rattle.std.proofs.Math.Option.{some}
use Rattle.std.proofs.Math.ListN.{length}
use borrow.Author.Tests.{le-ltb}
use Rattle.segment.specs.Layout.{Layout, digest_size}
use Rattle.segment.specs.Entry.{bytes_in, encoded}
use Rattle.segment.proofs.EntryLaws.{length-encoded}
use Rattle.segment.specs.declared.Key.{Key}
use Rattle.slot_map.specs.Bit.{named, within}
use Rattle.slot_map.proofs.BitLaws.{bit-pow-other, named-true, set_below}
use Rattle.slot_map.proofs.NextLaws.{next-below, next-clear}
use Rattle.slot_map.specs.Count.{used, free}
use Rattle.slot_map.proofs.CountLaws.{renewed-le, used-add}
use Rattle.record.specs.RangeLaws.{Lent, lent-switched}
use Rattle.record.specs.Switch.{new_layout, unswitched}
use Rattle.record.specs.declared.Record.{Record}
use Rattle.model.specs.Log.{Placed, items_of, end_of, segment_of, views_of, present, Scan}
use Rattle.model.specs.Recovery.{recovered}
use Rattle.model.specs.Operations.{log_now, tombstone_entry, new_slot, new_digest, kept, all_encoded, replaced, replaced_by, slot_of, forget_kept}
use Rattle.model.specs.Refused.{kept_too_long, kept_length, forget_length}
use Rattle.laws.specs.Members.{In, entries_of}
use Rattle.laws.specs.Latest.{latest-some}
use Rattle.laws.specs.MapLaws.{in_slot, encoded-total, kept-size-one}
use Rattle.laws.specs.Forgotten.{replaced-those, replaced-total, present-live}
use Rattle.laws.specs.Stores.{slot-inside, length-segment}
use Rattle.laws.specs.Scans.{item_entries, Scans, scans-total, scans-high}
use Rattle.laws.specs.LogLaws.{log-in}
use Rattle.laws.specs.Counted.{entries-in, slot-log}
use Rattle.laws.specs.RecoverLaws.{recovered-case, recovered-holds, slot-scans}

module _ (L : Layout) (area : List ℕ) (r : Record) (e : recovered L r.slots r.size r.cells area ≡ some (unswitched r)) where
  facts : Lent L r (length area) r.cells
  facts = lent-switched r (recovered-holds L r.slots r.size r.cells area (unswitched r) e)

  new-below : new_slot r < r.slots
  new-below = next-below r.slots r.map r.head facts.head-below facts.some-free

  -- what a log slot holds fits behind a digest of the slot's edition
  slot-fits : (W : Layout) (i : ℕ) → i < r.slots → named r.map i ≡ true → (views_of area r.size i).layout ≡ W →
      digest_size W + length (all_encoded W (entries_of (in_slot i (log_now area r)))) ≤ r.size
  slot-fits W i l q its =
      rw held (omega (arith, scans-total scans, scans-high scans, length-segment area r.size i (slot-inside area r.slots r.size i facts.area-own l)))
    where
      -- what is read of the slot
      read : Scan
      read = (views_of area r.size i).scan

      scans : Scans W (segment_of area r.size i) (digest_size W) (items_of read) (end_of read)
      scans =
          subst (λ (K : Layout). Scans K (segment_of area r.size i) (digest_size K) (items_of read) (end_of read)) its
          (recovered-case L r.slots r.size r.cells area
          (λ (k : Record).
          named k.map i ≡ true →
          Scans (views_of area r.size i).layout (segment_of area r.size i) (digest_size (views_of area r.size i).layout) (items_of read) (end_of read))
          (λ h a f p. slot-scans L r.slots r.size r.cells area h f i l p) (unswitched r) e q)

      held : entries_of (in_slot i (log_now area r)) ≡ item_entries (items_of read)
      held = ap entries_of (slot-log (views_of area r.size) r.map r.slots i l q) ∙ entries-in (views_of area r.size i).layout i (items_of read)

  -- what is kept of one slot fits, also by a log whose entries there take no more bytes
  one-fits :
      (W : Layout) (i : ℕ) → named r.map i ≡ true → (views_of area r.size i).layout ≡ W → (stand : List Placed) →
      length (all_encoded W (entries_of (in_slot i stand))) ≤ length (all_encoded W (entries_of (in_slot i (log_now area r)))) →
      digest_size W + length (all_encoded W (kept (2 ^ i) stand)) ≤ r.size
  one-fits W i q its stand few =
      omega (
        arith,
        kept-size-one W (2 ^ i) i stand only,
        slot-fits W i (set_below r.slots r.map i facts.map_below (named-true r.map i q)) q its,
      )
    where
      only : (j : ℕ) → named (2 ^ i) j ≡ true → j ≡ i
      only j p = go (ℕ_discrete j i)
        where
          go : Dec (j ≡ i) → j ≡ i
          go (yes h) = h
          go (no h) = absurd (omega (arith, named-true (2 ^ i) j p, bit-pow-other i j (λ z. h (sym z))))

  -- One victim of the new head's edition fits: 14 never holds for it alone. A slot of an earlier edition may meet it (02, R-13).
  pub one-victim-fits : (i : ℕ) → named r.map i ≡ true → (views_of area r.size i).layout ≡ new_layout r →
      kept_too_long r (kept_length (new_layout r) (log_now area r) (2 ^ i)) ≡ false
  one-victim-fits i q its =
      le-ltb r.size (digest_size (new_layout r) + length (all_encoded (new_layout r) (kept (2 ^ i) (log_now area r))))
      (one-fits (new_layout r) i q its (log_now area r) (omega arith))

  -- 02, R-4: a delete that finds no room fits its new head where its victim is of that edition, for a tombstone is no longer than the object
  -- whose place it takes.
  pub full-delete-fits : (k : Key) (x : Placed) → present (log_now area r) k ≡ some x → x.layout ≡ new_layout r →
      kept_too_long r (forget_length (new_layout r) r (log_now area r) k) ≡ false
  unfolding replaced_by slot_of bytes_in
  full-delete-fits k x is its =
      le-ltb r.size (digest_size (new_layout r) + length (all_encoded (new_layout r) (forget_kept r (log_now area r) k)))
      (rw is
      (one-fits (new_layout r) x.slot (log-in (views_of area r.size) (named r.map) r.slots x member).picked
      (sym (log-in (views_of area r.size) (named r.map) r.slots x member).layout ∙ its)
      (replaced x.entry.version (tombstone_entry r k) (log_now area r)) few))
    where
      member : In x (log_now area r)
      member = (latest-some (log_now area r) k x (present-live (log_now area r) k x is).latest-of).member

      few :
          length (all_encoded (new_layout r) (entries_of (in_slot x.slot (replaced x.entry.version (tombstone_entry r k) (log_now area r))))) ≤
          length (all_encoded (new_layout r) (entries_of (in_slot x.slot (log_now area r))))
      few =
          rw (replaced-those x.entry.version (tombstone_entry r k) (λ j. eqb j x.slot) (log_now area r))
          (omega (
            arith,
            encoded-total (new_layout r) (entries_of (replaced x.entry.version (tombstone_entry r k) (in_slot x.slot (log_now area r)))),
            encoded-total (new_layout r) (entries_of (in_slot x.slot (log_now area r))),
            replaced-total x.entry.version (tombstone_entry r k) (λ d. length (encoded (new_layout r) d)) (in_slot x.slot (log_now area r))
                (λ y m. omega (arith, length-encoded (new_layout r) (tombstone_entry r k), length-encoded (new_layout r) y.entry)),
          ))

  -- A new head for an entry, which asks for two free slots, leaves one.
  pub head-leaves-one : used r.slots r.map + 2 ≤ r.slots → used r.slots (new_digest r 0).map < r.slots
  head-leaves-one h =
      omega (
        arith,
        ap (λ (x : ℕ). used r.slots (x + 2 ^ new_slot r)) (sub-zero r.map),
        used-add r.slots r.map (new_slot r) new-below
            (next-clear r.slots r.map r.head facts.head-below facts.some-free),
      )

  -- A cleaning never leaves fewer slots free.
  pub clean-leaves : (victims : ℕ) → within victims r.map ≡ true → 0 < victims → free r.slots r.map ≤ free r.slots (new_digest r victims).map
  clean-leaves victims sub some-victim =
      omega (
        arith,
        renewed-le r.slots r.map victims (new_slot r) sub facts.map_below some-victim new-below
            (next-clear r.slots r.map r.head facts.head-below facts.some-free),
      )
