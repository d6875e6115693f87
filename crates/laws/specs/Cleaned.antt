-- A cleaning, also one that deletes: the new head holds the entries kept, its map no longer names the victims, and recovery gives
-- the record that the last step gives. The next version is the digest's, and no fewer slots are free than before.
use Rattle.std.specs.Prelude.{ℕ, ◌-◌, ◌≤◌, ◌<◌, ◌≡◌, true, false, not, List, [], ◌++◌, length}
use Rattle.std.proofs.Common.{sym, ap, subst, ◌∙◌, arith}
use Rattle.std.proofs.Math.Option.{some}
use Rattle.segment.specs.Layout.{Layout, digest_size}
use Rattle.segment.specs.declared.Version.{Version}
use Rattle.slot_map.specs.Bit.{named, within}
use Rattle.slot_map.proofs.BitLaws.{clear-named}
use Rattle.slot_map.specs.Count.{used}
use Rattle.slot_map.proofs.CountLaws.{renewed-le}
use Rattle.record.specs.RangeLaws.{map-in}
use Rattle.record.specs.declared.Record.{Record}
use Rattle.model.specs.Log.{View, Head, Placed, views_of, log_of, keys_of, version_shared, highest, next_version}
use Rattle.model.specs.Counts.{is_present, counts_of, renewed_counts}
use Rattle.model.specs.Recovery.{later, log_under, record_under, recovered}
use Rattle.model.specs.Operations.{log_now, new_slot, digest_with, outside_slots, kept, placed_from, renewed_record}
use Rattle.laws.specs.Members.{clash, In}
use Rattle.laws.specs.Keys.{keys-same}
use Rattle.laws.specs.MapLaws.{outside, entries-placed, Cleaned, clean-highest, clean-shared-any, clean-keys-count}
use Rattle.laws.specs.LogLaws.{OnePart, part-members, part_count, log-those, log-in}
use Rattle.laws.specs.Recounted.{renewed-counts}
use Rattle.laws.specs.RecoverLaws.{Sound, Allowed, sound-recovered, recovered-case}
use Rattle.laws.specs.Headed.{Heads, slot-below, slot-clear, new-log, new-sound, new-end}

-- what stands outside the victims is the log of the slots outside
pub outside-log : (v : ℕ → View) (map victims n : ℕ) → outside victims (log_of v (named map) n) ≡ log_of v (outside_slots map victims) n
outside-log v map victims n = log-those v (named map) (λ i. not (named victims i)) n

-- ---- the log that a cleaning goes by

-- It is the log itself or, where a delete cleans, the log with a tombstone in the place of a live object: outside the victims the
-- two are one. The next version is above all of its versions.
pub record StandsFor (m victims : ℕ) (log stand : List Placed) (next : ℕ) : Type 0 where
  pub outside-same : outside victims stand ≡ outside victims log
  pub outside-present : (y : Placed) → In y (outside victims log) → is_present stand y.entry ≡ is_present log y.entry
  pub versions : version_shared stand ≡ false
  pub keys : length (keys_of stand) ≤ m - 1
  pub below : highest stand < next

-- ---- on views

module _ (L W : Layout) (up : later L W ≡ false) (v v' : ℕ → View) (n s m : ℕ) (h : Head) (victims : ℕ) (next : Version) (stand : List Placed) (f : Sound L v n m h)
    (sub : within victims h.digest.map ≡ true) (w : StandsFor m victims (log_under v n h) stand next.0)
    (c : Heads W v v' n (new_slot (record_under L v n s m h)) (digest_with (record_under L v n s m h) victims next) (kept victims stand)) where
  -- the new head, its log, the entries kept in their places, and what is left of the old log
  abbrev cleaned : Head
  cleaned = record { slot = new_slot (record_under L v n s m h); digest = digest_with (record_under L v n s m h) victims next }

  abbrev after : List Placed
  after = log_under v' n cleaned

  abbrev moved : List Placed
  moved = placed_from W (new_slot (record_under L v n s m h)) (digest_size W) (kept victims stand)

  abbrev rest : List Placed
  rest = log_of v (outside_slots h.digest.map victims) n

  parts : OnePart [] moved rest after
  parts = new-log L W up v v' n s m h victims next (kept victims stand) f sub c

  same_rest : outside victims stand ≡ rest
  same_rest = w.outside-same ∙ outside-log v h.digest.map victims n

  -- What stood outside the victims, and what was kept, in its new place.
  pub cleaned-log : Cleaned victims stand moved after
  cleaned-log =
      record {
        entries = entries-placed W (new_slot (record_under L v n s m h)) (digest_size W) (kept victims stand);
        members = rw same_rest (part-members moved rest after parts);
      }

  pub cleaned-keys : length (keys_of after) ≡ length (keys_of (rest ++ moved))
  cleaned-keys = sym (keys-same (rest ++ moved) after (part-members moved rest after parts))

  -- the victims have no present bytes, and the new head those of the objects kept
  pub cleaned-counts : counts_of after ≡ renewed_counts W victims (new_slot (record_under L v n s m h)) (kept victims stand) (counts_of (log_under v n h))
  cleaned-counts =
      renewed-counts W victims (new_slot (record_under L v n s m h)) (digest_size W) (log_under v n h) stand after cleaned-log
      (subst (λ (l : List Placed). OnePart [] moved l after) (sym (outside-log v h.digest.map victims n)) parts) w.versions
      (λ y i d.
      clash (named h.digest.map (new_slot (record_under L v n s m h)))
      (ap (named h.digest.map) (sym d) ∙ (log-in v (named h.digest.map) n y i).picked)
      (clear-named h.digest.map (new_slot (record_under L v n s m h))
      (slot-clear L W up v v' n s m h victims next (kept victims stand) f sub c)))
      w.outside-present

  -- no fewer slots are free: a victim goes for the one that comes
  pub cleaned-used : 0 < victims → used n (digest_with (record_under L v n s m h) victims next).map ≤ used n h.digest.map
  cleaned-used some-victim =
      renewed-le n h.digest.map victims (new_slot (record_under L v n s m h)) sub
      (map-in n h.slot h.digest.map f.map-good).below some-victim
      (slot-below L W up v v' n s m h victims next (kept victims stand) f sub c)
      (slot-clear L W up v v' n s m h victims next (kept victims stand) f sub c)

  pub cleaned-sound : 0 < victims → Sound W v' n m cleaned
  cleaned-sound some-victim =
      new-sound L W up v v' n s m h victims next (kept victims stand) f sub c (omega (arith, w.below))
      (omega (arith, cleaned-used some-victim, (map-in n h.slot h.digest.map f.map-good).some-free))
      (clean-shared-any victims stand moved after cleaned-log (λ k. rw same_rest (part_count moved rest after parts k)) w.versions)
      (omega (arith, clean-keys-count victims stand moved after cleaned-log, w.keys))

  -- the next version is the digest's own, for what is left has no higher version than the log had that the cleaning went by
  pub cleaned-next : next_version (digest_with (record_under L v n s m h) victims next) after ≡ next.0
  cleaned-next = omega (arith, clean-highest victims stand moved after cleaned-log, w.below)

-- ---- on areas

module _ (L W : Layout) (up : later L W ≡ false) (n s m : ℕ) (area area' : List ℕ) (r : Record) (victims : ℕ) (next : Version) (stand : List Placed)
    (e : recovered L n s m area ≡ some r) (sub : within victims r.map ≡ true) (w : StandsFor m victims (log_now area r) stand next.0)
    (c : Heads W (views_of area s) (views_of area' s) n (new_slot r) (digest_with r victims next) (kept victims stand)) where
  pub cleaned-cleaned :
      Cleaned victims stand (placed_from W (new_slot r) (digest_size W) (kept victims stand))
      (log_now area' (renewed_record W area r victims (kept victims stand) next))
  cleaned-cleaned =
      recovered-case L n s m area
      (λ (k : Record).
      within victims k.map ≡ true
      → StandsFor m victims (log_now area k) stand next.0
      → Heads W (views_of area s) (views_of area' s) n (new_slot k) (digest_with k victims next) (kept victims stand)
      → Cleaned victims stand (placed_from W (new_slot k) (digest_size W) (kept victims stand))
      (log_now area' (renewed_record W area k victims (kept victims stand) next)))
      (λ h l f. cleaned-log L W up (views_of area s) (views_of area' s) n s m h victims next stand f) r e sub w c

  pub cleaned-recovered : length area' ≡ length area → 0 < victims
      → recovered W n s m area' ≡ some (renewed_record W area r victims (kept victims stand) next)
  cleaned-recovered same_length some-victim =
      recovered-case L n s m area
      (λ (k : Record).
      within victims k.map ≡ true
      → StandsFor m victims (log_now area k) stand next.0
      → Heads W (views_of area s) (views_of area' s) n (new_slot k) (digest_with k victims next) (kept victims stand)
      → recovered W n s m area' ≡ some (renewed_record W area k victims (kept victims stand) next))
      (λ h l f b q d.
      sound-recovered W n s m area' (cleaned L W up (views_of area s) (views_of area' s) n s m h victims next stand f b q d)
      (subst (Allowed n s m) (sym same_length) l)
      (cleaned-sound L W up (views_of area s) (views_of area' s) n s m h victims next stand f b q d some-victim) ∙
      ap some
      (rw (
        new-end L W up (views_of area s) (views_of area' s) n s m h victims next (kept victims stand) f b d,
        cleaned-next L W up (views_of area s) (views_of area' s) n s m h victims next stand f b q d,
        cleaned-keys L W up (views_of area s) (views_of area' s) n s m h victims next stand f b q d,
        cleaned-counts L W up (views_of area s) (views_of area' s) n s m h victims next stand f b q d,
      ))) r e sub w c
