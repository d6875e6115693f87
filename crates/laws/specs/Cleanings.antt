-- What is known of a cleaning that a start accepted, and of a delete that cleans: one record for both.
use Rattle.std.specs.Prelude.{ℕ, ◌+◌, ◌*◌, ◌^◌, ◌≤◌, ◌<◌, ◌≡◌, true, false, length}
use Rattle.std.proofs.Common.{arith, sym, ap, ◌∙◌}
use Rattle.std.proofs.Math.Path.{refl, subst}
use mathlib.Core.List.{List, Memᴰ}
use Rattle.std.proofs.Math.Option.{Option, none, some}
use Rattle.std.proofs.Math.Pow.{pow_pos}
use borrow.Author.Tests.{not-false, not-true, ltb-false, eqb-false}
use Rattle.word.specs.Number.{Bytes}
use Rattle.word.specs.Laws.{bytes_take, bytes_drop}
use Rattle.segment.specs.Choice.{is_none, pick}
use Rattle.segment.proofs.Choice.{both_left, either-false-left, either-false-right}
use Rattle.segment.specs.Layout.{Layout, digest_size, entry_size, number_limit, table}
use Rattle.segment.specs.Entry.{Entry, WellFormed, bytes_in}
use Rattle.segment.specs.declared.Key.{Key}
use Rattle.segment.specs.declared.Version.{Version}
use Rattle.slot_map.specs.Bit.{named, within}
use Rattle.slot_map.proofs.BitLaws.{named-true, within-pow}
use Rattle.record.specs.RangeLaws.{Lent}
use Rattle.record.specs.Switch.{new_layout, unswitched}
use Rattle.record.specs.declared.Record.{Record}
use Rattle.model.specs.Log.{Placed, views_of, log_of, present, same_key, highest}
use Rattle.model.specs.Recovery.{later, recovered}
use Rattle.model.specs.Operations.{delete, clean, log_now, tombstone_entry, fits_head, no_room, next_after, is_kept, kept, all_encoded, replaced_by, slot_of, forgotten_log, forget_victim, forget_kept}
use Rattle.model.specs.Refused.{kept_length, forget_length, start_causes}
use Rattle.laws.specs.Members.{In, those, those-in, entry_of}
use Rattle.laws.specs.Latest.{latest-some}
use Rattle.laws.specs.MapLaws.{value_at, kept-those}
use Rattle.laws.specs.Forgotten.{IsLive, present-live, Was, kept-as, put-for, was, forgotten-outside, forgotten-versions, forgotten-highest, forgotten-keys, forgotten-value}
use Rattle.laws.specs.Counted.{forgotten-present}
use Rattle.laws.specs.Editions.{later-limit, later_trans, formed-later}
use Rattle.laws.specs.Scans.{scans-stands}
use Rattle.laws.specs.LogLaws.{log-in, scan-whole}
use Rattle.laws.specs.RecoverLaws.{recovered-case, recovered-highest, placed-scans}
use Rattle.laws.specs.Cleaned.{StandsFor}
use Rattle.laws.specs.Operated.{Accepted}
use Rattle.laws.specs.Entering.{idle-lent, idle-next, idle-number, idle-up, delete-room, delete-next, delete-number, delete-formed, delete-live}
use Rattle.laws.specs.Passed.{CleanPassed, clean-passed}

-- every entry of a recovered log of bytes is well formed, in its own edition and so in the store's and every later one
pub log-formed :
    (L : Layout) (n s m : ℕ) (area : List ℕ) (r : Record) → Bytes area → recovered L n s m area ≡ some r → (x : Placed) →
    In x (log_of (views_of area s) (named r.map) n) → (W : Layout) → later L W ≡ false → WellFormed W x.entry
log-formed L n s m area r bytes e x i W up =
    recovered-case L n s m area
    (λ (k : Record). In x (log_of (views_of area s) (named k.map) n) → WellFormed W x.entry)
    (λ h l f i.
    let at = log-in (views_of area s) (named h.digest.map) n x i in
    formed-later x.layout W x.entry
    (later_trans x.layout L W (ap (λ (K : Layout). later K L) at.layout ∙ f.editions x.slot at.below at.picked) up)
    (scans-stands (bytes_take s _ (bytes_drop (x.slot * s) area bytes)) (placed-scans L n s m area h f x i) at.item).formed)
    r e i

pub kept_in : (victims : ℕ) (log : List Placed) (e : Entry) → Memᴰ e (kept victims log) → (x : Placed) × In x log × x.entry ≡ e
kept_in victims log e i =
    let y = entry_of (those (is_kept victims log) log) e (subst (Memᴰ e) (kept-those victims log log) i) in
    (y.0, (those-in (is_kept victims log) log y.0 y.1).0, y.2)

-- A cleaning of the victims by a log that stands for the store's, under a digest with this next version; the new head is of the layout W.
pub record Cleaning (L W : Layout) (before : List ℕ) (idle : Record) (victims : ℕ) (next : Version) (stand : List Placed) : Type 0 where
  pub area-bytes : Bytes before
  pub recovers : recovered L idle.slots idle.size idle.cells before ≡ some (unswitched idle)
  pub up : later L W ≡ false
  pub sub : within victims idle.map ≡ true
  pub some-victim : 0 < victims
  pub stands : StandsFor idle.cells victims (log_now before idle) stand next.0
  pub room : digest_size W + length (all_encoded W (kept victims stand)) ≤ idle.size
  pub number-left : idle.digest.0 + 1 < 256 ^ 4
  pub next_fits : next.0 < 256 ^ (table W).width
  pub formed : (x : Entry) → Memᴰ x (kept victims stand) → WellFormed W x

module _ (L : Layout) (area : List ℕ) (r : Record) (e : recovered L r.slots r.size r.cells area ≡ some (unswitched r)) where
  -- the log stands for itself
  pub log-stands : (victims : ℕ) → StandsFor r.cells victims (log_now area r) (log_now area r) r.next.0
  log-stands victims =
      recovered-case L r.slots r.size r.cells area
      (λ (k : Record).
      highest (log_now area k) < k.next.0 → StandsFor r.cells victims (log_now area k) (log_now area k) k.next.0)
      (λ h l f b. record { outside-same = refl; outside-present = λ y m. refl; versions = f.versions; keys = f.keys; below = b }) (unswitched r) e
      (recovered-highest L r.slots r.size r.cells area (unswitched r) e)

-- ---- a cleaning

module _ (L : Layout) (before : List ℕ) (idle : Record) (victims : ℕ) (a : Accepted L before idle (clean victims)) where
  tests : CleanPassed L idle a.lengths (kept_length (new_layout idle) (log_now before idle) victims) victims
  unfolding start_causes
  tests = clean-passed L idle a.lengths (kept_length (new_layout idle) (log_now before idle) victims) victims a.no-cause

  formed-log : (x : Entry) → Memᴰ x (kept victims (log_now before idle)) → WellFormed (new_layout idle) x
  formed-log x i =
      let y = kept_in victims (log_now before idle) x i in
      subst (WellFormed (new_layout idle)) y.2
      (log-formed L idle.slots idle.size idle.cells before (unswitched idle) a.area-bytes a.recovers y.0 y.1 (new_layout idle)
      (idle-up L before idle (clean victims) a))

  pub clean-cleans : Cleaning L (new_layout idle) before idle victims idle.next (log_now before idle)
  clean-cleans =
      record {
        area-bytes = a.area-bytes;
        recovers = a.recovers;
        up = idle-up L before idle (clean victims) a;
        sub = not-false (within victims idle.map) (either-false-right _ _ tests.victims-good);
        some-victim = omega (arith, eqb-false victims 0 (either-false-left _ _ tests.victims-good));
        stands = log-stands L before idle a.recovers victims;
        room = ltb-false idle.size (digest_size (new_layout idle) + length (all_encoded (new_layout idle) (kept victims (log_now before idle)))) tests.kept-fits;
        number-left = omega (arith, idle-number L before idle (clean victims) a, eqb-false idle.digest.0 number_limit tests.number-left);
        next_fits =
            omega (
              arith,
              idle-next L before idle (clean victims) a,
              later-limit L (new_layout idle) (idle-up L before idle (clean victims) a),
              (idle-lent L before idle (clean victims) a).next-some,
            );
        formed = formed-log;
      }

-- ---- a delete that finds no room

module _ (L : Layout) (before : List ℕ) (idle : Record) (k : Key) (a : Accepted L before idle (delete k)) where
  abbrev log : List Placed
  log = log_now before idle

  abbrev x : Placed
  x = (delete-live L before idle k a).0

  is : present log k ≡ some x
  is = (delete-live L before idle k a).1

  live : IsLive log k x
  live = present-live log k x is

  member : In x log
  member = (latest-some log k x live.latest-of).member

  itself : StandsFor idle.cells 0 log log idle.next.0
  itself = log-stands L before idle a.recovers 0

  pub forget-stands : StandsFor idle.cells (forget_victim log k) log (forgotten_log idle log k) (next_after idle).0
  unfolding slot_of replaced_by is_none
  forget-stands =
      rw is
      (record {
        outside-same = forgotten-outside log k x live (tombstone_entry idle k) refl refl itself.below itself.versions;
        outside-present = forgotten-present log k x live (tombstone_entry idle k) refl refl itself.below itself.versions;
        versions = forgotten-versions log k x live (tombstone_entry idle k) refl refl itself.below itself.versions;
        keys = omega (arith, forgotten-keys log k x live (tombstone_entry idle k) refl refl itself.below itself.versions, itself.keys);
        below = omega (arith, forgotten-highest log k x live (tombstone_entry idle k) refl refl itself.below itself.versions);
      })

  -- The map of the log that it goes by is the old one with the key gone.
  pub forget-value : (j : Key) → value_at (forgotten_log idle log k) j ≡ pick (same_key j (tombstone_entry idle k)) none (value_at log j)
  unfolding replaced_by is_none
  forget-value j = rw is (forgotten-value log k x live (tombstone_entry idle k) refl refl itself.below itself.versions j)

  formed-stand : (d : Entry) → Memᴰ d (forget_kept idle log k) → WellFormed (new_layout idle) d
  unfolding replaced_by
  formed-stand d i =
      let y = kept_in (forget_victim log k) (forgotten_log idle log k) d i in
      let m = subst (λ (o : Option Placed). In y.0 (replaced_by (tombstone_entry idle k) log o)) is y.1 in
      subst (WellFormed (new_layout idle)) y.2 (go y.0 (was x.entry.version (tombstone_entry idle k) log y.0 m))
    where
      go : (y : Placed) → Was x.entry.version (tombstone_entry idle k) log y → WellFormed (new_layout idle) y.entry
      go y (kept-as z i p q) =
          subst (WellFormed (new_layout idle)) (sym q)
          (log-formed L idle.slots idle.size idle.cells before (unswitched idle) a.area-bytes a.recovers z i (new_layout idle)
          (idle-up L before idle (delete k) a))
      go y (put-for z i p q) = subst (WellFormed (new_layout idle)) (sym q) (delete-formed L before idle k a)

  sub : within (forget_victim log k) idle.map ≡ true
  unfolding slot_of
  sub =
      rw is
      (within-pow idle.map x.slot
      (named-true idle.map x.slot (log-in (views_of before idle.size) (named idle.map) idle.slots x member).picked))

  pub forget-cleans : no_room L idle (entry_size L 0) ≡ true → Cleaning L (new_layout idle) before idle (forget_victim log k) (next_after idle) (forgotten_log idle log k)
  unfolding bytes_in
  forget-cleans full =
      record {
        area-bytes = a.area-bytes;
        recovers = a.recovers;
        up = idle-up L before idle (delete k) a;
        sub = sub;
        some-victim = pow_pos (slot_of (present log k));
        stands = forget-stands;
        room =
            ltb-false idle.size (digest_size (new_layout idle) + forget_length (new_layout idle) idle log k) (delete-room L before idle k a full);
        number-left = omega (arith, delete-number L before idle k a (not-true (fits_head L idle (tombstone_entry idle k)) (both_left _ _ full)));
        next_fits = omega (arith, delete-next L before idle k a);
        formed = formed-stand;
      }
