-- Recovery in the parts in which its code makes it: what is lent (1, 2, 15), the image (16 to 19, 24, 25 and 28), and the record.
use Rattle.std.specs.Prelude.{ℕ, Result, ◌+◌, max, Bool, true, false, List, [], ◌∷◌, ◌++◌, Ok, Err}
use Rattle.std.proofs.Math.Option.{Option, none, some}
use Rattle.segment.specs.Layout.{Layout}
use Rattle.segment.specs.declared.Digest.{Digest}
use Rattle.segment.specs.declared.Version.{Version}
use Rattle.record.specs.Answers.{blank}
use Rattle.record.specs.declared.Refusal.{Refusal}
use Rattle.record.specs.declared.Refusal.TheVariants.{BadOrder}
use Rattle.record.specs.declared.Pending.TheVariants.{Idle}
use Rattle.record.specs.declared.Record.{Record}
use Rattle.record.specs.Answered.{Recovery, RecoverAnswer}
use Rattle.model.specs.Log.{View, Head, segment_of, scan, end_of, head_of, highest}
use Rattle.model.specs.Causes.{Cause, when, first_cause}
use Rattle.model.specs.Recovery.{order_bad, lent_causes, later_edition, other_edition, image_causes_by, head_else, log_slots, log_under}
use Rattle.record.specs.Answered.{Check}
use Rattle.recovery.specs.declared.Image.{Image}

-- 1, 2 and 15, which look at no byte of the area
abbrev pub lent_first : ℕ → ℕ → ℕ → ℕ → List ℕ → Option Refusal
lent_first n s m area_length order = first_cause (lent_causes n s m area_length ++ (when (order_bad n order) BadOrder ∷ []))

unfoldable pub checked_as : Option Refusal → Check
checked_as none = (Ok tt)
checked_as (some c) = Err c

-- 28 in its two forms: where the log has to be of a single edition, which the conversion of images asks, and where slots of an earlier edition
-- than the head's are taken, as recovery and the read by scan do (02, R-13)
abbrev pub editions_bad : Bool → Layout → (ℕ → View) → (ℕ → Bool) → ℕ → Bool
editions_bad true L v p n = other_edition L v p n
editions_bad false L v p n = later_edition L v p n

-- 16, 17, 24, 25, 28, 18 and 19 with either
abbrev pub image_checks : Bool → Layout → (ℕ → View) → ℕ → Option Head → List Cause
image_checks single L v n h = image_causes_by (editions_bad single L v (log_slots (head_else h)) n) v n h

-- the head of an image with its edition and the highest version in its log, or the cause that refuses the image
abbrev pub ImageFound : Type 0
ImageFound = Result Image Refusal

-- what refuses the image, or the head with its edition and the highest version in its log
unfoldable pub image_for : (ℕ → View) → ℕ → Head → Option Refusal → ImageFound
image_for v n h none = Ok (record { edition = (v h.slot).layout; slot = h.slot; digest = h.digest; highest = (record { 0 = highest (log_under v n h) }) })
image_for v n h (some c) = Err c

abbrev pub image_of : Bool → (ℕ → View) → ℕ → ImageFound
image_of single v n =
    image_for v n (head_else (head_of v n)) (first_cause (image_checks single (v (head_else (head_of v n)).slot).layout v n (head_of v n)))

-- the same under a head that was found
abbrev pub image_under : Bool → (ℕ → View) → ℕ → Head → ImageFound
image_under single v n h = image_for v n h (first_cause (image_checks single (v h.slot).layout v n (some h)))

-- the record of a head, the highest version in its log, the number of its keys, and the present bytes of the slots
abbrev pub record_with : Layout → ℕ → ℕ → ℕ → List ℕ → ℕ → Digest → Version → ℕ → List ℕ → Record
record_with L n s m area slot d top keys counts =
    record {
      slots = n;
      size = s;
      cells = m;
      edition = L;
      switched = false;
      head = slot;
      end = end_of (scan L (segment_of area s slot));
      digest = d.number;
      map = d.map;
      next = record { 0 = max d.next.0 (top.0 + 1) };
      keys = keys;
      counts = counts;
      pending = Idle;
    }

-- a refusal stands beside the blank record
abbrev pub refused_with : Refusal → Recovery
refused_with c = record { answer = Err c; rec = blank }
