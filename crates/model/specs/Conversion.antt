-- 02, R-12: an image of one edition put into the other. The call takes N, S, an area to read and a second buffer of the same length; the
-- edition of the head says which way it goes.
use Rattle.std.specs.Prelude.{ℕ, zero, suc, ◌-◌, ◌≡◌, refl, Bool, false, not, List, [], ◌∷◌, ◌++◌, map, ltb, length, replicate, Ok, Err}
use Rattle.std.proofs.Math.Option.{Option, none, some}
use Rattle.segment.specs.Choice.{pick, both, either}
use Rattle.segment.specs.Layout.{Layout, other_layout, version_limit}
use Rattle.segment.specs.Entry.{Entry}
use Rattle.segment.specs.Digest.{encoded_digest}
use Rattle.segment.specs.declared.Digest.{Digest}
use Rattle.record.specs.Answers.{taken, convert_said, said_by}
use Rattle.record.specs.Answered.{ConvertAnswer}
use Rattle.record.specs.declared.Refusal.{Refusal}
use Rattle.record.specs.declared.Refusal.TheVariants.{Geometry, SlotTooLong, VersionTooWide}
use Rattle.model.specs.Log.{View, Item, views_of, head_of, items_of}
use Rattle.model.specs.Causes.{Cause, when, first_cause}
use Rattle.model.specs.Recovery.{geometry_bad, head_else, log_slots, image_layout, other_edition, image_causes_by}
use Rattle.model.specs.Operations.{all_encoded}
use Rattle.model.specs.Promises.{area_unless}

-- ---- one slot

-- the entries of a slot, in their order
abbrev pub entries_in : View → List Entry
entries_in w = map (λ (x : Item). x.entry) (items_of w.scan)

-- The bytes of a digest and of entries behind it in the layout K; none where there is no digest.
unfoldable pub slot_bytes : Layout → Option Digest → List Entry → List ℕ
slot_bytes K none es = []
slot_bytes K (some d) es = encoded_digest K d ++ all_encoded K es

-- A slot rewritten: its digest with the same fields, and its entries in the same order.
abbrev pub rewritten : Layout → View → List ℕ
rewritten K w = slot_bytes K w.digest (entries_in w)

-- S bytes that begin with these, and every other byte is 0
abbrev pub filled_to : ℕ → List ℕ → List ℕ
filled_to S bytes = bytes ++ replicate (S - length bytes) 0

-- ---- the slots of an area, of which p picks those of the log

-- A slot of the log is rewritten; any other is all 0.
abbrev pub converted_slot : Layout → (ℕ → View) → (ℕ → Bool) → ℕ → ℕ → List ℕ
converted_slot K v p S i = filled_to S (pick (p i) (rewritten K (v i)) [])

unfoldable pub converted_slots : Layout → (ℕ → View) → (ℕ → Bool) → ℕ → ℕ → List ℕ
converted_slots K v p S zero = []
converted_slots K v p S (suc n) = converted_slots K v p S n ++ converted_slot K v p S n

-- 29: a slot of the log does not fit S bytes any more
unfoldable pub slot_too_long : Layout → (ℕ → View) → (ℕ → Bool) → ℕ → ℕ → Bool
slot_too_long K v p S zero = false
slot_too_long K v p S (suc n) = either (slot_too_long K v p S n) (both (p n) (ltb S (length (rewritten K (v n)))))

-- 30: the version of an entry is none of K's
unfoldable pub version_too_wide : Layout → List Entry → Bool
version_too_wide K [] = false
version_too_wide K (e ∷ es) = either (not (ltb e.version (version_limit K))) (version_too_wide K es)

-- or a next version is above K's limit, which the next version may reach,
unfoldable pub next_too_wide : Layout → Option Digest → Bool
next_too_wide K none = false
next_too_wide K (some d) = ltb (version_limit K) d.next.0

-- in any slot of the log, the head or not
unfoldable pub slot_too_wide : Layout → (ℕ → View) → (ℕ → Bool) → ℕ → Bool
slot_too_wide K v p zero = false
slot_too_wide K v p (suc n) = either (slot_too_wide K v p n) (both (p n) (either (next_too_wide K (v n).digest) (version_too_wide K (entries_in (v n)))))

-- ---- the call

-- the edition that the head does not have
abbrev pub target_layout : ℕ → ℕ → List ℕ → Layout
target_layout n s source = other_layout (image_layout n s source)

-- the slots of the log of the area's head
abbrev pub image_slots : ℕ → ℕ → List ℕ → ℕ → Bool
image_slots n s source = log_slots (head_else (head_of (views_of source s) n))

-- 29 and 30, of slots under a head, into the layout K
abbrev pub fit_causes : Layout → (ℕ → View) → (ℕ → Bool) → ℕ → ℕ → List Cause
fit_causes K v p S n = when (slot_too_long K v p S n) SlotTooLong ∷ when (slot_too_wide K v p n) VersionTooWide ∷ []

-- Conversion: 1 (either buffer), 16, 17, 24, 25, 28, 18, 19, 29, 30. The causes of the image are recovery's own, but for
-- 28, which any log of both editions brings here.
abbrev pub convert_causes : ℕ → ℕ → List ℕ → ℕ → List Cause
convert_causes n s source target_length =
    when (either (geometry_bad n s (length source)) (geometry_bad n s target_length)) Geometry
    ∷ (image_causes_by (other_edition (image_layout n s source) (views_of source s) (image_slots n s source) n) (views_of source s) n (head_of (views_of source s) n) ++
    fit_causes (target_layout n s source) (views_of source s) (image_slots n s source) s n)

-- The same log slots, entries, order and digest fields in the other edition, and every other byte 0.
abbrev pub converted_image : ℕ → ℕ → List ℕ → List ℕ
converted_image n s source = converted_slots (target_layout n s source) (views_of source s) (image_slots n s source) s n

unfoldable pub convert_answer : Option Refusal → ConvertAnswer
convert_answer none = (Ok tt)
convert_answer (some c) = Err c

-- Accepted or its number; where refused, the second buffer stays as it was.
pub record ConvertPromise (n s : ℕ) (source target target' : List ℕ) (a : ConvertAnswer) : Type 0 where
  pub answers : a ≡ convert_answer (first_cause (convert_causes n s source (length target)))
  pub says : convert_said a ≡ said_by (first_cause (convert_causes n s source (length target))) taken
  pub leaves : target' ≡ area_unless (first_cause (convert_causes n s source (length target))) (converted_image n s source) target
