-- What the writers of a conversion leave in the target.
use Rattle.std.specs.Prelude.{ℕ, suc, ◌+◌, ◌*◌, ◌-◌, ◌≤◌, ◌<◌, ◌≡◌, refl, Bool, true, false, List, [], ◌∷◌, ◌++◌, length, set, replicate}
use Rattle.std.proofs.Math.Path.{sym, ap, subst}
use Rattle.std.proofs.Common.{◌∙◌, append-nil, suc-mul, add-one, drop_of_length-le}
use native.Mathlib.Omega.{arith}
use Rattle.std.proofs.lemmas.List.Edits.{sets, sets-eq}
use Rattle.std.proofs.Math.Seq.{length-sets}
use Rattle.segment.proofs.Choice.{pick_true, pick-false}
use Rattle.segment.specs.Copied.{Copied, copied-then, Copying}
use Rattle.segment.proofs.Copied.{copied-as, copied-long, copying-start, copying-next, copying-room, copying-end}
use Rattle.segment.specs.Layout.{Layout, digest_size, entry_size}
use Rattle.segment.specs.Entry.{Entry, encoded}
use Rattle.segment.proofs.EntryLaws.{length-encoded}
use Rattle.segment.specs.Digest.{digest_of, encoded_digest}
use Rattle.segment.proofs.DigestLaws.{length-encoded_digest}
use Rattle.segment.specs.Rewritten.{entry_bytes}
use Rattle.segment.proofs.Rewritten.{entry-own}
use Rattle.segment.specs.declared.Digest.{Digest}
use Rattle.segment.specs.declared.Header.{Header}
use Rattle.model.specs.Log.{View, scan, is_damaged}
use Rattle.model.specs.Operations.{all_encoded}
use Rattle.model.specs.Conversion.{slot_bytes, rewritten, filled_to, converted_slot, converted_slots}
use Rattle.converting.specs.Parts.{entries_of, part_bytes}
use Rattle.converting.specs.PartLaws.{Left, More, left-start, PartOf, part-rewritten}
use Rattle.converting.specs.SizeLaws.{length-part_bytes}

-- ---- the entries of a segment

-- These are put, and these are left to put.
pub record Putting (L K : Layout) (s target₀ : List ℕ) (start : ℕ) (target : List ℕ) (at place : ℕ) : Type 0 where
  pub entries : List Entry
  pub left : Left L s at entries
  pub copying : Copying (all_encoded K (entries_of L s)) target₀ start (all_encoded K entries) target place

module _ (L K : Layout) (s target₀ : List ℕ) (start : ℕ) where
  pub put-start : is_damaged (scan L s) ≡ false → Putting L K s target₀ start target₀ (digest_size L) start
  put-start sound =
      record {
        entries = entries_of L s;
        left = left-start L s sound;
        copying = copying-start (all_encoded K (entries_of L s)) target₀ start (all_encoded K (entries_of L s)) refl;
      }

  module _ {target : List ℕ} {at place : ℕ} (c : Putting L K s target₀ start target at place) where
    module _ {h : Header} (m : More L s at c.entries h) where
      next-bytes : all_encoded K c.entries ≡ encoded K m.first ++ all_encoded K m.rest
      unfolding all_encoded
      next-bytes = ap (all_encoded K) m.all

      pub put-room : start + length (all_encoded K (entries_of L s)) ≤ length target₀ → place + entry_size K (h.length - entry_size L 0) ≤ length target
      put-room fits =
          omega (
            arith,
            copying-room c.copying fits (encoded K m.first) (all_encoded K m.rest) next-bytes,
            length-encoded K m.first,
            m.size,
          )

      pub put-turn : (target' : List ℕ) (r : ℕ) → Copied (entry_bytes L K s at h) target place target' r → Putting L K s target₀ start target' (at + h.length) r
      put-turn target' r p =
          record {
            entries = m.rest;
            left = m.left;
            copying = copying-next c.copying (encoded K m.first) (all_encoded K m.rest) target' r next-bytes (copied-as (entry-own L K s at m.first m.is m.its) p);
          }

    pub put-end : c.entries ≡ [] → Copied (all_encoded K (entries_of L s)) target₀ start target place
    unfolding all_encoded
    put-end e = copying-end c.copying (ap (all_encoded K) e)

-- ---- zeros

-- The rest is still to become 0.
abbrev pub Clearing : ℕ → ℕ → List ℕ → List ℕ → ℕ → Type 0
Clearing start stop target₀ target at = (start ≤ at) × (at ≤ stop) × Copying (replicate (stop - start) 0) target₀ start (replicate (stop - at) 0) target at

module _ {start stop : ℕ} {target₀ : List ℕ} where
  pub clear-start : start ≤ stop → Clearing start stop target₀ target₀ start
  clear-start h = (omega arith, h, copying-start (replicate (stop - start) 0) target₀ start (replicate (stop - start) 0) refl)

  pub clear-turn : {target : List ℕ} {at : ℕ} → Clearing start stop target₀ target at → at < stop → Clearing start stop target₀ (set target at 0) (at + 1)
  clear-turn {target} {at} c h = (
    omega arith,
    omega arith,
    copying-next c.2 (0 ∷ []) (replicate (stop - (at + 1)) 0) (set target at 0) (at + 1)
        (ap (λ (k : ℕ). replicate k 0) more) (record { stored = refl; behind = refl }),
  )
    where
      more : stop - at ≡ suc (stop - (at + 1))
      more = omega arith

  pub clear-end : {target : List ℕ} {at : ℕ} → Clearing start stop target₀ target at → stop ≤ at → Copied (replicate (stop - start) 0) target₀ start target stop
  clear-end {target} {at} c h =
      let here : at ≡ stop = omega (arith, c.1) in
      let nothing : stop - at ≡ 0 = omega arith in
      subst (λ (k : ℕ). Copied (replicate (stop - start) 0) target₀ start target k) here
      (copying-end c.2 (ap (λ (k : ℕ). replicate k 0) nothing))

-- ---- a slot

module _ (L K : Layout) (s : List ℕ) (S : ℕ) (target : List ℕ) (start : ℕ) where
  abbrev digest : Digest
  digest = digest_of L s

  module _ (target₁ : List ℕ) (wrote : target₁ ≡ sets target start (encoded_digest K digest)) (fits : length (part_bytes L K s) ≤ S)
      (room : start + S ≤ length target) where
    same-room : length target₁ ≡ length target
    same-room = ap length wrote ∙ length-sets target start (encoded_digest K digest)

    pub entries-room : start + digest_size K + length (all_encoded K (entries_of L s)) ≤ length target₁
    entries-room = omega (arith, same-room, length-part_bytes L K s)

    digest-put : Copied (encoded_digest K digest) target start target₁ (start + digest_size K)
    digest-put = record { stored = wrote; behind = omega (arith, length-encoded_digest K digest) }

    module _ (target₂ : List ℕ) (end : ℕ) (put : Copied (all_encoded K (entries_of L s)) target₁ (start + digest_size K) target₂ end) where
      part-put : Copied (part_bytes L K s) target start target₂ end
      unfolding slot_bytes
      part-put = copied-then digest-put put

      pub zeros-room : (end ≤ start + S) × (start + S ≤ length target₂)
      zeros-room = (omega (arith, part-put.behind), omega (arith, copied-long part-put))

      pub slot-put : (target₃ : List ℕ) → Copied (replicate (start + S - end) 0) target₂ end target₃ (start + S)
          → Copied (filled_to S (part_bytes L K s)) target start target₃ (start + S)
      slot-put target₃ cleared =
          let same : start + S - end ≡ S - length (part_bytes L K s) = omega (arith, part-put.behind) in
          copied-then part-put (copied-as {a = replicate (start + S - end) 0} (ap (λ (k : ℕ). replicate k 0) same) cleared)

-- ---- the slots of an area

-- The slots before the next are written.
abbrev pub Filling : Layout → (ℕ → View) → (ℕ → Bool) → ℕ → List ℕ → List ℕ → ℕ → Type 0
Filling K v p S target₀ target i = Copied (converted_slots K v p S i) target₀ 0 target (i * S)

module _ (K : Layout) (v : ℕ → View) (p : ℕ → Bool) (S : ℕ) (target₀ : List ℕ) where
  pub fill_start : Filling K v p S target₀ target₀ 0
  unfolding converted_slots
  fill_start = record { stored = refl; behind = omega arith }

  module _ (target target' : List ℕ) (i : ℕ) (f : Filling K v p S target₀ target i) where
    fill-turn : Copied (converted_slot K v p S i) target (i * S) target' (i * S + S) → Filling K v p S target₀ target' (i + 1)
    unfolding converted_slots
    fill-turn c =
        let next : i * S + S ≡ (i + 1) * S = sym (suc-mul i S) ∙ ap (λ (m : ℕ). m * S) (sym (add-one i)) in
        subst (λ (k : ℕ). Copied (converted_slots K v p S (i + 1)) target₀ 0 target' k) next
        (copied-as (ap (converted_slots K v p S) (sym (add-one i))) (copied-then f c))

    pub fill-skip : p i ≡ false → Copied (replicate (i * S + S - i * S) 0) target (i * S) target' (i * S + S) → Filling K v p S target₀ target' (i + 1)
    fill-skip q c =
        let same : i * S + S - i * S ≡ S - 0 = omega arith in
        fill-turn
        (copied-as
        (ap (λ (k : ℕ). replicate k 0) same ∙ ap (filled_to S) (sym (pick-false (p i) (rewritten K (v i)) [] q))) c)

    pub fill-take : {L : Layout} {part : List ℕ} → p i ≡ true → PartOf L (v i) part
        → Copied (filled_to S (part_bytes L K part)) target (i * S) target' (i * S + S) → Filling K v p S target₀ target' (i + 1)
    fill-take {L} {part} q o c =
        fill-turn (copied-as (ap (filled_to S) (sym (pick_true (p i) (rewritten K (v i)) [] q ∙ part-rewritten K o))) c)

  -- all of the target is written
  pub fill_end : (target : List ℕ) (n : ℕ) → length target₀ ≡ n * S → Filling K v p S target₀ target n → target ≡ converted_slots K v p S n
  fill_end target n whole f =
      f.stored ∙
      sets-eq (converted_slots K v p S n) target₀ 0 (omega (arith, f.behind)) ∙
      ap (λ (l : List ℕ). converted_slots K v p S n ++ l) (drop_of_length-le target₀ {i = 0 + length (converted_slots K v p S n)} (omega (arith, f.behind))) ∙
      append-nil (converted_slots K v p S n)
