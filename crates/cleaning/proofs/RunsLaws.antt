-- Chosen entries that stand one behind the other: where the slot is of the new head's edition, what is copied of them is one stretch of
-- the area.
-- What is proved of the definitions in `specs/Runs.antt`.
use Rattle.std.specs.Prelude.{ℕ, ◌+◌, ◌*◌, ◌-◌, ◌≤◌, ◌≡◌, true, false, List, [], ◌++◌, length, take, drop}
use Rattle.std.proofs.Common.{sym, ◌∙◌, ap, subst, append_assoc, arith, take-add, drop-drop}
use Rattle.std.proofs.lemmas.List.Edits.{sets}
use Rattle.segment.specs.Layout.{Layout}
use Rattle.segment.proofs.LayoutLaws.{layout-same}
use Rattle.segment.proofs.Packed.{length_part}
use Rattle.segment.specs.Copied.{Copied}
use Rattle.segment.specs.declared.Header.{Header}
use Rattle.cleaning.specs.EntriesLaws.{Meets}
use Rattle.cleaning.specs.Chosen.{is_chosen}
use Rattle.cleaning.specs.ChosenLaws.{chosen_from, chosen-entry}
use Rattle.cleaning.proofs.ChosenLaws.{bytes_left, bytes_chosen}
use Rattle.cleaning.proofs.KeptLaws.{moved_same}
use Rattle.cleaning.specs.Runs.{Run, stretch}

-- the same of the bytes by another name
pub run-as : {L : Layout} {area chosen : List ℕ} {S i : ℕ} {s t : List ℕ} {from at : ℕ} → s ≡ t → Run L area chosen S i s from at → Run L area chosen S i t from at
run-as {L} {area} {chosen} {S} {i} {from = from} {at} e r = subst (λ (l : List ℕ). Run L area chosen S i l from at) e r

module _ (L : Layout) (area chosen : List ℕ) (S i : ℕ) (s : List ℕ) where
  pub run-start : (from : ℕ) → from ≤ length s → Run L area chosen S i s from from
  run-start from h =
      let none : from - from ≡ 0 = omega arith in
      record { low = omega arith; high = h; parts = ap (λ (n : ℕ). take n (drop (i * S + from) area) ++ chosen_from L L area chosen S i s from) (sym none) }

  -- one stretch behind another
  joined : (from at to : ℕ) → from ≤ at → at ≤ to → stretch area S i from at ++ stretch area S i at to ≡ stretch area S i from to
  joined from at to h k =
      let there : i * S + at ≡ i * S + from + (at - from) = omega arith in
      let all : at - from + (to - at) ≡ to - from = omega arith in
      ap (λ (n : ℕ). stretch area S i from at ++ take (to - at) (drop n area)) there
      ∙ ap (λ (l : List ℕ). stretch area S i from at ++ take (to - at) l) (sym (drop-drop (at - from) (i * S + from) area))
      ∙ sym (take-add (at - from) (to - at) (drop (i * S + from) area))
      ∙ ap (λ (n : ℕ). take n (drop (i * S + from) area)) all

  -- a chosen entry is the stretch up to the next
  module _ (at : ℕ) {h : Header} (m : Meets L s at h) (at' : ℕ) (b : at' ≡ at + h.length) where
    one : is_chosen chosen (i * S + at) ≡ true → chosen_from L L area chosen S i s at ≡ stretch area S i at at' ++ chosen_from L L area chosen S i s at'
    one picked =
        let n : h.length ≡ at' - at = omega arith in
        chosen-entry L L area chosen S i s at m at' b
        ∙ ap (λ (l : List ℕ). l ++ chosen_from L L area chosen S i s at')
        (bytes_chosen L area chosen L h (i * S + at) picked
        ∙ moved_same L area L h (i * S + at) (layout-same L)
        ∙ ap (λ (k : ℕ). take k (drop (i * S + at) area)) n)

    -- the run goes on over it
    pub run-entry : (from : ℕ) → Run L area chosen S i s from at → is_chosen chosen (i * S + at) ≡ true → Run L area chosen S i s from at'
    run-entry from r picked =
        record {
          low = omega (arith, r.low, b);
          high = omega (arith, m.fits, b);
          parts =
              r.parts
              ∙ ap (λ (l : List ℕ). stretch area S i from at ++ l) (one picked)
              ∙ sym (append_assoc (stretch area S i from at) (stretch area S i at at') (chosen_from L L area chosen S i s at'))
              ∙ ap (λ (l : List ℕ). l ++ chosen_from L L area chosen S i s at') (joined from at at' r.low (omega (arith, b)));
        }

    -- or begins with it
    pub run-first : (end : ℕ) → Run L area chosen S i s at' end → is_chosen chosen (i * S + at) ≡ true → Run L area chosen S i s at end
    run-first end r picked =
        record {
          low = omega (arith, r.low, b);
          high = r.high;
          parts =
              one picked
              ∙ ap (λ (l : List ℕ). stretch area S i at at' ++ l) r.parts
              ∙ sym (append_assoc (stretch area S i at at') (stretch area S i at' end) (chosen_from L L area chosen S i s end))
              ∙ ap (λ (l : List ℕ). l ++ chosen_from L L area chosen S i s end) (joined at at' end (omega (arith, b)) r.low);
        }

    -- one that is not chosen is passed over
    pub run-passed : is_chosen chosen (i * S + at) ≡ false → chosen_from L L area chosen S i s at ≡ [] ++ chosen_from L L area chosen S i s at'
    run-passed left =
        chosen-entry L L area chosen S i s at m at' b
        ∙ ap (λ (l : List ℕ). l ++ chosen_from L L area chosen S i s at') (bytes_left L area chosen L h (i * S + at) left)

-- a stretch, as the code cuts and copies it
module _ (area : List ℕ) (S i from to : ℕ) (low : from ≤ to) (fits : i * S + to ≤ length area) where
  cut-long : i * S + to - (i * S + from) ≡ to - from
  cut-long = omega arith

  pub stretch-long : length (stretch area S i from to) ≡ to - from
  stretch-long = length_part (to - from) (i * S + from) area (omega arith)

  pub stretch-room : (at room : ℕ) → at + length (stretch area S i from to) ≤ room → at + length (take (i * S + to - (i * S + from)) (drop (i * S + from) area)) ≤ room
  stretch-room at room h = omega (arith, h, ap (λ (k : ℕ). length (take k (drop (i * S + from) area))) cut-long)

  pub stretch-copied : (work work' : List ℕ) (at : ℕ) → work' ≡ sets work at (take (i * S + to - (i * S + from)) (drop (i * S + from) area))
      → Copied (stretch area S i from to) work at work' (at + (to - from))
  stretch-copied work work' at e =
      record {
        stored = e ∙ ap (λ (k : ℕ). sets work at (take k (drop (i * S + from) area))) cut-long;
        behind = omega (arith, stretch-long);
      }
