-- The text at each test of the call that prints an input.
use Rattle.std.specs.Prelude.{ℕ, ◌+◌, ◌-◌, ◌<◌, ◌≤◌, ◌≡◌, ltb, length, get_or, take, drop}
use Rattle.std.proofs.Math.Path.{sym, ap}
use Rattle.std.proofs.Common.{◌∙◌, zero-add, arith, take_all, take_at, drop_at, lt-ltb, le-ltb}
use mathlib.Core.List.{List, [], ◌++◌}
use Rattle.std.proofs.Math.ListN.{length-drop}
use Rattle.std.proofs.lemmas.List.Edits.{sets, sets-eq}
use Rattle.word.specs.Number.{number_of}
use Rattle.segment.proofs.Choice.{pick_true, pick-false}
use Rattle.record.specs.declared.Refusal.{Refusal}
use Rattle.report.specs.Report.{refused_line, area_text, dump_text, text_room, text_within}
use Rattle.report.specs.PutLaws.{PutWithin}

module _ (room : ℕ) (input : List ℕ) where
  pub text-none : room < text_room → [] ≡ text_within room (dump_text input)
  unfolding text_within
  text-none h = sym (pick_true (ltb room text_room) [] (dump_text input) (lt-ltb room text_room h))

  module _ (enough : text_room ≤ room) where
    text-all : dump_text input ≡ text_within room (dump_text input)
    unfolding text_within
    text-all = sym (pick-false (ltb room text_room) [] (dump_text input) (le-ltb room text_room enough))

    pub text-short : length input < 3 → refused_line Refusal.Geometry ≡ text_within room (dump_text input)
    unfolding dump_text
    text-short h = sym (pick_true (ltb (length input) 3) _ _ (lt-ltb (length input) 3 h)) ∙ text-all

    pub text-area : 3 ≤ length input → (s : ℕ) → s ≡ number_of (take 2 (drop 1 input))
        → area_text (get_or input 0 0) s (take (length input - 3) (drop 3 input)) ≡ text_within room (dump_text input)
    unfolding dump_text
    text-area h s e =
        ap (area_text (get_or input 0 0) s) (take_all (length input - 3) (drop 3 input) (omega (arith, length-drop 3 input)))
        ∙ ap (λ (k : ℕ). area_text (get_or input 0 0) k (drop 3 input)) e
        ∙ sym (pick-false (ltb (length input) 3) _ _ (le-ltb (length input) 3 h))
        ∙ text-all

-- In a buffer with room the first bytes, as many as the answer says, are the text, and the rest is as it was.
pub text-stands : (input out out' : List ℕ) (r : ℕ) → text_room ≤ length out
    → PutWithin out out' 0 r (text_within (length out) (dump_text input)) (length out) → (take r out' ≡ dump_text input) × (drop r out' ≡ drop r out)
text-stands input out out' r enough p =
    let whole = sym (text-all (length out) input enough) in
    let end : r ≡ length (dump_text input) = p.put.end ∙ zero-add (length (text_within (length out) (dump_text input))) ∙ ap length whole in
    let inside : 0 + length (dump_text input) ≤ length out = omega (arith, p.within) in
    let after : out' ≡ dump_text input ++ drop r out =
    p.put.stored ∙ ap (sets out 0) whole ∙ sets-eq (dump_text input) out 0 inside
    ∙ ap (λ (k : ℕ). dump_text input ++ drop k out) (zero-add (length (dump_text input)) ∙ sym end) in
    (ap (take r) after ∙ take_at (dump_text input) (drop r out) r (sym end), ap (drop r) after ∙ drop_at (dump_text input) (drop r out) r (sym end))
