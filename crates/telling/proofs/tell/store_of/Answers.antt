-- `telling::tell::store_of` meets its contract: what is told of the place, with the work buffer's byte.
use Rattle.std.specs.Prelude.{ℕ, Ok, Err}
use mathlib.Core.Path.{◌≡◌, refl, sym, ◌∙◌, ap}
use borrow.Author.Rules.{rules}
use Rattle.record.specs.Answered.{TellAnswer}
use Rattle.telling.specs.Places.{answered}
use Rattle.telling.proofs.tell.store_of.Goals as goal

pub byte_from-byte-requires : goal.byte_from-byte-requires
byte_from-byte-requires c = c.place_of.ensures.inside _ _ _ c.in_ok-next.was

pub returns-in_err-next : goal.returns-in_err-next
unfolding answered
returns-in_err-next c =
    let w = c.args.work.now in
    let e : c.from_residual.result ≡ Err c.in_err-next.field-0.0 = search rules in
    e ∙ sym (ap (answered w) c.in_err-next.was) ∙ c.place_of.ensures.told w refl

pub returns : goal.returns
unfolding answered
returns c =
    let w = c.args.work.now in
    ap (λ (b : ℕ). Ok (record { place = c.in_ok-next.next.place; byte = b })) c.byte_from-byte.ensures
    ∙ sym (ap (answered w) c.in_ok-next.was) ∙ c.place_of.ensures.told w refl
