-- `stepping::finish::finish` meets its contract.
use native.Mathlib.Omega.{arith}
use Rattle.segment.proofs.LayoutLaws.{limit-high}
use Rattle.record.specs.Switch.{new_layout}
use Rattle.stepping.proofs.FinishLaws.{in-append, in_head, in_clean, in-forget, with-idle, with_append, with-head, with-clean, with-forget}
use Rattle.telling.proofs.AgreeLaws.{append-agrees, head-agrees, clean-agrees, forget-agrees}
use Rattle.stepping.proofs.finish.finish.Goals as goal

pub finish_append-requires : goal.finish_append-requires
finish_append-requires c =
    let e = c.in-Append.is in
    let i = in-append c.args.rec e c.requires.3 in
    (c.requires.0, c.requires.1, c.requires.2, i.0, i.1, omega (arith, (append-agrees _ c.args.rec c.requires.4 e).version, limit-high c.args.rec.edition), c.requires.5, c.requires.6)

pub finish_head-requires : goal.finish_head-requires
finish_head-requires c =
    let e = c.in-NewHead.is in
    let g = head-agrees _ c.args.rec c.requires.4 e in
    (c.requires.0, c.requires.1, c.requires.2, (in_head c.args.rec e c.requires.3).0, omega (arith, g.1.version, limit-high (new_layout c.args.rec)), g.0.number, c.requires.5, c.requires.6)

pub finish_clean-requires : goal.finish_clean-requires
finish_clean-requires c =
    let e = c.in-Clean.is in
    (c.requires.0, c.requires.1, c.requires.2, (in_clean c.args.rec e c.requires.3).0, (clean-agrees _ c.args.rec c.requires.4 e).number)

pub finish_forget-requires : goal.finish_forget-requires
finish_forget-requires c =
    let e = c.in-Forget.is in
    let g = forget-agrees _ c.args.rec c.requires.4 e in
    (c.requires.0, c.requires.1, c.requires.2, (in-forget c.args.rec e c.requires.3).0, omega (arith, g.1, limit-high (new_layout c.args.rec)), g.0.number)

pub returns-in-Idle : goal.returns-in-Idle
returns-in-Idle c = with-idle _ _ _ _ c.in-Idle.is c.refused.ensures

pub returns-in-Append : goal.returns-in-Append
returns-in-Append c = with_append _ _ _ _ c.in-Append.is c.finish_append.ensures

pub returns-in-NewHead : goal.returns-in-NewHead
returns-in-NewHead c = with-head _ _ _ _ c.in-NewHead.is c.finish_head.ensures

pub returns-in-Clean : goal.returns-in-Clean
returns-in-Clean c = with-clean _ _ _ _ c.in-Clean.is c.finish_clean.ensures

pub returns-in-Forget : goal.returns-in-Forget
returns-in-Forget c = with-forget _ _ _ _ c.in-Forget.is c.finish_forget.ensures
