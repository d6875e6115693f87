use mathlib.Core.List.{[]}
use mathlib.Core.Path.{refl, sym, ap, ◌∙◌}
use native.Mathlib.Omega.{arith}
use Rattle.std.specs.Prelude.{true, false}
use Rattle.histories.specs.declared.WordNumber.{WordNumber}
use Rattle.histories.specs.Numbered.{word, one_less}
use Rattle.rig_model.specs.Verdict.{history_wrong}
use Rattle.rig_model.proofs.CheckLaws.{area-long}
use Rattle.rig_model.proofs.PlayLaws.{format-fresh, fresh-ready, word-start}
use Rattle.rig_model.proofs.LoopLaws.{run-wrong, run-turn, run_end}
use Rattle.rigging.proofs.run.is_wrong.Goals as goal

pub loop-l-init : goal.loop-l-init
loop-l-init c =
    let same = c.into_iter-l-iterator.ensures.into_iter_gives in (
      omega (arith, ap (λ (x : WordNumber). x.letters) same),
      record {
        ready = fresh-ready _ _ _ c.recover-fresh.result (format-fresh _ _ c.format.ensures) refl c.recover-fresh.ensures;
        work-long = refl;
        decides =
            ap (λ (x : WordNumber). history_wrong c.args.faulty (word x.letters x.number)) (sym same)
            ∙ word-start c.args.faulty _ _ _ (format-fresh _ _ c.format.ensures) c.fresh-book.ensures;
      },
    )

pub slice_bounds-play-end : goal.slice_bounds-play-end
slice_bounds-play-end c = sym (area-long c.loop-l.area c.loop-l.rec c.loop-l.invariant.1.ready.bytes c.loop-l.invariant.1.ready.recovers)

pub play-requires : goal.play-requires
play-requires c = (c.loop-l.invariant.1.ready, c.loop-l.invariant.1.work-long)

pub returns-in_default : goal.returns-in_default
returns-in_default c =
    run-wrong c.args.faulty _ _ _ c.loop-l.place c.loop-l.area c.loop-l.index c.loop-l.work c.loop-l.rec c.loop-l.book c.loop-l.invariant.1
    c.in-Some.l c.in-Some.ensures.steps c.play.new.area c.play.new.index [] c.loop-l.rec c.loop-l.book true c.in_default.ensures refl

pub loop-l-preserved : goal.loop-l-preserved
loop-l-preserved c = (
  omega (arith, c.loop-l.invariant.0, one_less _ _ _ _ _ c.in-Some.ensures.steps),
  run-turn c.args.faulty _ _ _ c.loop-l.place c.loop-l.area c.loop-l.index c.loop-l.work c.loop-l.rec c.loop-l.book c.loop-l.invariant.1
      c.in-Some.l c.in-Some.ensures.steps c.play.new.area c.play.new.index c.play.new.work c.in-Some-play.played.rec c.in-Some-play.played.book false c.in-Some-play.ensures refl
      (omega (arith, c.play.auto.work, c.loop-l.invariant.1.work-long)) _ _ refl refl,
)

pub slice_bounds-recovers_wrongly-end : goal.slice_bounds-recovers_wrongly-end
slice_bounds-recovers_wrongly-end c = sym (area-long c.loop-l.area c.loop-l.rec c.loop-l.invariant.1.ready.bytes c.loop-l.invariant.1.ready.recovers)

pub returns : goal.returns
returns c = run_end c.args.faulty _ _ c.loop-l.place c.loop-l.area c.loop-l.index c.loop-l.work c.loop-l.rec c.loop-l.book c.loop-l.invariant.1 c.in-None.ensures.steps.0 c.recovers_wrongly.result c.recovers_wrongly.ensures
