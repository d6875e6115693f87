-- `histories::put_legal` meets its contract.
use mathlib.Core.Path.{sym, ◌∙◌}
use native.Mathlib.Omega.{arith}
use Rattle.text.specs.Put.{put-none, put_same}
use Rattle.histories.specs.Numbered.{word, word-lined, word-unlined}
use Rattle.histories.proofs.put_legal.Goals as goal

pub returns-then-not-is_legal : goal.returns-then-not-is_legal
returns-then-not-is_legal c =
    let a = c.args in (
      put_same (word-unlined (word a.w.letters a.w.number) (sym c.is_legal.ensures ∙ c.if-not-is_legal.true))
          (put-none a.out.now a.at),
      omega arith,
    )

pub returns : goal.returns
returns c =
    let a = c.args in (
      put_same (word-lined (word a.w.letters a.w.number) (sym c.is_legal.ensures ∙ c.if-not-is_legal.false))
          c.put.ensures.0,
      c.put.ensures.1,
    )
