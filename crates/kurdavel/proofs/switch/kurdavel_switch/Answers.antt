-- `kurdavel::switch::kurdavel_switch` meets its contract.
use borrow.Author.Rules.{rules}
use mathlib.Core.Path.{ap}
use mathlib.Core.Bool.{not}
use Prim.Native.Nat.{◌<◌}
use Rattle.words.specs.Words.{word}
use Rattle.kurdavel.specs.SwitchOn.{switch-bad, switch-busy, switch-turned, switch-stays}
use Rattle.kurdavel.proofs.switch.kurdavel_switch.Goals as goal

pub returns-then-not-in_range : goal.returns-then-not-in_range
returns-then-not-in_range c =
    let half : word c.args.words.now 7 < 4294967296 = search rules in
    switch-bad _ half c.in_range.ensures.said (ap not c.if-not-in_range.true)

pub returns-then-words-ne0 : goal.returns-then-words-ne0
returns-then-words-ne0 c =
    let half : word c.args.words.now 7 < 4294967296 = search rules in
    switch-busy _ half c.in_range.ensures.said (ap not c.if-not-in_range.false) c.if-words-ne0.true

pub returns-then-words-eq1 : goal.returns-then-words-eq1
returns-then-words-eq1 c =
    let half : word c.args.words.now 7 < 4294967296 = search rules in
    switch-turned _ half c.in_range.ensures.said (ap not c.if-not-in_range.false) c.if-words-ne0.false c.if-words-eq1.true

pub returns-else-words-eq1 : goal.returns-else-words-eq1
returns-else-words-eq1 c =
    let half : word c.args.words.now 7 < 4294967296 = search rules in
    switch-stays _ half c.in_range.ensures.said (ap not c.if-not-in_range.false) c.if-words-ne0.false c.if-words-eq1.false
