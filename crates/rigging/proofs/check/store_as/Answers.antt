-- `rigging::check::store_as` meets its contract.
use mathlib.Core.Path.{ap, ◌∙◌}
use lib.Dec.{lit<}
use Rattle.segment.specs.declared.Key.{Key}
use Rattle.model.specs.Log.{present}
use Rattle.model.specs.Operations.{log_now}
use Rattle.report.proofs.GatherLaws.{cells-few}
use Rattle.report.proofs.LineLaws.{gathered-listed}
use Rattle.rig_model.specs.Verdict.{key_as}
use Rattle.rig_model.proofs.CheckLaws.{recovered-area, other-next, other-count, other-first, second-decides}
use Rattle.rigging.proofs.check.store_as.Goals as goal

pub next_of-requires : goal.next_of-requires
next_of-requires c = (c.requires.recovers, c.requires.bytes)

pub returns-then-next_of-book : goal.returns-then-next_of-book
returns-then-next_of-book c = other-next c.args.faulty (log_now c.args.area.now c.args.rec) c.args.rec c.args.book c.next_of.result c.next_of.ensures c.if-next_of-book.true

pub gather-requires : goal.gather-requires
gather-requires c = let y = recovered-area c.args.area.now c.args.rec c.args.index.now c.requires in cells-few _ _ _ _ y

pub returns-then-gather-count : goal.returns-then-gather-count
returns-then-gather-count c = other-count c.args.faulty (log_now c.args.area.now c.args.rec) c.args.rec c.args.book c.next_of.result c.next_of.ensures c.if-next_of-book.false c.gather.result c.count.result (gathered-listed _ c.args.area.now c.args.rec c.args.index.now _ c.gather.result (recovered-area c.args.area.now c.args.rec c.args.index.now c.requires) c.gather.auto.ranks c.gather.ensures).counts c.count.ensures c.if-gather-count.true

pub key_as-requires : goal.key_as-requires
key_as-requires c = (c.requires, rw c.first_key.ensures (lit< tt))

pub returns-else-key_as : goal.returns-else-key_as
returns-else-key_as c = c.if-key_as.false ∙ other-first c.args.faulty (log_now c.args.area.now c.args.rec) c.args.rec c.args.book c.next_of.result c.next_of.ensures c.if-next_of-book.false c.gather.result c.count.result (gathered-listed _ c.args.area.now c.args.rec c.args.index.now _ c.gather.result (recovered-area c.args.area.now c.args.rec c.args.index.now c.requires) c.gather.auto.ranks c.gather.ensures).counts c.count.ensures c.if-gather-count.false c.key_as.result (c.key_as.ensures ∙ ap (λ (k : Key). key_as (present (log_now c.args.area.now c.args.rec) k) c.args.book.first) c.first_key.ensures) c.if-key_as.false

pub key_as-requires-then-key_as : goal.key_as-requires-then-key_as
key_as-requires-then-key_as c = (c.requires, rw c.second_key.ensures (lit< tt))

pub returns-then-key_as : goal.returns-then-key_as
returns-then-key_as c = second-decides c.args.faulty (log_now c.args.area.now c.args.rec) c.args.rec c.args.book c.next_of.result c.next_of.ensures c.if-next_of-book.false c.gather.result c.count.result (gathered-listed _ c.args.area.now c.args.rec c.args.index.now _ c.gather.result (recovered-area c.args.area.now c.args.rec c.args.index.now c.requires) c.gather.auto.ranks c.gather.ensures).counts c.count.ensures c.if-gather-count.false c.key_as.result (c.key_as.ensures ∙ ap (λ (k : Key). key_as (present (log_now c.args.area.now c.args.rec) k) c.args.book.first) c.first_key.ensures) c.if-key_as.true _ (c.key_as-then-key_as.ensures ∙ ap (λ (k : Key). key_as (present (log_now c.args.area.now c.args.rec) k) c.args.book.second) c.second_key.ensures)
