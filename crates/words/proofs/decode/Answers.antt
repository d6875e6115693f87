-- `words::decode` meets its contract.
use mathlib.Core.Path.{sym, ◌∙◌}
use Rattle.words.proofs.WordLaws.{record-long, decoded-record, decoded-none}
use Rattle.words.proofs.decode.Goals as goal

pub record_in-rec-requires : goal.record_in-rec-requires
record_in-rec-requires c = record-long _ (sym c.is_record.ensures ∙ c.if-is_record.true)

pub returns-then-is_record : goal.returns-then-is_record
returns-then-is_record c = cc (decoded-record _ (sym c.is_record.ensures ∙ c.if-is_record.true))

pub returns : goal.returns
returns c = cc (decoded-none _ (sym c.is_record.ensures ∙ c.if-is_record.false))
