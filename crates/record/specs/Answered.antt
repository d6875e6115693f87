-- What the calls answer: what each tells, or the cause that refuses it; and what it hands back, which is the answer beside the record.
use Rattle.std.specs.Prelude.{ℕ, Result}
use Rattle.record.specs.declared.Refusal.{Refusal}
use Rattle.record.specs.declared.Present.{Present}
use Rattle.record.specs.declared.Progress.{Progress}
use Rattle.record.specs.declared.ToldStore.{ToldStore}
use Rattle.record.specs.declared.Pair.{Pair}
use Rattle.record.specs.declared.Answered.{Answered}

-- accepted, with nothing to tell, or refused: a check, format, recovery, the switch and the conversion of an image
abbrev pub Check : Type 0
Check = Result Unit Refusal

abbrev pub FormatAnswer : Type 0
FormatAnswer = Check

abbrev pub RecoverAnswer : Type 0
RecoverAnswer = Check

abbrev pub Recovery : Type 0
Recovery = Answered Unit

-- version and kind of a key's object
abbrev pub ReadAnswer : Type 0
ReadAnswer = Result Present Refusal

abbrev pub Reading : Type 0
Reading = Answered Present

-- how many stores are to come
abbrev pub StartAnswer : Type 0
StartAnswer = Result ℕ Refusal

abbrev pub Start : Type 0
Start = Answered ℕ

-- how many stores are left, or the version at the last one
abbrev pub StepAnswer : Type 0
StepAnswer = Result Progress Refusal

abbrev pub Stepped : Type 0
Stepped = Answered Progress

-- the slot with the fewest present bytes
abbrev pub FewestAnswer : Type 0
FewestAnswer = Result ℕ Refusal

abbrev pub Fewest : Type 0
Fewest = Answered ℕ

-- place and byte of the next store
abbrev pub TellAnswer : Type 0
TellAnswer = Result ToldStore Refusal

abbrev pub Foretold : Type 0
Foretold = Answered ToldStore

-- two slots that one new head can take over
abbrev pub JoinAnswer : Type 0
JoinAnswer = Result Pair Refusal

abbrev pub Joined : Type 0
Joined = Answered Pair

abbrev pub SwitchAnswer : Type 0
SwitchAnswer = Check

abbrev pub Switching : Type 0
Switching = Answered Unit

abbrev pub ConvertAnswer : Type 0
ConvertAnswer = Check
