-- `stepping::finish::one_less` meets its contract.
use Rattle.stepping.proofs.FinishLaws.{left_is, less-idle, less-append, less-head, less-clean, less-forget}
use Rattle.stepping.proofs.finish.one_less.Goals as goal

pub overflow_sub-result : goal.overflow_sub-result
overflow_sub-result c = left_is c.in-Append.is c.requires

pub overflow_sub-result-in-NewHead : goal.overflow_sub-result-in-NewHead
overflow_sub-result-in-NewHead c = left_is c.in-NewHead.is c.requires

pub overflow_sub-result-in-Clean : goal.overflow_sub-result-in-Clean
overflow_sub-result-in-Clean c = left_is c.in-Clean.is c.requires

pub overflow_sub-result-in-Forget : goal.overflow_sub-result-in-Forget
overflow_sub-result-in-Forget c = left_is c.in-Forget.is c.requires

pub returns-in-Idle : goal.returns-in-Idle
returns-in-Idle c = less-idle c.in-Idle.is

pub returns-in-Append : goal.returns-in-Append
returns-in-Append c = less-append c.in-Append.is

pub returns-in-NewHead : goal.returns-in-NewHead
returns-in-NewHead c = less-head c.in-NewHead.is

pub returns-in-Clean : goal.returns-in-Clean
returns-in-Clean c = less-clean c.in-Clean.is

pub returns-in-Forget : goal.returns-in-Forget
returns-in-Forget c = less-forget c.in-Forget.is
