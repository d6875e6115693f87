-- `telling::agree::aim_of` meets its contract, for each kind of operation.
use Rattle.telling.proofs.AgreeLaws.{agree-idle, agree-append, agree-head, agree-clean, agree-forget}
use Rattle.telling.proofs.NextLaws.{target-idle, target-append, target-new-head, target-clean, target-forget}
use Rattle.telling.proofs.agree.aim_of.Goals as goal

pub returns-in-Idle : goal.returns-in-Idle
returns-in-Idle c =
    let r = c.args.rec in
    λ i. record { agreed = agree-idle r.edition r c.in-Idle.is i; to = target-idle r.head r.end c.in-Idle.is i }

pub returns-in-Append : goal.returns-in-Append
returns-in-Append c =
    let r = c.args.rec in
    λ i. record { agreed = agree-append r.edition r c.in-Append.is c.entry_agrees.ensures i; to = target-append r.head r.end c.in-Append.is i }

pub returns-in-NewHead : goal.returns-in-NewHead
returns-in-NewHead c =
    let r = c.args.rec in
    λ i. record { agreed = agree-head r.edition r c.in-NewHead.is c.head_agrees.ensures i; to = target-new-head r.head r.end c.in-NewHead.is c.head_target.ensures i }

pub returns-in-Clean : goal.returns-in-Clean
returns-in-Clean c =
    let r = c.args.rec in
    λ i. record { agreed = agree-clean r.edition r c.in-Clean.is c.clean_agrees.ensures i; to = target-clean r.head r.end c.in-Clean.is c.head_target-in-Clean.ensures i }

pub returns-in-Forget : goal.returns-in-Forget
returns-in-Forget c =
    let r = c.args.rec in
    λ i. record { agreed = agree-forget r.edition r c.in-Forget.is c.delete_agrees.ensures i; to = target-forget r.head r.end c.in-Forget.is c.head_target-in-Forget.ensures i }
