-- `starting::digest::new_digest` meets its contract.
use Rattle.starting.specs.NewHead.{digest-laid}
use Rattle.starting.proofs.digest.new_digest.Goals as goal

pub returns : goal.returns
returns c =
    digest-laid _ _ _ _ c.requires _ _ c.without_slots.ensures c.with_slot.ensures
