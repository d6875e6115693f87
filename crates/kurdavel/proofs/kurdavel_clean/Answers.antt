-- `kurdavel::kurdavel_clean` meets its contract.
use Rattle.kurdavel.specs.CrossingLaws.{ok-long, start-crossed}
use Rattle.kurdavel.proofs.kurdavel_clean.Goals as goal

pub hand_back-requires : goal.hand_back-requires
hand_back-requires c = ok-long _ c.decode-decoded.ensures

pub returns : goal.returns
returns c = start-crossed c.decode-decoded.ensures c.clean-start.ensures c.hand_back.ensures
