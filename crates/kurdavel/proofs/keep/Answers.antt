-- `kurdavel::keep` meets its contract.
use Rattle.kurdavel.specs.CrossingLaws.{kept_on, kept_off, never_both}
use Rattle.kurdavel.proofs.keep.Goals as goal

pub encode-requires : goal.encode-requires
encode-requires c = c.requires c.if-ok.true

pub returns-then-ok : goal.returns-then-ok
returns-then-ok c =
    record {
      kept = kept_on _ _ c.args.rec c.if-ok.true c.encode.ensures.put;
      long = λ ok. c.encode.ensures.long;
    }

pub returns-else-ok : goal.returns-else-ok
returns-else-ok c =
    record {
      kept = kept_off _ _ c.if-ok.false;
      long = λ ok. never_both ok c.if-ok.false;
    }
