-- `index::build::index_listed` meets its contract.
use Prim.Native.Nat.{◌+◌, ◌*◌, ◌≤◌}
use mathlib.Core.Path.{sym, ◌∙◌, ap}
use lib.ListN.{length}
use Rattle.segment.specs.Digest.{layout_in}
use Rattle.index.proofs.Turns.{listed-out, listed-slot, in-log-room, slot_small}
use Rattle.index.proofs.build.index_listed.Goals as goal
use Rattle.index.proofs.build.index_listed.Goals.{Else-not-in_log}

pub returns-then-not-in_log : goal.returns-then-not-in_log
returns-then-not-in_log c = listed-out _ _ _ _ _ _ _ c.in_log.ensures c.if-not-in_log.true

-- the slot's segment lies within the area
room : (c : Else-not-in_log) → let a = c.args in a.slot * a.size + a.size ≤ length a.area.now
room c = in-log-room _ _ _ _ (sym c.in_log.ensures ∙ c.if-not-in_log.false)

pub cut-requires : goal.cut-requires
cut-requires c = room c

pub index_slot-requires : goal.index_slot-requires
index_slot-requires c =
    (room (goal.at.index_slot-requires c).Else-not-in_log, slot_small _ _ c.requires.0 c.requires.1, c.requires.2)

pub returns : goal.returns
returns c =
    listed-slot _ _ _ _ _ _ _ c.in_log.ensures c.if-not-in_log.false
    (c.edition_of-edition.ensures ∙ ap layout_in c.cut.ensures) _ c.index_slot.ensures
