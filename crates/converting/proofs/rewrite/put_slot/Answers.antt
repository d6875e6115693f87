-- `converting::rewrite::put_slot` meets its contract.
use Prim.Native.Nat.{◌+◌}
use mathlib.Core.Path.{◌≡◌, ◌∙◌, ap}
use native.Mathlib.Omega.{arith}
use lib.Seq.{sets}
use Rattle.segment.specs.Digest.{digest_of, encoded_digest}
use Rattle.segment.specs.Layout.{digest_size}
use Rattle.segment.specs.Copied.{Copied}
use Rattle.segment.specs.declared.Digest.{Digest}
use Rattle.model.specs.Operations.{all_encoded}
use Rattle.converting.specs.Parts.{entries_of}
use Rattle.converting.specs.PartLaws.{digest-room}
use Rattle.converting.specs.SizeLaws.{length-part_bytes}
use Rattle.converting.specs.RewriteLaws.{entries-room, zeros-room, slot-put}
use Rattle.converting.proofs.rewrite.put_slot.Goals as goal
use Rattle.converting.proofs.rewrite.put_slot.Goals.{After-put_entries-end, After-write_digest}

pub digest-requires : goal.digest-requires
digest-requires c = digest-room _ c.requires.part_value.1

pub write_digest-requires : goal.write_digest-requires
write_digest-requires c = let a = c.args in omega (arith, length-part_bytes a.from a.to a.part.now)

pub overflow_add-start : goal.overflow_add-start
overflow_add-start c = let a = c.args in omega (arith, length-part_bytes a.from a.to a.part.now, c.digest_size.ensures)

-- what the digest and the entries leave
wrote : (c : After-write_digest)
    → let a = c.args in
    c.write_digest.new.s ≡ sets a.target.now a.start (encoded_digest a.to (digest_of a.from a.part.now))
wrote c =
    let a = c.args in
    c.write_digest.ensures ∙ ap (λ (d : Digest). sets a.target.now a.start (encoded_digest a.to d)) c.digest.ensures

put : (c : After-put_entries-end)
    → let a = c.args in
    Copied (all_encoded a.to (entries_of a.from a.part.now)) c.write_digest.new.s (a.start + digest_size a.to)
    c.put_entries-end.new.target c.put_entries-end.result
put c = rw c.digest_size.ensures at c.put_entries-end.ensures

pub put_entries-end-requires : goal.put_entries-end-requires
put_entries-end-requires c =
    let a = c.args in
    record {
      part_value = c.requires.part_value.0;
      part_in_bounds = rw c.digest_size.ensures (entries-room a.from a.to a.part.now a.s a.target.now a.start _ (wrote (goal.at.put_entries-end-requires c).After-write_digest) c.requires.part_len_bound c.requires.s_in_bounds);
    }

pub clear-requires : goal.clear-requires
clear-requires c =
    let a = c.args in
    let r = zeros-room a.from a.to a.part.now a.s a.target.now a.start _ (wrote (goal.at.clear-requires c).After-write_digest) c.requires.part_len_bound c.requires.s_in_bounds _ _ (put (goal.at.clear-requires c).After-put_entries-end) in
    (omega arith, omega arith)

pub returns : goal.returns
returns c =
    let a = c.args in
    slot-put a.from a.to a.part.now a.s a.target.now a.start _ (wrote (goal.at.returns c).After-write_digest) c.requires.part_len_bound c.requires.s_in_bounds _ _ (put (goal.at.returns c).After-put_entries-end) _
    c.clear.ensures
