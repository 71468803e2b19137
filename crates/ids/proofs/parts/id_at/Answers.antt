-- `ids::parts::id_at` meets its contract: the part that it lends is the definition's slice from an offset to the next.
use Prim.Native.Nat.{◌+◌}
use lib.ListN.{get_or}
use Rattle.ids.specs.Parts.{id_at}
use Rattle.ids.proofs.IdParts.{part_slice}
use Rattle.ids.proofs.parts.id_at.Goals as goal

pub returns : goal.returns
unfolding id_at
returns c =
    let a = c.args in
    part_slice (get_or a.offsets.now a.m.0 0) (get_or a.offsets.now (a.m.0 + 1) 0) a.bytes.now
