-- `emitting::emit::emit_parts` meets its contract. The loop's invariant: the areas so far, continued with the parts to come.
use Prim.Native.Nat.{ℕ}
use mathlib.Core.List.{List}
use native.Mathlib.Omega.{arith}
use lib.Ieee.{Float}
use Rattle.emitting.specs.Emitted.{Work, work}
use Rattle.emitting.proofs.SameAreas.{same_areas, still_same}
use Rattle.emitting.proofs.Turn.{none_emitted, part_room, one_emitted, all_emitted}
use Rattle.emitting.proofs.emit.emit_parts.Goals as goal

pub loop-j-init : goal.loop-j-init
loop-j-init c =
    let a = c.args in (
      none_emitted a.head a.members.now a.starts.now a.sizes.now a.marks.now a.bits.now a.number.0 a.at
          (work a.areas.now) c.requires.parts,
      same_areas _,
    )

pub emit_chunk-requires : goal.emit_chunk-requires
emit_chunk-requires c =
    let l = c.loop-j in
    let a = c.args in record {
      room = part_room a.head a.members.now a.starts.now a.sizes.now a.marks.now a.bits.now a.number.0 a.at
          (work a.areas.now) c.requires.parts
          (work l.areas) l.end l.j l.invariant.0 c.loop-j-test.true;
      number_bound = omega (arith, c.requires.starts_bound, c.loop-j-test.true);
    }

pub loop-j-preserved : goal.loop-j-preserved
loop-j-preserved c =
    let l = c.loop-j in
    let a = c.args in (
      one_emitted a.head a.members.now a.starts.now a.sizes.now a.marks.now a.bits.now a.number.0 a.at
          (work a.areas.now) c.requires.parts
          (work l.areas) l.end l.j l.invariant.0 _ _
          c.loop-j-test.true c.emit_chunk.ensures.emitted,
      still_same l.invariant.1 c.emit_chunk.ensures.same,
    )

pub returns-clause-emitted : goal.returns-clause-emitted
returns-clause-emitted c =
    let a = c.args in
    let l = c.loop-j in
    all_emitted a.head a.members.now a.starts.now a.sizes.now a.marks.now a.bits.now a.number.0 a.at
    (work a.areas.now) c.requires.parts
    (work l.areas) l.end l.j l.invariant.0 (omega arith)

pub returns-clause-same : goal.returns-clause-same
returns-clause-same c = c.loop-j.invariant.1
