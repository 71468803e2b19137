-- `contiguous::lay_chains` meets its contract. The loop's invariant: the chains of the modules below m are laid below `at`.
use mathlib.Core.Logic.{inr}
use mathlib.Core.Path.{refl}
use native.Mathlib.Omega.{arith}
use Rattle.contiguous.proofs.LaidTables.{chain_ready, all_turns_lem, all_same}
use Rattle.contiguous.proofs.lay_chains.Goals as goal

pub lay_chain-requires : goal.lay_chain-requires
lay_chain-requires c = chain_ready c.requires c.loop-m.invariant c.loop-m-test.true

pub loop-m-preserved : goal.loop-m-preserved
loop-m-preserved c =
    let laid = c.in-Some.ensures in
    all_turns_lem c.requires c.loop-m.invariant c.loop-m-test.true laid.1 laid.0 _ refl

pub returns : goal.returns
returns c =
    let p = c.requires in
    let i = c.loop-m.invariant in
    record {
      modules = omega (arith, i.modules, i.at_in, p.modules);
      nexts = omega (arith, i.nexts, i.at_in, p.nexts);
      laid = inr (all_same p i (omega (arith, c.loop-m-test.false)));
    }
