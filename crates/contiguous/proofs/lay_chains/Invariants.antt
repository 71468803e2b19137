-- `contiguous::lay_chains` meets its contract. The loop's invariant: the chains of the modules below m are laid below `at`.
use Prim.Native.Nat.{◌-◌}
use lib.ListN.{length}
use Rattle.contiguous.proofs.LaidTables.{LayingAll}
use Rattle.contiguous.proofs.lay_chains.Given as goal

abbrev pub invariant-loop-m : goal.invariant-loop-m
invariant-loop-m l =
    LayingAll l.records.first.now l.records.dependency.now l.records.next.now (length l.records.first.now) (length l.records.next.now - 1) l.room l.initial.to_first l.initial.to_dependency l.initial.to_next l.m l.at l.to_first l.to_dependency l.to_next
