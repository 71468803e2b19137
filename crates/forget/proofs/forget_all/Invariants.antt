-- `forget::forget_all` meets its contract: with one chain more undone a turn, none of its records is marked any more.
use Prim.Native.Nat.{◌-◌}
use lib.ListN.{length}
use Rattle.forget.proofs.Undoing.{AllForgetting}
use Rattle.forget.proofs.forget_all.Given as goal

abbrev pub invariant-loop-m : goal.invariant-loop-m
invariant-loop-m l = AllForgetting l.first l.next l.list (length l.next - 1) l.m-index l.followed
