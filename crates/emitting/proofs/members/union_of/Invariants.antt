-- `emitting::members::union_of` meets its contract. The loop's invariant: the union of the modules so far, which are the last.
use Rattle.std.proofs.Common.{◌≡◌, ◌-◌, length, drop}
use Rattle.emitting.specs.Emitted.{union_of_modules}
use Rattle.emitting.proofs.members.union_of.Given as goal

abbrev pub invariant-loop-m : goal.invariant-loop-m
invariant-loop-m l = l.union ≡ union_of_modules l.bits (drop (length l.members - length l.yielded) l.members)
