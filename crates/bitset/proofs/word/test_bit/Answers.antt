-- The word shifted down and masked by one is its remainder by two, which is bit k.
use mathlib.Core.Path.{ap}
use Prim.Native.Nat.{ℕ, ◌/◌, ◌^◌}
use lib.Bits.{and_mask}
use lib.Dec.{eqb}
use Rattle.bitset.specs.Word.{bit}
use Rattle.bitset.proofs.word.test_bit.Goals as goal

pub returns : goal.returns
unfolding bit
returns c = ap (λ (x : ℕ). eqb x 1) (and_mask (c.args.word / 2 ^ c.args.k) 1)
