-- One shifted by less than the width doesn't wrap: it is the power of two of the definition.
use Prim.Native.Nat.{ℕ, ◌^◌, ◌/◌, ◌%◌}
use mathlib.Core.Path.{ap, ◌∙◌}
use native.Mathlib.Nat.{one-mul}
use native.Mathlib.Omega.{arith}
use lib.Bits.{bit_or}
use lib.Dec.{lit<}
use lib.ListN.{set}
use lib.Pow.{shl_exact}
use Rattle.bitset.specs.Entries.{word_at, with_bit}
use Rattle.bitset.specs.declared.entries.BitSet.{BitSet}
use Rattle.bitset.proofs.entries.BitSet.set_bit.Goals as goal

pub returns : goal.returns
unfolding with_bit
returns c =
    let s = c.args.self in
    let e = c.args.entry in
    ap {B = BitSet} (λ (x : ℕ). record { words = set s.words (e / 64) (bit_or (word_at s (e / 64)) x) })
    (shl_exact {a = 1} 1 (e % 64) 64 (lit< tt) (omega arith) ∙ one-mul (2 ^ (e % 64)))
