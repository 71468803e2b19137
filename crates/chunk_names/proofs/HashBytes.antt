-- Refusal 16: what a hash that passes is.
use Prim.Native.Nat.{ℕ, zero, suc, ◌<◌}
use mathlib.Core.Bool.{false}
use mathlib.Core.List.{List, [], ◌∷◌}
use mathlib.Core.Path.{◌≡◌}
use native.Mathlib.Nat.{le_of_suc-le-suc}
use native.Mathlib.Omega.{arith}
use borrow.Author.Tests.{leb-false}
use lib.Dec.{leb}
use lib.ListN.{length, get_or}
use Rattle.lists.proofs.Below.{neither}
use Rattle.refusal.proofs.Lengths.{first_length}
use Rattle.chunk_names.specs.Conditions.{any_high, bad_hash}

-- every byte of one that passes is below 128
pub all_low : (l : List ℕ) → any_high l ≡ false → (i : ℕ) → i < length l → get_or l i 0 < 128
unfolding any_high
all_low [] e i h = omega arith
all_low (b ∷ l) e zero h = leb-false 128 b (neither (leb 128 b) (any_high l) e).0
all_low (b ∷ l) e (suc i) h = all_low l (neither (leb 128 b) (any_high l) e).1 i (le_of_suc-le-suc h)

-- what a hash that passes is
pub good_hash : (hash : List ℕ) → bad_hash hash ≡ false → (length hash ≡ 8) × (any_high hash ≡ false)
good_hash hash e = first_length (length hash) 8 (any_high hash) e
