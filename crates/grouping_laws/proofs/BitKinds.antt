-- The kinds of bits among places: bits are the same as themselves, and each kind is one of the bits handed in.
use Prim.Native.Nat.{ℕ, zero, suc}
use mathlib.Core.Bool.{true, not}
use mathlib.Core.List.Memᴰ
use mathlib.Core.List.{List, [], ◌∷◌, Memᴰ}
use mathlib.Core.Logic.{⊎_elim}
use mathlib.Core.Path.{◌≡◌, refl}
use borrow.Author.Tests.{eq-eqb}
use lib.Dec.{eqb}
use Rattle.lists.specs.Keep.{keep}
use Rattle.lists.proofs.Members.{keep_mem}
use Rattle.bitset.specs.Entries.{word_at}
use Rattle.bitset.specs.declared.entries.BitSet.{BitSet}
use Rattle.grouping.specs.Subgroups.{same_bits, kinds_of}

pub same_refl : (b : BitSet) → same_bits b b ≡ true
unfolding same_bits
same_refl b = rw (same 0, same 1, same 2, same 3)
  where
    same : (w : ℕ) → eqb (word_at b w) (word_at b w) ≡ true
    same w = eq-eqb (word_at b w) (word_at b w) refl

pub kind_in : (most : ℕ) (l : List BitSet) (x : BitSet) → Memᴰ x (kinds_of most l) → Memᴰ x l
unfolding kinds_of
kind_in zero l x m = absurd (Memᴰ.not-nil m)
kind_in (suc most) [] x m = absurd (Memᴰ.not-nil m)
kind_in (suc most) (b ∷ l) x m =
    ⊎_elim (λ e. Memᴰ.head e)
    (λ t. Memᴰ.tail (keep_mem (λ c. not (same_bits b c)) l x (kind_in most (keep (λ c. not (same_bits b c)) l) x t)).0)
    (Memᴰ.cases_cons m)
