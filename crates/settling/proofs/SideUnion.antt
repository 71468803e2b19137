-- The entry bits of the places of a side, in execution order, are those of the side in id order: bits unite in any order.
use Prim.Native.Nat.{ℕ, zero, suc, ◌+◌, ◌^◌, ◌≤◌, ◌<◌}
use mathlib.Core.Bool.{Bool, ◌||◌, or_comm, or_assoc}
use mathlib.Core.List.{List, foldr}
use mathlib.Core.List.{Permᴰ}
use mathlib.Core.Path.{◌≡◌, refl, sym, ap, ap₂, ◌∙◌}
use native.Mathlib.Nat.{pow-le-pow_right, two-pow-succ, lt_of_lt_of_le}
use native.Mathlib.Omega.{arith}
use lib.Bits.{bit_or, or_lt}
use Rattle.bitset.specs.Word.{bit}
use Rattle.bitset.specs.Entries.{word_at, empty, union_of}
use Rattle.bitset.specs.declared.entries.BitSet.{BitSet}
use Rattle.bitset.proofs.Bits.{bit_or_lem, bits_equal}
use Rattle.grouping.specs.Tree.{Tree, member_at}
use Rattle.grouping.specs.Fate.{in_id_order, among}
use Rattle.grouping.specs.ChunkList.{union_at}
use Rattle.grouping_laws.proofs.Pieces.{Ascending}
use Rattle.settling.proofs.Parts.{PartOf}
use Rattle.settling.proofs.SideOrder.{side_perm}

below_power : (n : ℕ) → n < 2 ^ n
below_power zero = omega arith
below_power (suc n) = rw (two-pow-succ n) (omega (arith, below_power n))

below_larger : (a n : ℕ) → a ≤ n → a < 2 ^ n
below_larger a n h = lt_of_lt_of_le (below_power a) (pow-le-pow_right (omega arith) h)

either_first : (a b c : Bool) → (a || (b || c)) ≡ (b || (a || c))
either_first a b c = sym (or_assoc a b c) ∙ ap (λ (t : Bool). t || c) (or_comm a b) ∙ or_assoc b a c

or_left_comm : (a b c : ℕ) → bit_or a (bit_or b c) ≡ bit_or b (bit_or a c)
or_left_comm a b c =
    bits_equal n (bit_or a (bit_or b c)) (bit_or b (bit_or a c))
    (or_lt n a (bit_or b c) in_a (or_lt n b c in_b in_c))
    (or_lt n b (bit_or a c) in_b (or_lt n a c in_a in_c))
    (λ k h.
    bit_or_lem a (bit_or b c) k
    ∙ ap (λ (t : Bool). bit a k || t) (bit_or_lem b c k)
    ∙ either_first (bit a k) (bit b k) (bit c k)
    ∙ sym (bit_or_lem b (bit_or a c) k ∙ ap (λ (t : Bool). bit b k || t) (bit_or_lem a c k)))
  where
    n : ℕ
    n = a + (b + c)

    in_a : a < 2 ^ n
    in_a = below_larger a n (omega arith)

    in_b : b < 2 ^ n
    in_b = below_larger b n (omega arith)

    in_c : c < 2 ^ n
    in_c = below_larger c n (omega arith)

union_left_comm : (a b c : BitSet) → union_of a (union_of b c) ≡ union_of b (union_of a c)
unfolding union_of
union_left_comm a b c =
    rw (
      or_left_comm (word_at a 0) (word_at b 0) (word_at c 0),
      or_left_comm (word_at a 1) (word_at b 1) (word_at c 1),
      or_left_comm (word_at a 2) (word_at b 2) (word_at c 2),
      or_left_comm (word_at a 3) (word_at b 3) (word_at c 3),
    )

fold_any_order : {A B : Type 0} (f : A → B → B) (b : B) → ((x y : A) (c : B) → f x (f y c) ≡ f y (f x c))
    → {l m : List A} → Permᴰ l m → foldr f b l ≡ foldr f b m
fold_any_order f b swap Permᴰ.nil = refl
fold_any_order f b swap (Permᴰ.cons e d) = ap₂ f e (fold_any_order f b swap d)
fold_any_order f b swap (Permᴰ.swap {a = x} {b = y} {l = l} p q) =
    swap x y (foldr f b l) ∙ ap₂ (λ u v. f u (f v (foldr f b l))) q p
fold_any_order f b swap (Permᴰ.trans d e) = fold_any_order f b swap d ∙ fold_any_order f b swap e

union_any_order : (tree : Tree) {l m : List ℕ} → Permᴰ l m → union_at tree l ≡ union_at tree m
unfolding union_at
union_any_order tree d =
    fold_any_order (λ p bits. union_of (member_at tree p).bits bits) empty (λ p q bits. union_left_comm (member_at tree p).bits (member_at tree q).bits bits) d

pub side_union : (tree : Tree) (places : List ℕ) → Ascending places
    → (side : List ℕ) → PartOf side (in_id_order tree places) → union_at tree (among side places) ≡ union_at tree side
side_union tree places ascend side part = union_any_order tree (side_perm tree places ascend side part)
