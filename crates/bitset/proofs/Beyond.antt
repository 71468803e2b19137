-- Whether a set has an entry from a number on: word by word, and for a union in one of the two.
use Prim.Native.Nat.{ℕ, zero, suc, ◌+◌, ◌*◌, ◌<◌}
use mathlib.Core.Bool.{Bool, true, false, ◌&&◌, ◌||◌, or_comm, or_assoc, or-true, and-false, and-or_distrib_left}
use mathlib.Core.List.{List}
use mathlib.Core.Path.{◌≡◌, refl, sym, ap, ap₂, ◌∙◌}
use native.Mathlib.Nat.{zero-add}
use native.Mathlib.Numerals.{add-one}
use lib.Dec.{leb}
use Rattle.lists.specs.Below.{any_below}
use Rattle.lists.proofs.Below.{any_none, any_some, any_same, any_split}
use Rattle.bitset.specs.Word.{bit, any_from}
use Rattle.bitset.specs.Entries.{word_at, has_bit, empty, union_of, beyond, row_of, any_beyond}
use Rattle.bitset.specs.declared.entries.BitSet.{BitSet}
use Rattle.bitset.proofs.Sets.{has_at, has_empty, has_union}

-- the parts of a disjunction in the opposite order
turn : (d c b a : Bool) → (d || (c || (b || a))) ≡ (a || (b || (c || d)))
turn d c b a =
    or_comm d (c || (b || a))
    ∙ ap (λ (t : Bool). t || d) (or_comm c (b || a) ∙ ap (λ (t : Bool). t || c) (or_comm b a))
    ∙ or_assoc (a || b) c d
    ∙ or_assoc a b (c || d)

pub beyond_words : (entries : ℕ) (s : BitSet)
    → beyond entries s ≡ (any_from (word_at s 0) 0 entries || (any_from (word_at s 1) 64 entries || (any_from (word_at s 2) 128 entries || any_from (word_at s 3) 192 entries)))
unfolding beyond any_from
beyond_words entries s =
    any_split p 192 64
    ∙ ap₂ ◌||◌ (any_same (λ k. p (192 + k)) (from 3) 64 (same 3))
    (any_split p 128 64
    ∙ ap₂ ◌||◌ (any_same (λ k. p (128 + k)) (from 2) 64 (same 2))
    (any_split p 64 64
    ∙ ap₂ ◌||◌ (any_same (λ k. p (64 + k)) (from 1) 64 (same 1))
    (any_same p (from 0) 64 (λ k h. ap p (sym (zero-add k)) ∙ same 0 k h))))
    ∙ turn (any_below (from 3) 64) (any_below (from 2) 64) (any_below (from 1) 64) (any_below (from 0) 64)
  where
    p : ℕ → Bool
    p e = leb entries e && has_bit s e

    from : ℕ → ℕ → Bool
    from w k = leb entries (64 * w + k) && bit (word_at s w) k

    same : (w k : ℕ) → k < 64 → p (64 * w + k) ≡ from w k
    same w k h = ap (λ (t : Bool). leb entries (64 * w + k) && t) (has_at s w k h)

pub any_or : (p q : ℕ → Bool) (n : ℕ) → any_below (λ k. p k || q k) n ≡ (any_below p n || any_below q n)
unfolding any_below
any_or p q zero = refl
any_or p q (suc n) = ap (λ (t : Bool). p n || q n || t) (any_or p q n) ∙ swap (p n) (q n) (any_below p n) (any_below q n)
  where
    swap : (a b c d : Bool) → (a || b || (c || d)) ≡ (a || c || (b || d))
    swap true b c d = refl
    swap false b true d = or-true b
    swap false b false d = refl

pub beyond_union : (entries : ℕ) (a b : BitSet) → beyond entries (union_of a b) ≡ (beyond entries a || beyond entries b)
unfolding beyond
beyond_union entries a b =
    any_same (from (union_of a b)) (λ e. from a e || from b e) 256
    (λ e h. ap (λ (t : Bool). leb entries e && t) (has_union a b e h) ∙ and-or_distrib_left (leb entries e) (has_bit a e) (has_bit b e))
    ∙ any_or (from a) (from b) 256
  where
    from : BitSet → ℕ → Bool
    from s e = leb entries e && has_bit s e

pub beyond_empty : (entries : ℕ) → beyond entries empty ≡ false
unfolding beyond
beyond_empty entries =
    any_none (λ e. leb entries e && has_bit empty e) 256
    (λ e h. ap (λ (t : Bool). leb entries e && t) (has_empty e) ∙ and-false (leb entries e))

-- ---- the rows of a table, one after the other

pub rows_none : (entries : ℕ) (table : List ℕ) → any_beyond entries table 0 ≡ false
unfolding any_beyond any_below
rows_none entries table = refl

pub rows_more : (entries : ℕ) (table : List ℕ) (k : ℕ) → any_beyond entries table k ≡ false → beyond entries (row_of table k) ≡ false → any_beyond entries table (k + 1) ≡ false
unfolding any_beyond any_below
rows_more entries table k before here = ap (any_beyond entries table) (add-one k) ∙ ap₂ ◌||◌ here before

pub rows_some : (entries : ℕ) (table : List ℕ) (n k : ℕ) → k < n → beyond entries (row_of table k) ≡ true → any_beyond entries table n ≡ true
unfolding any_beyond
rows_some entries table n k h here = any_some (λ k. beyond entries (row_of table k)) n k h here
