-- The chains of the chunks: each module of a list is pushed to the front of its chunk's chain, from the last to the first.
use Rattle.std.specs.Prelude.{ℕ, ◌+◌, ◌-◌, ◌^◌, ◌<◌, cond, eqb, length, get_or, set}
use mathlib.Core.List.{List, foldr}
use Rattle.emitting.specs.Emitted.{HasEntry}

-- per module the next module in its chunk plus 1, and per chunk its first module plus 1
pub record Links : Type 0 where
  pub next_of : List ℕ
  pub first_of : List ℕ

-- module m at the front of the chain of record `slot`
abbrev pub pushed_at : ℕ → ℕ → Links → Links
pushed_at slot m l = record { next_of = set l.next_of m (get_or l.first_of slot 0); first_of = set l.first_of slot (m + 1) }

-- the record of chunk number c plus 1, where the chunk with the number `base` has record `at`
abbrev pub slot_of : ℕ → ℕ → ℕ → ℕ
slot_of base at c = at + (c - base - 1)

-- module m at the front of its chunk's chain; a module of no chunk changes nothing
unfoldable pub pushed : List ℕ → ℕ → ℕ → ℕ → Links → Links
pushed chunk_of base at m l = cond (eqb (get_or chunk_of m 0) 0) l (pushed_at (slot_of base at (get_or chunk_of m 0)) m l)

-- all modules of `order`, from the last to the first
unfoldable pub linked : List ℕ → ℕ → ℕ → List ℕ → Links → Links
unfolding pushed
linked chunk_of base at order l = foldr (pushed chunk_of base at) l order

-- module m and the chunk record `slot` have entries, and m plus 1 is a number of 32 bits
pub record Pushable (m slot : ℕ) (l : Links) : Type 0 where
  pub fits : m + 1 < 2 ^ 32
  pub module_in : m < length l.next_of
  pub record_in : slot < length l.first_of

-- each of the modules has its entries, and its chunk a record
pub record Linkable (order chunk_of : List ℕ) (base at : ℕ) (l : Links) : Type 0 where
  pub fits : (i : ℕ) → i < length order → get_or order i 0 + 1 < 2 ^ 32
  pub numbered : HasEntry chunk_of order
  pub chained : HasEntry l.next_of order
  pub number : (i : ℕ) → i < length order → 0 < get_or chunk_of (get_or order i 0) 0 → base < get_or chunk_of (get_or order i 0) 0
  pub record_in : (i : ℕ) → i < length order → 0 < get_or chunk_of (get_or order i 0) 0
      → slot_of base at (get_or chunk_of (get_or order i 0) 0) < length l.first_of
