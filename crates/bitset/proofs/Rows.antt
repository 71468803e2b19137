-- Rows in a table of four words a row: four stores write a row, what each row is once one was written, and all rows together are the table.
use Prim.Native.Nat.{ℕ, zero, suc, ◌+◌, ◌-◌, ◌*◌, ◌≤◌, ◌<◌}
use mathlib.Core.List.{List, [], ◌∷◌, ◌++◌, append_assoc, foldr, Memᴰ}
use mathlib.Core.Path.{◌≡◌, refl, sym, ap, ap₂, ◌∙◌}
use native.Mathlib.Numerals.{add-one, add-two, add-three}
use native.Mathlib.Omega.{arith}
use borrow.Rule.Slice.PartMut.{put_mid, Post-is}
use lib.ListN.{length, get_or, set, take, drop, length-append}
use lib.Seq.{drop_at, length-take-le, get_or-set_other, take-add, take_all, drop-drop}
use Rattle.lists.specs.Area.{placed}
use Rattle.lists.specs.Range.{range}
use Rattle.lists.proofs.Placed.{sets_placed, placed_length}
use Rattle.bitset.specs.Entries.{word_at, row_of}
use Rattle.bitset.specs.declared.entries.BitSet.{BitSet}
use Rattle.bitset.proofs.Words.{four_reads, row_reads}
use Rattle.bitset.specs.Rows.{words_of, with_row}

-- four stores place the words of a set
pub four_stores : (table : List ℕ) (at : ℕ) (s : BitSet) → at + 4 ≤ length table
    → set (set (set (set table at (word_at s 0)) (at + 1) (word_at s 1)) (at + 2) (word_at s 2)) (at + 3) (word_at s 3) ≡ placed at (words_of s) table
four_stores table at s h = rw (add-one at, add-two at, add-three at) (sets_placed (words_of s) table at h)

-- a set of four words is its four words
pub four_words : (s : BitSet) → length s.words ≡ 4 → words_of s ≡ s.words
four_words s = go s.words
  where
    go : (l : List ℕ) → length l ≡ 4 → get_or l 0 0 ∷ get_or l 1 0 ∷ get_or l 2 0 ∷ get_or l 3 0 ∷ [] ≡ l
    go [] e = absurd (omega arith)
    go (a ∷ []) e = absurd (omega arith)
    go (a ∷ b ∷ []) e = absurd (omega arith)
    go (a ∷ b ∷ c ∷ []) e = absurd (omega arith)
    go (a ∷ b ∷ c ∷ d ∷ []) e = refl
    go (a ∷ b ∷ c ∷ d ∷ f ∷ l) e = absurd (omega arith)

-- the words of a set copied over a row
pub row_copied : (table : List ℕ) (at : ℕ) (s : BitSet) → length s.words ≡ 4 → (part : List ℕ) → part ≡ s.words → at + 4 ≤ length table
    → put_mid at (at + 4 - at) table part ≡ placed at (words_of s) table
row_copied table at s four part e h =
    ap₂ (λ (x y : List ℕ). take at table ++ (x ++ y)) (e ∙ sym (four_words s four)) (Post-is at (at + 4) table (omega arith))

module _ (table : List ℕ) (i : ℕ) (s : BitSet) (h : 4 * i + 4 ≤ length table) where
  stores : List ℕ
  stores = set (set (set (set table (4 * i) (word_at s 0)) (4 * i + 1) (word_at s 1)) (4 * i + 2) (word_at s 2)) (4 * i + 3) (word_at s 3)

  by_stores : with_row table i s ≡ stores
  unfolding with_row stores
  by_stores = sym (four_stores table (4 * i) s h)

  pub length_with_row : length (with_row table i s) ≡ length table
  unfolding with_row
  length_with_row = placed_length (4 * i) (words_of s) table h

  -- the row that was written
  pub row_same : row_of (with_row table i s) i ≡ record { words = words_of s }
  unfolding row_of with_row
  row_same = ap {B = BitSet} (λ (l : List ℕ). record { words = take 4 l }) (drop_at (take (4 * i) table) _ (4 * i) (length-take-le (4 * i) table (omega arith)))

  -- a word that was not written
  word_away : (n : ℕ) → (n ≡ 4 * i → ⊥) → (n ≡ 4 * i + 1 → ⊥) → (n ≡ 4 * i + 2 → ⊥) → (n ≡ 4 * i + 3 → ⊥) → get_or (with_row table i s) n 0 ≡ get_or table n 0
  unfolding stores
  word_away n a b c d =
      ap (λ l. get_or l n 0) by_stores
      ∙ get_or-set_other (set (set (set table (4 * i) (word_at s 0)) (4 * i + 1) (word_at s 1)) (4 * i + 2) (word_at s 2)) (4 * i + 3) n (word_at s 3) 0 d
      ∙ get_or-set_other (set (set table (4 * i) (word_at s 0)) (4 * i + 1) (word_at s 1)) (4 * i + 2) n (word_at s 2) 0 c
      ∙ get_or-set_other (set table (4 * i) (word_at s 0)) (4 * i + 1) n (word_at s 1) 0 b
      ∙ get_or-set_other table (4 * i) n (word_at s 0) 0 a

  pub row_other : (j : ℕ) → 4 * j + 4 ≤ length table → (j ≡ i → ⊥) → row_of (with_row table i s) j ≡ row_of table j
  row_other j g n =
      let w0 = word_away (4 * j) (λ e. n (omega arith)) (λ e. n (omega arith)) (λ e. n (omega arith)) (λ e. n (omega arith)) in
      let w1 = word_away (4 * j + 1) (λ e. n (omega arith)) (λ e. n (omega arith)) (λ e. n (omega arith)) (λ e. n (omega arith)) in
      let w2 = word_away (4 * j + 2) (λ e. n (omega arith)) (λ e. n (omega arith)) (λ e. n (omega arith)) (λ e. n (omega arith)) in
      let w3 = word_away (4 * j + 3) (λ e. n (omega arith)) (λ e. n (omega arith)) (λ e. n (omega arith)) (λ e. n (omega arith)) in
      let same : four_reads (with_row table i s) j ≡ four_reads table j = cc (w0, w1, w2, w3) in
      sym (row_reads (with_row table i s) j (rw length_with_row g)) ∙ ap {B = BitSet} (λ (l : List ℕ). record { words = l }) same ∙ row_reads table j g

-- ---- all rows

-- the k rows from row a on are the words that they stand in
rows_from : (table : List ℕ) (a k : ℕ) → foldr (λ i rest. (row_of table i).words ++ rest) [] (range a k) ≡ take (4 * k) (drop (4 * a) table)
unfolding range row_of
rows_from table a zero = refl
rows_from table a (suc k) =
    let next : 4 * a + 4 ≡ 4 * suc a = omega arith in
    let all : 4 * suc k ≡ 4 + 4 * k = omega arith in
    ap (λ t. take 4 (drop (4 * a) table) ++ t) (rows_from table (suc a) k)
    ∙ ap (λ n. take 4 (drop (4 * a) table) ++ take (4 * k) (drop n table)) (sym next)
    ∙ ap (λ t. take 4 (drop (4 * a) table) ++ take (4 * k) t) (sym (drop-drop 4 (4 * a) table))
    ∙ sym (ap (λ n. take n (drop (4 * a) table)) all ∙ take-add 4 (4 * k) (drop (4 * a) table))

pub all_rows : (table : List ℕ) (k : ℕ) → length table ≡ 4 * k → foldr (λ i rest. (row_of table i).words ++ rest) [] (range 0 k) ≡ table
all_rows table k e = rows_from table 0 k ∙ take_all (4 * k) table (omega arith)

-- two lists of rows that agree row by row
pub same_rows : (f g : ℕ → BitSet) (a k : ℕ) → ((i : ℕ) → a ≤ i → i < a + k → f i ≡ g i)
    → foldr (λ i rest. (f i).words ++ rest) [] (range a k) ≡ foldr (λ i rest. (g i).words ++ rest) [] (range a k)
unfolding range
same_rows f g a zero h = refl
same_rows f g a (suc k) h =
    ap (λ s. s.words ++ foldr (λ i rest. (f i).words ++ rest) [] (range (suc a) k)) (h a (omega arith) (omega arith))
    ∙ ap (λ t. (g a).words ++ t) (same_rows f g (suc a) k (λ i l u. h i (omega arith) (omega arith)))

-- ---- the words of sets, one after the other

module _ {A : Type 0} (words : A → List ℕ) where
  abbrev pub all_words : List A → List ℕ
  all_words l = foldr (λ x rest. words x ++ rest) [] l

  pub words_count : (l : List A) → ((x : A) → Memᴰ x l → length (words x) ≡ 4) → length (all_words l) ≡ 4 * length l
  words_count [] h = refl
  words_count (x ∷ l) h = length-append (words x) (all_words l) ∙ omega (arith, h x (Memᴰ.head refl), words_count l (λ y m. h y (Memᴰ.tail m)))

  pub words_append : (some new : List A) → all_words (some ++ new) ≡ all_words some ++ all_words new
  words_append [] new = refl
  words_append (x ∷ some) new =
      ap (λ l. words x ++ l) (words_append some new) ∙ sym (append_assoc (words x) (all_words some) (all_words new))
