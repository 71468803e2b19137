-- Bits that are entered among the kinds of a table: they have a kind there, or their row is written after the others.
use Rattle.std.proofs.Common.{◌≡◌, ℕ, zero, suc, ◌+◌, ◌<◌, ◌≤◌, true, false, ltb, List, [], ◌∷◌, ◌++◌, map, length, get_or, set, sym, refl, ap, ◌∙◌, ap₂, zero-add, add-one, arith, take-suc-set, le-ltb, lt-ltb}
use mathlib.Core.List.{map-append}
use lib.Ieee.{binary64, of_bits, in_unsigned, to_unsigned}
use lib.ListN.{length-map}
use Rattle.lists.specs.Range.{range}
use Rattle.lists.proofs.Below.{neither}
use Rattle.lists.proofs.Map.{get_or_map_below}
use Rattle.lists.proofs.Range.{length_range, range_snoc, map_range, get_or_range}
use Rattle.bitset.specs.Entries.{row_of}
use Rattle.bitset.specs.declared.entries.BitSet.{BitSet}
use Rattle.merge.specs.Engine.{InRow}
use Rattle.bitset.specs.Rows.{with_row}
use Rattle.joins.proofs.Doubles.{zero_double, is_whole, reads_back}
use Rattle.bitset.proofs.Rows.{row_same, row_other}
use Rattle.grouping.specs.Subgroups.{same_bits, kind_number}
use Rattle.subgroups.specs.Kinds.{rows_of, has_kind}
use Rattle.subgroups.specs.Finding.{entered, KindFits, Entered}
use Rattle.subgroups.proofs.OneMore.{number_below}

pub length_rows : (table : List ℕ) (k : ℕ) → length (rows_of table k) ≡ k
unfolding rows_of
length_rows table k = length-map (range 0 k) (row_of table) ∙ length_range 0 k

pub rows_snoc : (table : List ℕ) (k : ℕ) → rows_of table (k + 1) ≡ rows_of table k ++ (row_of table k ∷ [])
unfolding rows_of
rows_snoc table k =
    rw (add-one k)
    (ap (map (row_of table)) (range_snoc 0 k ∙ ap (λ (n : ℕ). range 0 k ++ (n ∷ [])) (zero-add k)) ∙ map-append (row_of table) (range 0 k) (k ∷ []))

-- four words are the words that are read
four_words : (words : List ℕ) → length words ≡ 4 → (get_or words 0 0 ∷ get_or words 1 0 ∷ get_or words 2 0 ∷ get_or words 3 0 ∷ []) ≡ words
four_words (a ∷ b ∷ c ∷ d ∷ []) e = refl
four_words [] e = absurd (omega arith)
four_words (a ∷ []) e = absurd (omega arith)
four_words (a ∷ b ∷ []) e = absurd (omega arith)
four_words (a ∷ b ∷ c ∷ []) e = absurd (omega arith)
four_words (a ∷ b ∷ c ∷ d ∷ f ∷ l) e = absurd (omega arith)

-- none of the kinds has the bits
none_has : (l : List BitSet) (x : BitSet) → has_kind l x ≡ false → (j : ℕ) → j < length l → same_bits (get_or l j x) x ≡ false
unfolding has_kind
none_has [] x e j h = absurd (omega arith)
none_has (k ∷ l) x e zero h = (neither (same_bits k x) (has_kind l x) e).0
none_has (k ∷ l) x e (suc j) h = none_has l x (neither (same_bits k x) (has_kind l x) e).1 j (omega arith)

module _ (count : ℕ) (x : BitSet) (sizes bits : List ℕ) (fits : KindFits count x sizes bits) where
  abbrev kinds : List BitSet
  kinds = rows_of bits count

  has : (kind : ℕ) → kind ≡ kind_number 0 kinds x → ltb kind count ≡ has_kind kinds x
  has kind e = ap₂ ltb e (sym (length_rows bits count)) ∙ number_below kinds x

  pub kind_there : (kind : ℕ) → kind ≡ kind_number 0 kinds x → kind < count → Entered count x sizes bits kind count sizes bits
  unfolding entered
  kind_there kind e h =
      let there : has_kind kinds x ≡ true = sym (has kind e) ∙ lt-ltb kind count h in
      record { number = e; kinds = rw there; totals = rw there }

  -- the row that is written, and those before it
  pub row_last : row_of (with_row bits count x) count ≡ x
  row_last = row_same bits count x fits.rows ∙ ap {B = BitSet} (λ (l : List ℕ). record { words = l }) (four_words x.words fits.four)

  pub row_kept : (i : ℕ) → i < count → row_of (with_row bits count x) i ≡ row_of bits i
  row_kept i h = row_other bits count x fits.rows i (omega (arith, fits.rows)) (λ e. omega arith)

  row_added : rows_of (with_row bits count x) (count + 1) ≡ kinds ++ (x ∷ [])
  unfolding rows_of
  row_added =
      rows_snoc (with_row bits count x) count
      ∙ ap₂ (λ (l : List BitSet) (b : BitSet). l ++ (b ∷ []))
      (map_range (row_of (with_row bits count x)) (row_of bits) 0 count (λ i h. row_kept (0 + i) (omega arith)))
      row_last

  -- the row as it is stored: the size is the double 0.0, read back
  pub kind_added : (kind : ℕ) → kind ≡ kind_number 0 kinds x → count ≤ kind → (sizes' bits' : List ℕ)
      → sizes' ≡ set sizes count (to_unsigned 64 (of_bits binary64 0)) → bits' ≡ with_row bits count x
      → Entered count x sizes bits kind (count + 1) sizes' bits'
  unfolding entered
  kind_added kind e h sizes' bits' s b =
      let new : has_kind kinds x ≡ false = sym (has kind e) ∙ le-ltb kind count h in
      let zero : to_unsigned 64 (of_bits binary64 0) ≡ 0 = ap (to_unsigned 64) zero_double ∙ reads_back 0 (omega arith) in
      record {
        number = e;
        kinds = rw (b, new) row_added;
        totals = rw (s, zero, new, add-one count) (take-suc-set sizes count 0 fits.sizes);
      }

  -- bits whose number is the count have no kind
  pub no_row : (kind : ℕ) → kind ≡ kind_number 0 kinds x → count ≤ kind → (j : ℕ) → j < count → same_bits (row_of bits j) x ≡ false
  unfolding rows_of
  no_row kind e h j l =
      let at : get_or kinds j x ≡ row_of bits j =
      get_or_map_below (row_of bits) (range 0 count) j x 0 (omega (arith, length_range 0 count))
      ∙ ap (row_of bits) (get_or_range 0 count j 0 l ∙ zero-add j) in
      sym (ap (λ (b : BitSet). same_bits b x) at)
      ∙ none_has kinds x (sym (has kind e) ∙ le-ltb kind count h) j (omega (arith, length_rows bits count))

  pub row_fits : InRow sizes bits count × (in_unsigned binary64 64 (of_bits binary64 0) ≡ true)
  row_fits = (record { has_size = fits.sizes; has_bits = fits.rows }, ap (in_unsigned binary64 64) zero_double ∙ is_whole 0 (omega arith))
