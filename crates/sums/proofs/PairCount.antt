-- The names of all rows, counted over clear bytes, are the (group, name) pairs of each build that hands the answers in.
use Prim.Native.Nat.{ℕ, zero, suc, ◌+◌, ◌*◌, ◌-◌, ◌≤◌, ◌<◌}
use mathlib.Core.List.{List, map}
use mathlib.Core.Path.{◌≡◌, refl, sym, ap, ◌∙◌, subst}
use native.Mathlib.Nat.{zero-add}
use native.Mathlib.Omega.{arith}
use lib.Dec.{eqb}
use lib.ListN.{length, get_or, take, replicate, length-replicate}
use lib.Seq.{length-take-le}
use Rattle.lists.specs.Below.{any_below, count_below}
use Rattle.lists.specs.Range.{range}
use Rattle.lists.specs.Sum.{sum}
use Rattle.lists.proofs.Below.{any_same, count_same}
use Rattle.lists.proofs.Range.{map_range}
use Rattle.grouping.specs.Given.{Given}
use Rattle.grouping.specs.Conditions.{pairs}
use Rattle.sums.specs.HandsIn.{HandsRows}
use Rattle.sums.specs.Names.{met_in, names_in, row_at, names_of_rows, RowsReady, RowsCounted, AnswersWithin, PairsCounted}
use Rattle.sums.proofs.RowCount.{length_row, get_or_row}

-- ---- clear bytes

abbrev zeros : ℕ → List ℕ
zeros size = replicate size 0

clear_byte : (k size name : ℕ) → get_or (take k (zeros size)) name 0 ≡ 0
clear_byte zero size name = refl
clear_byte (suc k) zero name = refl
clear_byte (suc k) (suc size) zero = refl
clear_byte (suc k) (suc size) (suc name) = clear_byte k size name

pub clear_length : (k size : ℕ) → k ≤ size → length (take k (zeros size)) ≡ k
clear_length k size h = length-take-le k (zeros size) (omega (arith, length-replicate {A = ℕ} size 0))

-- ---- the rows of a build

module _ (answers : List ℕ) (n g k : ℕ) where
  -- what one group adds, as the definition has it
  abbrev named : ℕ → ℕ
  named i = count_below (λ name. any_below (λ m. eqb (get_or answers (i * n + m) 0) (2 + name)) n) k

  row_names : (i : ℕ) → i < g → length answers ≡ g * n → names_in (row_at answers n i) k ≡ named i
  unfolding names_in met_in
  row_names i h e =
      rw (length_row answers k n i g h e)
      (count_same (λ name. any_below (λ m. eqb (get_or (row_at answers n i) m 0) (2 + name)) n) (λ name. any_below (λ m. eqb (get_or answers (i * n + m) 0)
      (2 + name)) n) k
      (λ name _. any_same (λ m. eqb (get_or (row_at answers n i) m 0) (2 + name)) (λ m. eqb (get_or answers (i * n + m) 0) (2 + name)) n
      (λ m below. ap (λ (x : ℕ). eqb x (2 + name)) (get_or_row answers k n i m below))))

  all_names : length answers ≡ g * n → names_of_rows answers k n g ≡ sum (map named (range 0 g))
  unfolding names_of_rows
  all_names e =
      ap sum (map_range (λ i. names_in (row_at answers n i) k) named 0 g
      (λ i h. subst (λ (j : ℕ). names_in (row_at answers n j) k ≡ named j) (sym (zero-add i)) (row_names i h e)))

  build_pairs : (b : Given) → HandsRows b answers n g k → sum (map named (range 0 g)) ≡ pairs b
  unfolding pairs
  build_pairs b h = rw (h.module_count, h.group_count, h.name_count, h.all_answers)

  pub clear_rows : (size : ℕ) → k + 2 ≤ size → AnswersWithin answers n g k → RowsReady answers (take (k + 2) (zeros size)) n g
  clear_rows size h a =
      record {
        unnamed = omega (arith, clear_length (k + 2) size h);
        whole = a.whole;
        modules = a.modules;
        groups = a.groups;
        within = λ j below. omega (arith, a.named j below, clear_length (k + 2) size h);
        clear = clear_byte (k + 2) size;
      }

  pub pairs_counted : (size count : ℕ) → k + 2 ≤ size → length answers ≡ g * n → RowsCounted answers (length (take (k + 2) (zeros size)) - 2) n g count
      → PairsCounted answers n g k count
  pairs_counted size count h e r =
      let names : length (take (k + 2) (zeros size)) - 2 ≡ k = omega (arith, clear_length (k + 2) size h) in
      record {
        counted = λ b hands.
            r.counted ∙ ap (λ (x : ℕ). names_of_rows answers x n g) names ∙ all_names e ∙ build_pairs b hands;
        few = r.few;
      }
