-- The names of the rows, one group after another: no byte is above the last mark, and the count is that of the rows so far.
use Prim.Native.Nat.{ℕ, suc, ◌+◌, ◌*◌, ◌-◌, ◌≤◌, ◌<◌}
use mathlib.Core.List.{List, [], ◌∷◌, ◌++◌, map, map-append}
use mathlib.Core.Path.{◌≡◌, refl, sym, ap, ap₂, ◌∙◌}
use native.Mathlib.Nat.{zero-add, mul-le-mul, mul-le-mul_right, suc-mul}
use native.Mathlib.Numerals.{add-one}
use native.Mathlib.Omega.{arith}
use lib.ListN.{length, get_or, take, drop, length-take, length-drop}
use lib.Seq.{get_or-take, get_or-drop}
use Rattle.lists.specs.Range.{range}
use Rattle.lists.specs.Sum.{sum}
use Rattle.lists.proofs.Range.{range_snoc}
use Rattle.lists.proofs.Sum.{sum_snoc}
use Rattle.refusal.specs.Counts.{module_limit, group_limit}
use Rattle.sums.specs.HandsIn.{pair_limit}
use Rattle.sums.specs.Names.{names_in, row_at, names_of_rows, RowReady, RowCounted}

-- no product of a group's number and the modules' count is beyond all answers
pub row_bound : (i g n : ℕ) → i < g → g ≤ group_limit → n ≤ module_limit → i * n + n ≤ pair_limit
row_bound i g n h groups modules = omega (arith, mul-le-mul_right n h, suc-mul i n, mul-le-mul groups modules)

-- the sum over the numbers below i grows by one number at a time
sum_more : (f : ℕ → ℕ) (i : ℕ) → sum (map f (range 0 (suc i))) ≡ sum (map f (range 0 i)) + f i
sum_more f i =
    ap (λ (l : List ℕ). sum (map f l)) (range_snoc 0 i ∙ ap (λ (m : ℕ). range 0 i ++ (m ∷ [])) (zero-add i))
    ∙ ap sum (map-append f (range 0 i) (i ∷ []))
    ∙ sum_snoc (map f (range 0 i)) (f i)

module _ (answers : List ℕ) (k n : ℕ) where
  -- the rows of the first i groups are counted
  pub record Rows (i : ℕ) (seen : List ℕ) (count : ℕ) : Type 0 where
    pub same_length : length seen ≡ 2 + k
    pub within : (answer : ℕ) → get_or seen answer 0 ≤ i
    pub counted : count ≡ names_of_rows answers k n i
    pub few : count ≤ i * n

  pub rows_begin : (seen : List ℕ) → length seen ≡ 2 + k → ((answer : ℕ) → get_or seen answer 0 ≡ 0) → Rows 0 seen 0
  unfolding names_of_rows range sum
  rows_begin seen e clear = record { same_length = e; within = λ answer. omega (arith, clear answer); counted = refl; few = omega arith }

  -- row i stands within the answers
  pub row_in : (i g : ℕ) → i < g → length answers ≡ g * n → i * n + n ≤ length answers
  row_in i g h e = omega (arith, mul-le-mul_right n h, suc-mul i n)

  -- and is as long as what is cut out for it
  pub row_part : (i : ℕ) → take (i * n + n - i * n) (drop (i * n) answers) ≡ row_at answers n i
  unfolding row_at
  row_part i = let e : i * n + n - i * n ≡ n = omega arith in rw e

  pub length_row : (i g : ℕ) → i < g → length answers ≡ g * n → length (row_at answers n i) ≡ n
  unfolding row_at
  length_row i g h e = simp (length-take, length-drop) (omega (arith, row_in i g h e))

  pub get_or_row : (i m : ℕ) → m < n → get_or (row_at answers n i) m 0 ≡ get_or answers (i * n + m) 0
  unfolding row_at
  get_or_row i m h = rw (get_or-take, get_or-drop)

  pub row_ready : (i g : ℕ) (seen : List ℕ) (count : ℕ) → i < g → length answers ≡ g * n → ((j : ℕ) → j < length answers → get_or answers j 0 < 2 + k)
      → Rows i seen count → RowReady (row_at answers n i) seen (i + 1)
  row_ready i g seen count h e named s =
      record {
        unnamed = omega (arith, s.same_length);
        within = λ m below.
            let low : m < n = omega (arith, length_row i g h e) in
            omega (arith, named (i * n + m) (omega (arith, row_in i g h e)), get_or_row i m low, s.same_length);
        unmarked = λ answer. omega (arith, s.within answer);
      }

  pub rows_turn : (i g : ℕ) (seen after : List ℕ) (count more : ℕ) → i < g → length answers ≡ g * n → Rows i seen count
      → RowCounted (row_at answers n i) seen after (i + 1) more → Rows (i + 1) after (count + more)
  unfolding names_of_rows
  rows_turn i g seen after count more h e s r =
      let names : length seen - 2 ≡ k = omega (arith, s.same_length) in
      record {
        same_length = r.same_length ∙ s.same_length;
        within = r.within;
        counted =
            ap₂ ◌+◌ s.counted (r.counted ∙ ap (names_in (row_at answers n i)) names)
            ∙ sym (sum_more (λ j. names_in (row_at answers n j) k) i)
            ∙ ap (λ (j : ℕ). sum (map (λ j. names_in (row_at answers n j) k) (range 0 j))) (sym (add-one i));
        few = omega (arith, s.few, r.few, length_row i g h e, ap (λ (x : ℕ). x * n) (add-one i), suc-mul i n);
      }
