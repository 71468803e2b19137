-- One join in the tables is one join of the definition, and leaves sound tables with the same total.
use Prim.Native.Nat.{ℕ, ◌*◌, ◌<◌}
use mathlib.Core.Bool.{true, false, not, ◌&&◌, cond, and-true, and-false, true≢false, false≢true}
use mathlib.Core.List.{List, map, map-map}
use mathlib.Core.Path.{◌≡◌, sym, ap, ap₂, ◌∙◌, subst}
use native.Mathlib.Omega.{arith}
use borrow.Author.Tests.{eq-eqb, ne_eqb}
use lib.Dec.{eqb}
use lib.ListN.{length, get_or}
use Rattle.lists.specs.Keep.{keep}
use Rattle.lists.specs.Range.{range}
use Rattle.lists.specs.Sum.{sum}
use Rattle.bitset.specs.Entries.{row_of, union_of, empty}
use Rattle.joins.specs.Subgroup.{Subgroup, united}
use Rattle.merge.specs.Merge.{Merging, others, joined}
use Rattle.merge.specs.Tables.{subgroup_at, Mergeable}
use Rattle.merge.specs.Engine.{is_there, there_in, state_of, Sound, Joinable, JoinedTables}
use Rattle.lists.proofs.SumChanged.{sum_moved}
use Rattle.seeking.proofs.Kept.{by_number, kept_same}
use Rattle.merge.proofs.There.{other}
use Rattle.lists.proofs.KeepTests.{keep_map, keep_keep}
use Rattle.merge.proofs.Uniting.{both, s_in, t_in}
use Rattle.merge.proofs.Moving.{numbers_after, sizes_after, bits_after, by_sizes, new_there, size_s, size_other, row_s, row_t, row_away, new_subgroup, same_count, same_sizes, same_bits}

module _ (s t : Subgroup) (numbers sizes bits : List ℕ) (g : Joinable s t numbers sizes bits) where
  -- ---- the definition's join

  f : ℕ → Subgroup
  f = subgroup_at sizes bits

  change : Subgroup → Subgroup
  change u = cond (eqb u.number t.number) (united s t) u

  definition : (joined s t (state_of numbers sizes bits)).there
      ≡ map (λ i. cond (eqb i t.number) (united s t) (f i)) (keep (λ i. is_there numbers i && not (eqb i s.number)) (range 0 (length numbers)))
  unfolding joined others there_in subgroup_at f change
  definition =
      ap (map change) (keep_map (other s) f (keep (is_there numbers) (range 0 (length numbers))))
      ∙ map-map change f (keep (λ i. other s (f i)) (keep (is_there numbers) (range 0 (length numbers))))
      ∙ ap (map (λ i. change (f i))) (keep_keep (λ i. not (eqb i s.number)) (is_there numbers) (range 0 (length numbers)))

  not_s : (i : ℕ) → (is_there numbers i && not (eqb i s.number)) ≡ true → i ≡ s.number → ⊥
  not_s i e q = false≢true (sym (ap (λ b. is_there numbers i && not b) (eq-eqb i s.number q) ∙ and-false (is_there numbers i)) ∙ e)

  there' : there_in (numbers_after s t numbers) (sizes_after s t sizes) (bits_after s t bits) ≡ (joined s t (state_of numbers sizes bits)).there
  unfolding there_in f
  there' =
      ap (λ k. map (subgroup_at (sizes_after s t sizes) (bits_after s t bits)) (keep (is_there (numbers_after s t numbers)) (range 0 k))) (same_count s t numbers sizes bits g)
      ∙ kept_same (subgroup_at (sizes_after s t sizes) (bits_after s t bits)) (λ i. cond (eqb i t.number) (united s t) (f i)) (is_there (numbers_after s t numbers))
      (λ i. is_there numbers i && not (eqb i s.number)) 0 (length numbers)
      (λ i l u. new_there s t numbers sizes bits g i (omega arith))
      (λ i l u e. new_subgroup s t numbers sizes bits g i (omega arith) (not_s i e))
      ∙ sym definition

  state' : state_of (numbers_after s t numbers) (sizes_after s t sizes) (bits_after s t bits) ≡ joined s t (state_of numbers sizes bits)
  unfolding joined numbers_after
  state' = ap {B = Merging} (λ (l : List Subgroup). record { there = l; finals = (numbers_after s t numbers) }) there'

  -- ---- sound tables

  total' : sum (sizes_after s t sizes) ≡ sum sizes
  unfolding both
  total' = ap sum (by_sizes s t numbers sizes bits g) ∙ sum_moved sizes s.number t.number (s_in s t numbers sizes bits g) (t_in s t numbers sizes bits g) g.apart

  tables' : Mergeable (numbers_after s t numbers) (sizes_after s t sizes) (bits_after s t bits)
  tables' = record {
    count = rw (same_count s t numbers sizes bits g) g.tables.count;
    sizes_fit = same_sizes s t numbers sizes bits g ∙ g.tables.sizes_fit ∙ sym (same_count s t numbers sizes bits g);
    bits_fit = same_bits s t numbers sizes bits g ∙ g.tables.bits_fit ∙ ap (λ n. 4 * n) (sym (same_count s t numbers sizes bits g));
    exact = rw total' g.tables.exact;
  }

  -- who has vanished now is s, or had vanished before
  gone : (i : ℕ) → i < length (numbers_after s t numbers) → is_there (numbers_after s t numbers) i ≡ false → (i ≡ s.number → ⊥) → (is_there numbers i ≡ false) × (i ≡ t.number → ⊥)
  gone i h e a =
      let was : is_there numbers i ≡ false =
      sym (new_there s t numbers sizes bits g i (omega (arith, same_count s t numbers sizes bits g)) ∙ ap (λ b. is_there numbers i && not b) (ne_eqb i s.number a) ∙ and-true (is_there numbers i)) ∙ e in
      (was, λ q. true≢false (sym g.target.still ∙ ap (is_there numbers) (sym q) ∙ was))

  sound' : Sound numbers sizes bits → Sound (numbers_after s t numbers) (sizes_after s t sizes) (bits_after s t bits)
  sound' z = record {
    tables = tables';
    no_size = λ i h e. by_number i s.number
        (λ q. ap (λ j. get_or (sizes_after s t sizes) j 0) q ∙ size_s s t numbers sizes bits g)
        (λ a. let w = gone i h e a in size_other s t numbers sizes bits g i a w.1 ∙ z.no_size i (omega (arith, same_count s t numbers sizes bits g)) w.0);
    no_bits = λ i h e. by_number i s.number
        (λ q. ap (row_of (bits_after s t bits)) q ∙ row_s s t numbers sizes bits g)
        (λ a. let w = gone i h e a in row_away s t numbers sizes bits g i (omega (arith, same_count s t numbers sizes bits g)) a w.1 ∙ z.no_bits i (omega (arith, same_count s t numbers sizes bits g)) w.0);
  }

  -- ---- of whatever tables one join left

  module _ (n z b : List ℕ) (after : JoinedTables s t numbers sizes bits n z b) where
    of_tables_lem : (P : List ℕ → List ℕ → List ℕ → Type 0) → P (numbers_after s t numbers) (sizes_after s t sizes) (bits_after s t bits) → P n z b
    unfolding numbers_after sizes_after bits_after
    of_tables_lem P p =
        subst (λ x. P x z b) (sym after.new_numbers) (subst (λ x. P (numbers_after s t numbers) x b) (sym after.new_sizes) (subst (λ x. P (numbers_after s t numbers) (sizes_after s t sizes) x) (sym after.new_bits) p))

    pub joined_state : state_of n z b ≡ joined s t (state_of numbers sizes bits)
    joined_state = of_tables_lem (λ n z b. state_of n z b ≡ joined s t (state_of numbers sizes bits)) state'

    pub joined_sound : Sound numbers sizes bits → Sound n z b
    joined_sound p = of_tables_lem Sound (sound' p)

    pub joined_total : sum z ≡ sum sizes
    joined_total = of_tables_lem (λ n z b. sum z ≡ sum sizes) total'

    pub row_of_seeker : row_of b s.number ≡ empty
    row_of_seeker = of_tables_lem (λ n z b. row_of b s.number ≡ empty) (row_s s t numbers sizes bits g)

    pub row_of_target : row_of b t.number ≡ union_of (row_of bits t.number) (row_of bits s.number)
    unfolding united subgroup_at
    row_of_target =
        of_tables_lem (λ n z b. row_of b t.number ≡ (united s t).bits) (row_t s t numbers sizes bits g)
        ∙ ap₂ union_of (ap (λ u. u.bits) g.target.is) (ap (λ u. u.bits) g.seeker.is)

    pub row_of_other : (i : ℕ) → i < length numbers → (i ≡ s.number → ⊥) → (i ≡ t.number → ⊥) → row_of b i ≡ row_of bits i
    row_of_other = of_tables_lem (λ n z b. (i : ℕ) → i < length numbers → (i ≡ s.number → ⊥) → (i ≡ t.number → ⊥) → row_of b i ≡ row_of bits i) (row_away s t numbers sizes bits g)

    pub size_of_other : (i : ℕ) → (i ≡ s.number → ⊥) → (i ≡ t.number → ⊥) → get_or z i 0 ≡ get_or sizes i 0
    size_of_other = of_tables_lem (λ n z b. (i : ℕ) → (i ≡ s.number → ⊥) → (i ≡ t.number → ⊥) → get_or z i 0 ≡ get_or sizes i 0) (size_other s t numbers sizes bits g)

    pub joined_sizes : length z ≡ length sizes
    joined_sizes = of_tables_lem (λ n z b. length z ≡ length sizes) (same_sizes s t numbers sizes bits g)

    pub joined_count : length n ≡ length numbers
    joined_count = of_tables_lem (λ n z b. length n ≡ length numbers) (same_count s t numbers sizes bits g)

    pub there_now : (i : ℕ) → i < length numbers → is_there n i ≡ (is_there numbers i && not (eqb i s.number))
    there_now = of_tables_lem (λ n z b. (i : ℕ) → i < length numbers → is_there n i ≡ (is_there numbers i && not (eqb i s.number))) (new_there s t numbers sizes bits g)
