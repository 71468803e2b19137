-- What an accepted call says of what was handed in, since none of the conditions applies.
use Prim.Native.Nat.{ℕ, ◌*◌, ◌<◌}
use mathlib.Core.Bool.{Bool, true, false, ◌&&◌, not, true≢false, or-true}
use mathlib.Core.List.{Memᴰ}
use mathlib.Core.Path.{◌≡◌, refl, sym, ap₂, ◌∙◌}
use borrow.Author.Tests.{eqb-true, eq-eqb, not-false}
use lib.Dec.{eqb}
use lib.ListN.{length, get_or}
use Rattle.lists.specs.Below.{any_below}
use Rattle.lists.proofs.Below.{both, none_of, refuted}
use Rattle.refusal.specs.Outcome.{accepted, Applies, here, there}
use Rattle.refusal.specs.Counts.{bad_length}
use Rattle.refusal.proofs.Lowest.{accepts}
use Rattle.flags.specs.Flags.{listed, assigned, eligible, eligible_at}
use Rattle.records.proofs.Table.{good, dependencies_in}
use Rattle.grouping.specs.Given.{Given, Areas, is_listed, is_eligible}
use Rattle.grouping.specs.ChunkList.{chunk_list}
use Rattle.grouping.specs.Conditions.{bad_module_table, bad_table, shared_order, two_listed, bad_dependency}
use Rattle.grouping.specs.Call.{chunks_tests, chunks_outcome, ChunksCall}
use Rattle.grouping.specs.Tree.{named_by}

-- what later laws use of it
pub record Sound (b : Given) : Type 0 where
  -- the table of entry bits has four words for each module
  pub bits_length : length b.shared.bits ≡ 4 * b.shared.n
  -- no two eligible modules have the same execution order
  pub orders_apart :
      (l m : ℕ) → l < m → m < b.shared.n → is_eligible b l ≡ true → is_eligible b m ≡ true
      → get_or b.shared.orders l 0 ≡ get_or b.shared.orders m 0 → ⊥
  -- whatever is named along a chain is a module
  pub named_in : (m : ℕ) → m < b.shared.n → (l : ℕ) → Memᴰ l (named_by b m) → l < b.shared.n

-- ---- what the tests leave

-- an eligible module is normal and included
pub eligible_listed : (b : Given) (m : ℕ) → is_eligible b m ≡ true → is_listed b m ≡ true
unfolding eligible_at eligible
eligible_listed b m e = let f = get_or b.variant.flags m 0 in (both (listed f) (not (assigned f)) e).0

-- where no two normal included modules are alike
pub two_apart : (b : Given) (p : ℕ → ℕ → Bool) → two_listed b p ≡ false
    → (l m : ℕ) → l < m → m < b.shared.n → is_listed b l ≡ true → is_listed b m ≡ true → p l m ≡ false
unfolding two_listed
two_apart b p none l m u v f g =
    let one = none_of (λ m. any_below (λ l. is_listed b l && (is_listed b m && p l m)) m) b.shared.n none m v in
    let two = none_of (λ l. is_listed b l && (is_listed b m && p l m)) m one l u in
    sym (ap₂ (λ (x y : Bool). x && (y && p l m)) f g) ∙ two

-- a condition that does not apply
bits_long : (b : Given) → bad_table b ≡ false → length b.shared.bits ≡ 4 * b.shared.n
unfolding bad_table bad_module_table
bits_long b none =
    eqb-true (length b.shared.bits) (4 * b.shared.n)
    (not-false (eqb (length b.shared.bits) (4 * b.shared.n))
    (refuted (bad_length b.shared.bits (4 * b.shared.n)) (λ e. true≢false (sym (listed_last e) ∙ none))))
  where
    listed_last : bad_length b.shared.bits (4 * b.shared.n) ≡ true → bad_table b ≡ true
    listed_last e = simp (e, or-true)

pub tests_sound : (b : Given) → bad_table b ≡ false → shared_order b ≡ false → bad_dependency b ≡ false → Sound b
unfolding shared_order bad_dependency
tests_sound b table order dependency =
    let s = b.shared in
    let at : ℕ → ℕ = λ m. get_or s.orders m 0 in
    record {
      bits_length = bits_long b table;
      orders_apart = λ l m u v p q e.
          true≢false
          (sym (eq-eqb (at l) (at m) e)
          ∙ two_apart b (λ l m. eqb (at l) (at m)) order l m u v (eligible_listed b l p) (eligible_listed b m q));
      named_in =
          dependencies_in s.first s.dependency s.next s.n s.d
          (good s.first s.dependency s.next s.n s.d dependency);
    }

-- ---- an accepted call

module _ (need : Given → ℕ) (b : Given) {count : ℕ} {before after : Areas} (c : ChunksCall need b (accepted count) before after) where
  none : (count ≡ length (chunk_list b)) × ((m : ℕ) → Applies m (chunks_tests need b before) → ⊥)
  unfolding chunks_outcome
  none = accepts (length (chunk_list b)) count (chunks_tests need b before) (sym c.number)

  -- "The answer is the count of new chunks."
  pub count_is : count ≡ length (chunk_list b)
  count_is = none.0

  table_test : bad_table b ≡ false
  unfolding chunks_tests
  table_test = refuted (bad_table b) (λ e. none.1 2 (there (here refl e)))

  order_test : shared_order b ≡ false
  unfolding chunks_tests
  order_test = refuted (shared_order b) (λ e. none.1 5 (there (there (there (there (here refl e))))))

  dependency_test : bad_dependency b ≡ false
  unfolding chunks_tests
  dependency_test = refuted (bad_dependency b) (λ e. none.1 7 (there (there (there (there (there (there (here refl e))))))))

  pub sound : Sound b
  sound = tests_sound b table_test order_test dependency_test
