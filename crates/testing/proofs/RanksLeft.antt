-- The ranks that the tests leave are those that a run reads.
use Prim.Native.Nat.{ℕ, ◌≤◌, ◌<◌}
use mathlib.Core.Bool.{Bool, true, false, true≢false}
use mathlib.Core.List.{List, Memᴰ}
use mathlib.Core.Path.{◌≡◌, refl, sym, ap, ◌∙◌}
use native.Mathlib.Omega.{arith}
use lib.ListN.{length, get_or, take}
use lib.Seq.{length-take-le, get_or-take}
use Rattle.lists.specs.Range.{range}
use Rattle.lists.specs.Sort.{sort_by}
use Rattle.lists.proofs.KeepLength.{keep_le}
use Rattle.lists.proofs.Members.{keep_mem}
use Rattle.lists.proofs.Position.{mem_get_or}
use Rattle.lists.proofs.Range.{length_range}
use Rattle.lists.proofs.Sort.{mem_sort, sort_mem}
use Rattle.orders.specs.ById.{by_id}
use Rattle.lists.proofs.Rearranged.{sort_length}
use Rattle.grouping.specs.Given.{Given, is_listed}
use Rattle.settling.specs.Modules.{Passed}
use Rattle.conditions.proofs.CountsLeft.{counts_passed}
use Rattle.places.specs.Ordered.{listed_of, BothOrders}
use Rattle.places.proofs.RankOrder.{rank_order}
use Rattle.places.proofs.SharedByTwo.{listed_mem, shared_id_lem}
use Rattle.running.specs.Fits.{Ranks}

module _ (b : Given) (passed : Passed b) {by_order rank rank' : List ℕ} (orders : BothOrders b by_order rank rank') where
  abbrev n : ℕ
  n = b.shared.n

  abbrev sorted : List ℕ
  sorted = sort_by (by_id b.shared.bytes b.shared.offsets) (listed_of b)

  few_sorted : length sorted ≤ 4096
  unfolding listed_of
  few_sorted =
      let few = (counts_passed b passed.counts).modules in
      omega (arith, sort_length (by_id b.shared.bytes b.shared.offsets) (listed_of b), keep_le (is_listed b) (range 0 n), length_range 0 n)

  -- an entry is a position in id order, or what the table held before
  small_rank : ((m : ℕ) → get_or rank m 0 < 4096) → (m : ℕ) → m < n → get_or rank' m 0 < 4096
  unfolding listed_of
  small_rank low m h = go (is_listed b m) refl
    where
      go : (t : Bool) → is_listed b m ≡ t → get_or rank' m 0 < 4096
      go true e =
          let s = mem_get_or 0 (mem_sort (by_id b.shared.bytes b.shared.offsets) (listed_of b) m (listed_mem b m h e)) in
          let p = ap (λ (k : ℕ). get_or rank' k 0) (sym s.2) ∙ orders.ranked.position s.0 s.1 in
          omega (arith, p, s.1, few_sorted)
      go false e =
          let out : Memᴰ m sorted → ⊥ = λ i.
          true≢false (sym (keep_mem (is_listed b) (range 0 n) m (sort_mem (by_id b.shared.bytes b.shared.offsets) (listed_of b) m i)).1 ∙ e) in
          omega (arith, orders.ranked.others m out, low m)

  -- the first entries of a table that held small numbers, zeros for one, are the ranks of the build's modules
  pub ranks_of : b.shared.n ≤ length rank' → ((m : ℕ) → get_or rank m 0 < 4096) → Ranks b (take b.shared.n rank')
  ranks_of room low =
      record {
        for_all = long;
        small = λ m h.
            let u : m < n = omega (arith, long) in
            rw (get_or-take n rank' m 0 u) (small_rank low m u);
        by_id = λ l m u v f g.
            rw (get_or-take n rank' l 0 u, get_or-take n rank' m 0 v)
            (rank_order b.shared.bytes b.shared.offsets (listed_of b) orders.ranked (shared_id_lem b ∙ passed.ids_apart) l m (listed_mem b l u f)
            (listed_mem b m v g));
      }
    where
      long : length (take n rank') ≡ n
      long = length-take-le n rank' room
