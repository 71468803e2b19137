-- The normal included modules of a build in both orders, and the answer to refusals 4 and 5.
use Rattle.std.specs.Prelude.{ℕ, ◌+◌, ◌≤◌, Bool, true, false, List, map, ◌≡◌, ltb, length, get_or, take}
use Rattle.lists.specs.Keep.{keep}
use Rattle.lists.specs.Packed.{packed, item_of}
use Rattle.lists.specs.Range.{range}
use Rattle.lists.specs.Sort.{sort_by}
use Rattle.flags.specs.Flags.{listed}
use Rattle.orders.specs.ById.{by_id, GoodTable}
use Rattle.grouping.specs.Given.{Given, is_listed}
use Rattle.grouping.specs.Tree.{runs_before}
use Rattle.grouping.specs.Conditions.{shared_id, shared_order}
use Rattle.exec_order.specs.AnyTwo.{any_two}
use Rattle.exec_order.specs.Listed.{listed_in}
use Rattle.exec_order.specs.ByOrder.{same_order, runs_first}
use Rattle.ranks.specs.ById.{Ranks, RankedById}
use Rattle.std.specs.Prelude.{Result}
use Rattle.std.specs.Prelude.Result.{Ok, Err}
use Rattle.refusal.specs.declared.Refusal.{Refusal}
use Rattle.refusal.specs.declared.Refusal.TheVariants.{SameId, SameOrder}

-- the normal included modules of a build, by number
unfoldable pub listed_of : Given → List ℕ
unfolding keep range listed
listed_of b = keep (is_listed b) (range 0 b.shared.n)

-- modules sorted by rank, as numbers that hold the rank above the module
abbrev pub ranks_sorted : List ℕ → List ℕ → List ℕ
ranks_sorted rank l = map item_of (sort_by ltb (map (λ m. packed (get_or rank m 0) m) l))

-- flags of at most 4,096 modules with ids that refusals 2 and 3 leave, and areas with an entry for each
pub record HandedIds (flags bytes offsets list rank : List ℕ) : Type 0 where
  pub few : length flags ≤ 4096
  pub offsets_length : length offsets ≡ length flags + 1
  pub good : GoodTable bytes offsets
  pub list_room : length flags ≤ length list
  pub rank_room : length flags ≤ length rank

-- the same with execution orders
pub record HandedOrders (flags orders list : List ℕ) : Type 0 where
  pub few : length flags ≤ 4096
  pub orders_length : length orders ≡ length flags
  pub list_room : length flags ≤ length list

pub record Handed (flags orders bytes offsets by_order rank : List ℕ) : Type 0 where
  pub with_ids : HandedIds flags bytes offsets by_order rank
  pub with_orders : HandedOrders flags orders by_order

-- The answer: two normal included modules share an id. Where none do, each has its position in id order as its rank.
pub record RankedListed (flags bytes offsets : List ℕ) (r : Bool) (list list' rank rank' : List ℕ) : Type 0 where
  pub ranked : RankedById bytes offsets (listed_in flags) r rank rank'
  pub same_length : length list' ≡ length list

-- the build hands in these tables, with a flag byte for each module
pub record Hands (b : Given) (flags orders bytes offsets : List ℕ) : Type 0 where
  pub number : b.shared.n ≡ length flags
  pub with_flags : b.variant.flags ≡ flags
  pub with_orders : b.shared.orders ≡ orders
  pub with_bytes : b.shared.bytes ≡ bytes
  pub with_offsets : b.shared.offsets ≡ offsets

-- 4 is tested before 5
unfoldable pub answer_of : Bool → Bool → ℕ → Result ℕ Refusal
answer_of true order count = Err SameId
answer_of false true count = Err SameOrder
answer_of false false count = Ok count

-- The answer to refusal 5, where 4 does not apply. The first entries hold the normal included modules in execution order.
pub record OrderedListed (flags orders : List ℕ) (r : Result ℕ Refusal) (list list' : List ℕ) : Type 0 where
  pub answer : r ≡ answer_of false (any_two (same_order orders) (listed_in flags)) (length (listed_in flags))
  pub in_order : take (length (listed_in flags)) list' ≡ sort_by (runs_first orders) (listed_in flags)
  pub same_length : length list' ≡ length list

-- the first entries hold the modules in execution order, and each has its position in id order as its rank
pub record BothOrders (b : Given) (by_order rank rank' : List ℕ) : Type 0 where
  pub in_order : take (length (listed_of b)) by_order ≡ sort_by (runs_before b) (listed_of b)
  pub ranked : Ranks (sort_by (by_id b.shared.bytes b.shared.offsets) (listed_of b)) rank rank'

-- refusals 4 and 5, and where neither applies, both orders
pub record InOrder (b : Given) (r : Result ℕ Refusal) (by_order by-order' rank rank' : List ℕ) : Type 0 where
  pub answer : r ≡ answer_of (shared_id b) (shared_order b) (length (listed_of b))
  pub accepted : shared_id b ≡ false → shared_order b ≡ false → BothOrders b by-order' rank rank'
  pub order_length : length by-order' ≡ length by_order
  pub rank_length : length rank' ≡ length rank
