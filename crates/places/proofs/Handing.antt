-- The normal included modules that flags tell, as a list that was written: what may be asked for it, and what a build that hands in these
-- tables says of it.
use Prim.Native.Nat.{ℕ, ◌+◌, ◌≤◌, ◌<◌}
use mathlib.Core.Bool.{Bool, true, false, true≢false}
use mathlib.Core.List.{List, ◌++◌, Memᴰ}
use mathlib.Core.Path.{◌≡◌, refl, sym, ap, ap₂, ◌∙◌, subst}
use native.Mathlib.Omega.{arith}
use lib.ListN.{length, get_or, take, drop, length-append, length-drop}
use lib.Seq.{take_at}
use Rattle.lists.specs.Keep.{keep}
use Rattle.lists.specs.Range.{range}
use Rattle.lists.specs.Sort.{sort_by}
use Rattle.lists.proofs.KeepLength.{keep_le}
use Rattle.lists.proofs.Members.{range_mem, keep_mem}
use Rattle.lists.proofs.Pairs.{pairs_at}
use Rattle.lists.proofs.Position.{get_or_mem}
use Rattle.lists.proofs.Range.{length_range}
use Rattle.lists.proofs.Rearranged.{sort_perm, perm_length}
use Rattle.lists.proofs.Sort.{Pairs, pairs_kept}
use Rattle.flags.specs.Flags.{listed}
use Rattle.orders.specs.ById.{by_id}
use Rattle.grouping.specs.Given.{Given}
use Rattle.grouping.specs.Tree.{runs_before}
use Rattle.grouping.specs.Conditions.{shared_id, shared_order}
use Rattle.exec_order.specs.AnyTwo.{any_two}
use Rattle.exec_order.specs.Listed.{listed_in, Kept}
use Rattle.ranks.specs.ById.{same_id, Ranks, Rankable}
use Rattle.exec_order.specs.ByOrder.{same_order, runs_first, Modules, PutByOrder}
use Rattle.places.specs.Ordered.{listed_of, HandedIds, HandedOrders, RankedListed, OrderedListed, Hands, answer_of, InOrder}
use Rattle.std.specs.Prelude.{Result}
use Rattle.std.specs.Prelude.Result.{Err}
use Rattle.refusal.specs.declared.Refusal.{Refusal}
use Rattle.refusal.specs.declared.Refusal.TheVariants.{SameId}
use Rattle.places.proofs.SharedByTwo.{shared_id_lem, shared_order_lem}

-- ---- the list

module _ (flags : List ℕ) where
  below : (m : ℕ) → Memᴰ m (listed_in flags) → m < length flags
  unfolding listed_in
  below m i =
      let s = range_mem 0 (length flags) m (keep_mem (λ m. listed (get_or flags m 0)) (range 0 (length flags)) m i).0 in
      omega arith

  ascends : Pairs (λ l m. l < m) (listed_in flags)
  unfolding listed_in
  ascends = pairs_kept (λ l m. l < m) (λ m. listed (get_or flags m 0)) 0 (length flags) (λ l m h u p q. h)

  pub listed_length : length (listed_in flags) ≤ length flags
  unfolding listed_in
  listed_length = omega (arith, keep_le (λ m. listed (get_or flags m 0)) (range 0 (length flags)), length_range 0 (length flags))

  pub listed_rankable : {bytes offsets list rank : List ℕ} → HandedIds flags bytes offsets list rank → Rankable bytes offsets (listed_in flags) rank
  listed_rankable h =
      record {
        few = omega (arith, listed_length, h.few);
        named = record { good = h.good; has_id = λ m i. omega (arith, below m i, h.offsets_length) };
        has_rank = λ m i. omega (arith, below m i, h.rank_room);
      }

  pub listed_modules : {orders list : List ℕ} → HandedOrders flags orders list → Modules orders (listed_in flags)
  listed_modules h =
      record {
        ascends = λ i j u v. pairs_at ascends i j 0 u v;
        has_order = λ i v. omega (arith, at i v, h.orders_length);
        small = λ i v. omega (arith, at i v, h.few);
      }
    where
      at : (i : ℕ) → i < length (listed_in flags) → get_or (listed_in flags) i 0 < length flags
      at i v = below (get_or (listed_in flags) i 0) (get_or_mem (listed_in flags) i 0 v)

  -- the list in execution order, in the first entries of the area
  pub listed_in_order : {orders list area part : List ℕ} {count : ℕ} {r t : Bool} → HandedOrders flags orders list
      → Kept (listed_in flags) count list area → PutByOrder orders r (take count area) part → r ≡ t
      → OrderedListed flags orders (answer_of false t count) list (part ++ drop count area)
  listed_in_order {orders} {list} {area} {part} {count} {r} {t} h k o e =
      record {
        answer = ap₂ (λ (t : Bool) (n : ℕ). answer_of false t n) (sym e ∙ o.shared ∙ ap (any_two (same_order orders)) k.first) k.count;
        in_order = take_at part (drop count area) (length (listed_in flags)) long ∙ sorted;
        same_length =
            length-append part (drop count area)
            ∙ omega (arith, length-drop count area, long, k.count, k.same_length, listed_length, h.list_room);
      }
    where
      sorted : part ≡ sort_by (runs_first orders) (listed_in flags)
      sorted = o.in_order ∙ ap (sort_by (runs_first orders)) k.first

      long : length part ≡ length (listed_in flags)
      long = ap length sorted ∙ sym (perm_length (sort_perm (runs_first orders) (listed_in flags)))

-- ---- a build

module _ {b : Given} {flags orders bytes offsets : List ℕ} (h : Hands b flags orders bytes offsets) where
  listed_same : listed_in flags ≡ listed_of b
  unfolding listed_in listed_of
  listed_same = ap₂ (λ (f : List ℕ) (n : ℕ). keep (λ m. listed (get_or f m 0)) (range 0 n)) (sym h.with_flags) (sym h.number)

  ids_same : any_two (same_id bytes offsets) (listed_in flags) ≡ shared_id b
  ids_same =
      ap₂ (λ (x y : List ℕ). any_two (same_id x y) (listed_in flags)) (sym h.with_bytes) (sym h.with_offsets)
      ∙ ap (any_two (same_id b.shared.bytes b.shared.offsets)) listed_same
      ∙ shared_id_lem b

  orders_same : any_two (same_order orders) (listed_in flags) ≡ shared_order b
  orders_same =
      ap (λ (x : List ℕ). any_two (same_order x) (listed_in flags)) (sym h.with_orders)
      ∙ ap (any_two (same_order b.shared.orders)) listed_same
      ∙ shared_order_lem b

  sorted_same : sort_by (runs_first orders) (listed_in flags) ≡ sort_by (runs_before b) (listed_of b)
  sorted_same = ap₂ (λ (x l : List ℕ). sort_by (runs_first x) l) (sym h.with_orders) listed_same

  ids_sorted : sort_by (by_id bytes offsets) (listed_in flags) ≡ sort_by (by_id b.shared.bytes b.shared.offsets) (listed_of b)
  ids_sorted =
      ap₂ (λ (x y : List ℕ). sort_by (by_id x y) (listed_in flags)) (sym h.with_bytes) (sym h.with_offsets)
      ∙ ap (sort_by (by_id b.shared.bytes b.shared.offsets)) listed_same

  module _ {list list' rank rank' : List ℕ} where
    -- two share an id
    pub refused_id : RankedListed flags bytes offsets true list list' rank rank' → InOrder b (Err SameId) list list' rank rank'
    unfolding answer_of
    refused_id g =
        let e : true ≡ shared_id b = g.ranked.shared ∙ ids_same in
        record {
          answer = ap (λ (t : Bool). answer_of t (shared_order b) (length (listed_of b))) e;
          accepted = λ p q. absurd (true≢false (e ∙ p));
          order_length = g.same_length;
          rank_length = g.ranked.same_length;
        }

    -- none do
    pub ids_apart : {r : Result ℕ Refusal} {list'' : List ℕ} → RankedListed flags bytes offsets false list list' rank rank' → OrderedListed flags orders r list' list''
        → InOrder b r list list'' rank rank'
    ids_apart {r} {list''} g o =
        let e : false ≡ shared_id b = g.ranked.shared ∙ ids_same in
        let count : length (listed_in flags) ≡ length (listed_of b) = ap length listed_same in
        record {
          answer =
              o.answer
              ∙ ap₂ (λ (t : Bool) (n : ℕ). answer_of false t n) orders_same count
              ∙ ap (λ (t : Bool). answer_of t (shared_order b) (length (listed_of b))) e;
          accepted =
              λ p q.
              record {
                in_order = ap (λ (n : ℕ). take n list'') (sym count) ∙ o.in_order ∙ sorted_same;
                ranked = subst (λ (l : List ℕ). Ranks l rank rank') ids_sorted (g.ranked.ranked refl);
              };
          order_length = o.same_length ∙ g.same_length;
          rank_length = g.ranked.same_length;
        }
