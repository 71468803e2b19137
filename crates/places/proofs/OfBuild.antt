-- A build that refusals 1 to 3 leave: its tables can be put in order, and the eligible ones of the order are its places.
use Prim.Native.Nat.{ℕ, ◌+◌, ◌≤◌, ◌<◌}
use mathlib.Core.Bool.{false}
use mathlib.Core.List.{List, Memᴰ}
use mathlib.Core.Path.{◌≡◌, refl, sym, ap, ◌∙◌, subst}
use native.Mathlib.Omega.{arith}
use borrow.Author.Tests.{eqb-true, ltb-false, not-false}
use lib.Dec.{eqb}
use lib.ListN.{length, get_or}
use Rattle.lists.specs.Keep.{keep}
use Rattle.lists.specs.Range.{range}
use Rattle.lists.specs.Sort.{sort_by}
use Rattle.lists.proofs.Below.{neither}
use Rattle.lists.proofs.Members.{range_mem, keep_mem}
use Rattle.lists.proofs.Position.{get_or_mem}
use Rattle.lists.proofs.Sort.{sort_mem}
use Rattle.refusal.specs.Counts.{module_limit, bad_length}
use Rattle.grouping.specs.Given.{Given, is_listed, is_eligible}
use Rattle.grouping.specs.Tree.{runs_before, places_of}
use Rattle.grouping.specs.Conditions.{count_above, bad_module_table, bad_record_table, bad_table, bad_id}
use Rattle.exec_order.specs.Listed.{Kept, Chosen}
use Rattle.places.specs.Ordered.{listed_of, Handed, Hands}
use Rattle.places.proofs.PlacesByOrder.{places_by_order}

is_length : (l : List ℕ) (n : ℕ) → bad_length l n ≡ false → length l ≡ n
is_length l n e = eqb-true (length l) n (not-false (eqb (length l) n) e)

module _ (b : Given) where
  -- refusal 1
  pub few_modules : count_above b ≡ false → b.shared.n ≤ 4096
  unfolding count_above
  few_modules e = ltb-false module_limit b.shared.n (neither _ _ e).0

  -- refusal 2
  module _ (tables : bad_table b ≡ false) where
    modules : bad_module_table b ≡ false
    unfolding bad_table
    modules = (neither (bad_module_table b) _ tables).0

    pub flags_length : length b.variant.flags ≡ b.shared.n
    unfolding bad_module_table
    flags_length = is_length b.variant.flags b.shared.n (neither (bad_length b.variant.flags b.shared.n) _ modules).0

    pub orders_length : length b.shared.orders ≡ b.shared.n
    unfolding bad_module_table
    orders_length =
        let s = b.shared in
        let after-flags = (neither (bad_length b.variant.flags s.n) _ modules).1 in
        let after-sizes = (neither (bad_length s.sizes s.n) _ after-flags).1 in
        is_length s.orders s.n (neither (bad_length s.orders s.n) _ after-sizes).0

    pub offsets_length : length b.shared.offsets ≡ b.shared.n + 1
    unfolding bad_table bad_record_table
    offsets_length =
        let s = b.shared in
        let records : bad_record_table b ≡ false = (neither (bad_record_table b) _ (neither (bad_module_table b) _ tables).1).0 in
        is_length s.offsets (s.n + 1) (neither (bad_length s.offsets (s.n + 1)) _ records).0

    pub hands : Hands b b.variant.flags b.shared.orders b.shared.bytes b.shared.offsets
    hands = record { number = sym flags_length; with_flags = refl; with_orders = refl; with_bytes = refl; with_offsets = refl }

    pub handed : count_above b ≡ false → bad_id b ≡ false → (by_order rank : List ℕ) → b.shared.n ≤ length by_order → b.shared.n ≤ length rank
        → Handed b.variant.flags b.shared.orders b.shared.bytes b.shared.offsets by_order rank
    unfolding bad_id
    handed counts ids by_order rank u v =
        let few = few_modules counts in
        record {
          with_ids =
              record {
                few = omega (arith, flags_length);
                offsets_length = omega (arith, flags_length, offsets_length);
                good = ids;
                list_room = omega (arith, flags_length);
                rank_room = omega (arith, flags_length);
              };
          with_orders = record { few = omega (arith, flags_length); orders_length = orders_length ∙ sym flags_length; list_room = omega (arith, flags_length) };
        }

    -- what is asked to keep the eligible ones of the order
    pub order_chosen : {list area : List ℕ} → list ≡ sort_by (runs_before b) (listed_of b) → length list ≤ length area → Chosen b.variant.flags list area
    unfolding listed_of
    order_chosen {list} e room = record { has_flags = at; fits = room }
      where
        at : (i : ℕ) → i < length list → get_or list i 0 < length b.variant.flags
        at i h =
            let m = get_or list i 0 in
            let all = keep (is_listed b) (range 0 b.shared.n) in
            let inside = sort_mem (runs_before b) all m (subst (λ (l : List ℕ). Memᴰ m l) e (get_or_mem list i 0 h)) in
            let s = range_mem 0 b.shared.n m (keep_mem (is_listed b) (range 0 b.shared.n) m inside).0 in
            omega (arith, s.1, flags_length)

  -- the eligible ones of the order are the places
  pub order_places : {list entry exit : List ℕ} {r : ℕ} → list ≡ sort_by (runs_before b) (listed_of b) → Kept (keep (is_eligible b) list) r entry exit
      → Kept (places_of b) r entry exit
  order_places {entry = entry} {exit} {r} e k = subst (λ (l : List ℕ). Kept l r entry exit) (ap (keep (is_eligible b)) e ∙ places_by_order b) k
