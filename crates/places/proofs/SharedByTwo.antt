-- Two normal included modules of a build share something exactly where two of their list do. So refusals 4 and 5 are tests of the list.
use Prim.Native.Nat.{ℕ, ◌<◌, zero-le}
use mathlib.Core.Bool.{Bool, true, false, ◌&&◌}
use mathlib.Core.List.{Memᴰ}
use mathlib.Core.Path.{◌≡◌, refl}
use native.Mathlib.Omega.{arith}
use Rattle.lists.specs.Below.{any_below}
use Rattle.lists.proofs.Below.{any_none, none_of}
use Rattle.lists.proofs.Members.{mem_range, mem_keep}
use Rattle.lists.proofs.Sort.{Pairs, pairs_kept}
use Rattle.grouping.specs.Given.{Given, is_listed}
use Rattle.grouping.specs.Conditions.{two_listed, shared_id, shared_order}
use Rattle.exec_order.specs.AnyTwo.{any_two}
use Rattle.ranks.specs.ById.{same_id}
use Rattle.exec_order.specs.ByOrder.{same_order}
use Rattle.places.specs.Ordered.{listed_of}
use Rattle.exec_order.proofs.TwoOf.{same_answer, none_two, two_none, pairs_of}

module _ (b : Given) where
  pub listed_mem : (m : ℕ) → m < b.shared.n → is_listed b m ≡ true → Memᴰ m (listed_of b)
  unfolding listed_of
  listed_mem m h e = mem_keep (is_listed b) m (mem_range 0 b.shared.n m zero-le (omega arith)) e

  pub listed_ascends : Pairs (λ l m. l < m) (listed_of b)
  unfolding listed_of
  listed_ascends = pairs_kept (λ l m. l < m) (is_listed b) 0 b.shared.n (λ l m h u p q. h)

  module _ (p : ℕ → ℕ → Bool) where
    abbrev test : ℕ → ℕ → Bool
    test m l = is_listed b l && (is_listed b m && p l m)

    none_share : any_two p (listed_of b) ≡ false → two_listed b p ≡ false
    unfolding two_listed
    none_share e =
        any_none (λ m. any_below (test m) m) b.shared.n
        (λ m h. any_none (test m) m (λ l g. go l m g h (is_listed b l) (is_listed b m) refl refl))
      where
        go : (l m : ℕ) → l < m → m < b.shared.n → (x y : Bool) → is_listed b l ≡ x → is_listed b m ≡ y → test m l ≡ false
        go l m g h false y u v = rw u
        go l m g h true false u v = rw (u, v)
        go l m g h true true u v =
            rw (u, v)
            (pairs_of (λ x y s t. omega arith) (two_none p (listed_of b) e) listed_ascends l m (listed_mem l (omega arith) u) (listed_mem m h v) g)

    share_none : two_listed b p ≡ false → any_two p (listed_of b) ≡ false
    unfolding two_listed listed_of
    share_none e =
        none_two p
        (pairs_kept (λ l m. p l m ≡ false) (is_listed b) 0 b.shared.n
        (λ l m g h u v.
        let s = none_of (test m) m (none_of (λ m. any_below (test m) m) b.shared.n e m (omega arith)) l g in
        rw (u, v) at s))

    pub two_listed_lem : any_two p (listed_of b) ≡ two_listed b p
    two_listed_lem = same_answer _ _ none_share share_none

  -- refusal 4
  pub shared_id_lem : any_two (same_id b.shared.bytes b.shared.offsets) (listed_of b) ≡ shared_id b
  unfolding shared_id
  shared_id_lem = two_listed_lem (same_id b.shared.bytes b.shared.offsets)

  -- refusal 5
  pub shared_order_lem : any_two (same_order b.shared.orders) (listed_of b) ≡ shared_order b
  unfolding shared_order
  shared_order_lem = two_listed_lem (same_order b.shared.orders)
