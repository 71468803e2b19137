-- The places of a build are its eligible modules, rising in execution order. Two lists that rise in a key and have the same members are
-- equal, so that builds which are alike have the same places, translated.
use Prim.Native.Nat.{ℕ, ◌<◌, zero-le}
use mathlib.Core.Bool.{Bool, true}
use mathlib.Core.List.Memᴰ
use mathlib.Core.List.{map, Memᴰ}
use mathlib.Core.Path.{◌≡◌, sym, ap, ap₂, ◌∙◌, subst}
use native.Mathlib.Omega.{arith}
use lib.Dec.{ltb}
use lib.ListN.{get_or}
use Rattle.lists.specs.Keep.{keep}
use Rattle.lists.specs.Range.{range}
use Rattle.lists.proofs.Members.{range_mem, mem_range, keep_mem, mem_keep}
use Rattle.lists.proofs.Pigeonhole.{hits}
use Rattle.lists.proofs.Sort.{Rising, pairs_map, pairs_kept, lower, sort_mem, mem_sort, sort_keys, keys_same}
use Rattle.flags.specs.Flags.{eligible, eligible_at}
use Rattle.grouping.specs.Given.{Given}
use Rattle.grouping.specs.Tree.{places_of}
use Rattle.grouping.specs.Renumbering.{Renumbering, Alike}
use Rattle.grouping_laws.proofs.Accepted.{Sound}

abbrev pub order : Given → ℕ → ℕ
order b m = get_or b.shared.orders m 0

abbrev pub chosen : Given → ℕ → Bool
chosen b m = eligible_at b.variant.flags m

module _ (b : Given) where
  pub places_mem : (m : ℕ) → Memᴰ m (places_of b) → (m < b.shared.n) × (chosen b m ≡ true)
  unfolding places_of
  places_mem m i =
      let k = keep_mem (chosen b) (range 0 b.shared.n) m (sort_mem (lower (order b)) (keep (chosen b) (range 0 b.shared.n)) m i) in
      let r = range_mem 0 b.shared.n m k.0 in
      (omega arith, k.1)

  pub mem_places : (m : ℕ) → m < b.shared.n → chosen b m ≡ true → Memᴰ m (places_of b)
  unfolding places_of
  mem_places m h e =
      mem_sort (lower (order b)) (keep (chosen b) (range 0 b.shared.n)) m (mem_keep (chosen b) m (mem_range 0 b.shared.n m zero-le (omega arith)) e)

  pub places_rise : Sound b → Rising (lower (order b)) (places_of b)
  unfolding places_of
  places_rise s = sort_keys (order b) (pairs_kept (λ l m. order b l ≡ order b m → ⊥) (chosen b) 0 b.shared.n (λ l m u v p q. s.orders_apart l m u (omega arith) p q))

module _ {ρ : ℕ → ℕ} {a b : Given} (r : Renumbering a.shared.n ρ) (alike : Alike ρ a b) (sa : Sound a) (sb : Sound b) where
  chosen_same : (m : ℕ) → m < a.shared.n → chosen a m ≡ chosen b (ρ m)
  unfolding eligible_at
  chosen_same m h = ap eligible (alike.modules m h).flags

  pub places_same : places_of b ≡ map ρ (places_of a)
  places_same = keys_same (order b) (places_of b) (map ρ (places_of a)) (places_rise b sb) rises there back
    where
      order_same : (m : ℕ) → Memᴰ m (places_of a) → order a m ≡ order b (ρ m)
      order_same m i = (alike.modules m (places_mem a m i).0).order

      rises : Rising (lower (order b)) (map ρ (places_of a))
      rises =
          pairs_map (λ l m. lower (order a) l m ≡ true) (λ l m. lower (order b) l m ≡ true) ρ
          (λ l m i j e. sym (ap₂ ltb (order_same l i) (order_same m j)) ∙ e) (places_rise a sa)

      there : (m : ℕ) → Memᴰ m (places_of b) → Memᴰ m (map ρ (places_of a))
      there m i =
          let p = places_mem b m i in
          let o = hits a.shared.n ρ r.within r.apart m (subst (λ (k : ℕ). m < k) (sym alike.n) p.0) in
          let e : chosen a o.0 ≡ true = chosen_same o.0 o.1 ∙ ap (chosen b) o.2 ∙ p.1 in
          Memᴰ.cast (sym o.2) (Memᴰ.map ρ (mem_places a o.0 o.1 e))

      back : (m : ℕ) → Memᴰ m (map ρ (places_of a)) → Memᴰ m (places_of b)
      back m i =
          let o = Memᴰ.of_map ρ (places_of a) i in
          let p = places_mem a o.0 o.1 in
          let e : chosen b (ρ o.0) ≡ true = sym (chosen_same o.0 p.0) ∙ p.1 in
          Memᴰ.cast (sym o.2) (mem_places b (ρ o.0) (subst (λ (k : ℕ). ρ o.0 < k) alike.n (r.within o.0 p.0)) e)
