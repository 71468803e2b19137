-- The modules at places of a build that passed the tests: what the tree has at a place is what the tables have for the module there.
use Prim.Native.Nat.{ℕ, ◌^◌, ◌≤◌, ◌<◌}
use mathlib.Core.Bool.{true}
use mathlib.Core.List.Memᴰ
use mathlib.Core.List.{List, [], ◌∷◌, map, map-map, Memᴰ}
use mathlib.Core.Path.{◌≡◌, refl, sym, ap, ap₂, ◌∙◌, subst}
use native.Mathlib.Omega.{arith}
use lib.ListN.{length, get_or}
use Rattle.lists.specs.Keep.{keep}
use Rattle.lists.specs.Range.{range}
use Rattle.lists.specs.Sum.{sum}
use Rattle.lists.proofs.Distinct.{Distinct}
use Rattle.lists.proofs.Members.{map_same, mem_range, mem_keep}
use Rattle.lists.proofs.Pairs.{pairs_at}
use Rattle.lists.proofs.Position.{get_or_mem}
use Rattle.lists.proofs.Sort.{pairs_map}
use Rattle.whole.specs.Double.{sum_f64}
use Rattle.bitset.specs.Entries.{union_of, row_of}
use Rattle.ids.specs.Parts.{id_at}
use Rattle.cut.specs.Order.{sizes_in}
use Rattle.options.specs.declared.Settings.{Settings}
use Rattle.grouping.specs.Given.{Given, is_listed}
use Rattle.grouping.specs.Tree.{Member, places_of, member_of, tree_of, member_at}
use Rattle.grouping.specs.Sizes.{item_size}
use Rattle.grouping.specs.ChunkList.{union_at}
use Rattle.grouping_laws.proofs.Accepted.{eligible_listed}
use Rattle.grouping_laws.proofs.AtPlaces.{member_at_lem}
use Rattle.grouping_laws.proofs.Places.{places_mem}
use Rattle.grouping_laws.proofs.SetPlaces.{Placed}
use Rattle.settling.specs.Modules.{Passed, module_at, modules_at}
use Rattle.settling.proofs.SideSize.{Exact}
use Rattle.emitting.specs.Emitted.{union_of_modules}
use Rattle.linking.proofs.ChunkModules.{places_distinct}
use Rattle.running.proofs.Tests.{total_exact, passed_sound}
use Rattle.running.proofs.SumWithin.{sum_within}

-- each of the places is one of the build
abbrev pub Within : Given → List ℕ → Type 0
Within b places = (p : ℕ) → Memᴰ p places → p < length (places_of b)

module _ (b : Given) where
  -- ---- one place

  module _ (p : ℕ) (h : p < length (places_of b)) where
    pub id_at_lem : (member_at (tree_of b) p).id ≡ id_at b.shared.bytes b.shared.offsets (module_at b p)
    unfolding member_of
    id_at_lem = ap (λ (m : Member). m.id) (member_at_lem b p h)

    pub size_at : (member_at (tree_of b) p).size ≡ get_or b.shared.sizes (module_at b p) 0
    unfolding member_of
    size_at = ap (λ (m : Member). m.size) (member_at_lem b p h)

    pub bits_at : (member_at (tree_of b) p).bits ≡ row_of b.shared.bits (module_at b p)
    unfolding member_of
    bits_at = ap (λ (m : Member). m.bits) (member_at_lem b p h)

    pub module_below : module_at b p < b.shared.n
    module_below = (places_mem b (module_at b p) (get_or_mem (places_of b) p 0 h)).0

    pub module_listed : is_listed b (module_at b p) ≡ true
    module_listed = eligible_listed b (module_at b p) (places_mem b (module_at b p) (get_or_mem (places_of b) p 0 h)).1

  -- ---- some places

  pub modules_below : (places : List ℕ) → Within b places → (m : ℕ) → Memᴰ m (modules_at b places) → m < b.shared.n
  modules_below places h m i =
      let o = Memᴰ.of_map (module_at b) places i in
      subst (λ (x : ℕ). x < b.shared.n) o.2 (module_below o.0 (h o.0 o.1))

  sizes_at_lem : (places : List ℕ) → Within b places
      → sizes_in b.shared.sizes (modules_at b places) ≡ map (λ p. (member_at (tree_of b) p).size) places
  sizes_at_lem places h =
      map-map (λ m. get_or b.shared.sizes m 0) (module_at b) places
      ∙ map_same (λ p. get_or b.shared.sizes (module_at b p) 0) (λ p. (member_at (tree_of b) p).size) places (λ p i. sym (size_at p (h p i)))

  pub size_of_modules : (r : Settings) (places : List ℕ) → Within b places
      → sum_f64 (sizes_in b.shared.sizes (modules_at b places)) ≡ item_size r (tree_of b) places
  unfolding item_size
  size_of_modules r places h = ap sum_f64 (sizes_at_lem places h)

  pub union_of_modules_lem : (places : List ℕ) → Within b places → union_of_modules b.shared.bits (modules_at b places) ≡ union_at (tree_of b) places
  unfolding union_of_modules union_at
  union_of_modules_lem [] h = refl
  union_of_modules_lem (p ∷ places) h =
      ap₂ union_of (sym (bits_at p (h p (Memᴰ.head refl)))) (union_of_modules_lem places (λ q i. h q (Memᴰ.tail i)))

  module _ (passed : Passed b) where
    pub modules_distinct : (places : List ℕ) → Placed (length (places_of b)) places → Distinct (modules_at b places)
    modules_distinct places h =
        pairs_map (λ p q. p < q) (λ l m. l ≡ m → ⊥) (module_at b)
        (λ p q i j u. pairs_at (places_distinct b (passed_sound b passed)) p q 0 u (h.below q j)) h.ascend

    -- sizes of modules at places add exactly
    pub modules_exact : (places : List ℕ) → Placed (length (places_of b)) places → sum (sizes_in b.shared.sizes (modules_at b places)) ≤ 2 ^ 53
    modules_exact places h =
        let all : List ℕ = keep (is_listed b) (range 0 b.shared.n) in
        let size : ℕ → ℕ = λ m. get_or b.shared.sizes m 0 in
        omega (arith, total_exact b passed, sum_within size all (modules_distinct places h) listed)
      where
        listed : (m : ℕ) → Memᴰ m (modules_at b places) → Memᴰ m (keep (is_listed b) (range 0 b.shared.n))
        listed m i =
            let o = Memᴰ.of_map (module_at b) places i in
            let in-range = mem_range 0 b.shared.n m (omega arith) (omega (arith, modules_below places h.below m i)) in
            mem_keep (is_listed b) m in-range (subst (λ (x : ℕ). is_listed b x ≡ true) o.2 (module_listed o.0 (h.below o.0 o.1)))

    pub places_exact : (r : Settings) (places : List ℕ) → Placed (length (places_of b)) places → Exact r (tree_of b) places
    places_exact r places h = omega (arith, modules_exact places h, ap sum (sizes_at_lem places h.below))
