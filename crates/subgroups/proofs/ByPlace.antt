-- A build's set by place and by module: what stands at a place is what the tables have for the module there, so that the kinds and their merge
-- are those of the definition.
use Rattle.std.proofs.Common.{◌≡◌, ℕ, suc, ◌+◌, ◌^◌, ◌<◌, ◌≤◌, List, [], ◌∷◌, map, length, get_or, sym, refl, ap, ◌∙◌, ap₂, add-zero, zero-add, arith}
use mathlib.Core.List.{map-map, Memᴰ}
use lib.ListN.{length-map}
use Rattle.lists.specs.Keep.{keep}
use Rattle.lists.specs.Range.{range}
use Rattle.lists.specs.Sum.{sum}
use Rattle.lists.proofs.KeepTests.{keep_same, keep_map}
use Rattle.lists.proofs.Map.{get_or_map_below}
use Rattle.lists.proofs.Members.{map_same, keep_mem}
use Rattle.lists.proofs.Range.{map_range}
use Rattle.lists.proofs.Sum.{keep_sum}
use Rattle.whole.specs.Double.{to_f64, sum_f64}
use Rattle.whole.proofs.Exact.{sum_exact}
use Rattle.bitset.specs.Entries.{empty, row_of}
use Rattle.bitset.specs.declared.entries.BitSet.{BitSet}
use Rattle.joins.specs.Subgroup.{Subgroup}
use Rattle.merge.specs.Merge.{merged}
use Rattle.options.specs.declared.Settings.{Settings}
use Rattle.grouping.specs.Given.{Given}
use Rattle.grouping.specs.Tree.{Member, Tree, places_of, member_of, tree_of, member_at}
use Rattle.grouping.specs.Sizes.{sizes_at, item_size}
use Rattle.grouping.specs.Subgroups.{same_bits, kinds_of, places_of_kind, subgroups_from, merged_subgroups, kinds_at}
use Rattle.settling.specs.Modules.{module_at, modules_at}
use Rattle.subgroups.specs.Kinds.{kinds_in, sizes_of, size_of_kind}
use Rattle.subgroups.specs.Merged.{subgroup_of_kind, merged_kinds}

-- the subgroups numbered from i, where f gives the kind of each number
from_kinds : (r : Settings) (tree : Tree) (places : List ℕ) (f : ℕ → BitSet) (i : ℕ) (kinds : List BitSet)
    → ((j : ℕ) → j < length kinds → get_or kinds j empty ≡ f (i + j))
    → subgroups_from i r tree places kinds
    ≡ map {B = Subgroup} (λ j. record { number = j; size = item_size r tree (places_of_kind tree places (f j)); bits = f j }) (range i (length kinds))
unfolding subgroups_from range
from_kinds r tree places f i [] h = refl
from_kinds r tree places f i (kind ∷ kinds) h =
    let e : kind ≡ f i = h 0 (omega arith) ∙ ap f (add-zero i) in
    ap₂ {C = List Subgroup} (λ (k : BitSet) (l : List Subgroup). record { number = i; size = item_size r tree (places_of_kind tree places k); bits = k } ∷ l) e
    (from_kinds r tree places f (suc i) kinds (λ j l. h (suc j) (omega arith) ∙ ap f (omega arith)))

module _ (b : Given) (places : List ℕ) (inside : (p : ℕ) → Memᴰ p places → p < length (places_of b)) where
  abbrev tree : Tree
  tree = tree_of b

  abbrev set : List ℕ
  set = modules_at b places

  abbrev bits : List ℕ
  bits = b.shared.bits

  abbrev sizes : List ℕ
  sizes = b.shared.sizes

  member_at_lem : (p : ℕ) → Memᴰ p places → member_at tree p ≡ member_of b (places_of b) (module_at b p)
  unfolding tree_of
  member_at_lem p m = get_or_map_below (member_of b (places_of b)) (places_of b) p _ 0 (inside p m)

  pub bits_at : (p : ℕ) → Memᴰ p places → (member_at tree p).bits ≡ row_of bits (module_at b p)
  unfolding member_of
  bits_at p m = ap (λ (x : Member). x.bits) (member_at_lem p m)

  size_at : (p : ℕ) → Memᴰ p places → (member_at tree p).size ≡ get_or sizes (module_at b p) 0
  unfolding member_of
  size_at p m = ap (λ (x : Member). x.size) (member_at_lem p m)

  pub kinds_are : kinds_in bits set ≡ kinds_at tree places
  kinds_are =
      ap₂ kinds_of (length-map places (module_at b))
      (map-map (row_of bits) (module_at b) places ∙ map_same (λ p. row_of bits (module_at b p)) (λ p. (member_at tree p).bits) places (λ p m. sym (bits_at p m)))

  -- the modules of a kind stand at the places of the kind
  kind_modules : (kind : BitSet) → keep (λ m. same_bits kind (row_of bits m)) set ≡ modules_at b (places_of_kind tree places kind)
  unfolding places_of_kind
  kind_modules kind =
      keep_map (λ m. same_bits kind (row_of bits m)) (module_at b) places
      ∙ ap (map (module_at b)) (keep_same (λ p. same_bits kind (row_of bits (module_at b p))) (λ p. same_bits kind (member_at tree p).bits) places
      (λ p m. ap (same_bits kind) (sym (bits_at p m))))

  module _ (r : Settings) (exact : sum (sizes_of sizes set) ≤ 2 ^ 53) where
    kind_sizes : (kind : BitSet) → sizes_of sizes (keep (λ m. same_bits kind (row_of bits m)) set) ≡ sizes_at r tree (places_of_kind tree places kind)
    unfolding places_of_kind
    kind_sizes kind =
        let mine = keep (λ p. same_bits kind (member_at tree p).bits) places in
        ap (map (λ m. get_or sizes m 0)) (kind_modules kind)
        ∙ map-map (λ m. get_or sizes m 0) (module_at b) mine
        ∙ map_same (λ p. get_or sizes (module_at b p) 0) (λ p. (member_at tree p).size) mine
        (λ p m. sym (size_at p (keep_mem (λ p. same_bits kind (member_at tree p).bits) places p m).0))

    kind_size : (kind : BitSet) → to_f64 (size_of_kind bits sizes set kind) ≡ item_size r tree (places_of_kind tree places kind)
    unfolding size_of_kind item_size
    kind_size kind =
        let mine = sizes_of sizes (keep (λ m. same_bits kind (row_of bits m)) set) in
        sym (sum_exact mine (omega (arith, keep_sum (λ m. get_or sizes m 0) (λ m. same_bits kind (row_of bits m)) set)))
        ∙ ap sum_f64 (kind_sizes kind)

    -- the merge of the set's kinds is that of the definition
    pub merged_is : merged_kinds bits sizes set r.threshold ≡ merged_subgroups r tree places (kinds_at tree places)
    unfolding merged_kinds merged_subgroups
    merged_is =
        let kinds = kinds_in bits set in
        let f : ℕ → BitSet = λ i. get_or kinds i empty in
        let same : map (subgroup_of_kind bits sizes set) (range 0 (length kinds)) ≡ subgroups_from 0 r tree places kinds =
        map_range (subgroup_of_kind bits sizes set) (λ j. record { number = j; size = item_size r tree (places_of_kind tree places (f j)); bits = f j })
        0 (length kinds)
        (λ i h. ap {B = Subgroup} (λ z. record { number = 0 + i; size = z; bits = f (0 + i) }) (kind_size (f (0 + i))))
        ∙ sym (from_kinds r tree places f 0 kinds (λ j h. ap f (sym (zero-add j)))) in
        ap (λ (l : List Subgroup). merged r.threshold (record { there = l; finals = range 0 (length kinds) })) same
        ∙ ap (λ (k : List BitSet). merged r.threshold (record { there = subgroups_from 0 r tree places k; finals = range 0 (length k) })) kinds_are
