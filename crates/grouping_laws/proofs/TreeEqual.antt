-- Builds that are alike have equal trees, and so equal chunk lists: what stands at a place is handed in for the module there, and an edge
-- depends only on the set of modules that a chain names.
use Prim.Native.Nat.{ℕ, ◌<◌}
use mathlib.Core.List.Memᴰ
use mathlib.Core.List.{List, map, map-map}
use mathlib.Core.Path.{◌≡◌, sym, ap, ◌∙◌}
use native.Mathlib.Omega.{arith}
use Rattle.lists.specs.Elem.{elem}
use Rattle.lists.specs.Range.{range}
use Rattle.lists.proofs.Elem.{elem_same}
use Rattle.lists.proofs.Members.{range_mem, map_same}
use Rattle.grouping.specs.Given.{Given, answer_of}
use Rattle.options.specs.Force.{settings_under}
use Rattle.grouping.specs.Settings.{settings_of, all_settings}
use Rattle.grouping.specs.Tree.{places_of, named_by, member_of, tree_of}
use Rattle.grouping.specs.ChunkList.{chunks_of, chunk_list}
use Rattle.grouping.specs.Renumbering.{Renumbering, Alike}
use Rattle.grouping_laws.proofs.Accepted.{Sound}
use Rattle.grouping_laws.proofs.Places.{places_mem, places_same}

module _ {ρ : ℕ → ℕ} {a b : Given} (r : Renumbering a.shared.n ρ) (alike : Alike ρ a b) (sa : Sound a) (sb : Sound b) where
  edge_same : (m q : ℕ) → m < a.shared.n → q < a.shared.n → elem q (named_by a m) ≡ elem (ρ q) (named_by b (ρ m))
  edge_same m q h g =
      elem_same q (ρ q) (named_by a m) (named_by b (ρ m)) ((alike.chains m h).there q)
      (λ i.
      let o = (alike.chains m h).back (ρ q) i in
      Memᴰ.cast (sym (r.apart o.0 q (sa.named_in m h o.0 o.1) g o.2)) o.1)

  edges_same : (m : ℕ) → m < a.shared.n → map (λ q. elem q (named_by a m)) (places_of a) ≡ map (λ q. elem q (named_by b (ρ m))) (map ρ (places_of a))
  edges_same m h =
      map_same (λ q. elem q (named_by a m)) (λ q. elem (ρ q) (named_by b (ρ m))) (places_of a) (λ q i. edge_same m q h (places_mem a q i).0)
      ∙ sym (map-map (λ q. elem q (named_by b (ρ m))) ρ (places_of a))

  answers_same : (m : ℕ) → m < a.shared.n → map (λ g. answer_of a g m) (range 0 a.variant.g) ≡ map (λ g. answer_of b g (ρ m)) (range 0 b.variant.g)
  answers_same m h =
      map_same (λ g. answer_of a g m) (λ g. answer_of b g (ρ m)) (range 0 a.variant.g)
      (λ g i. let w = range_mem 0 a.variant.g g i in (alike.modules m h).answers g (omega arith))
      ∙ ap (λ (k : ℕ). map (λ g. answer_of b g (ρ m)) (range 0 k)) alike.g

  member_same : (m : ℕ) → m < a.shared.n → member_of a (places_of a) m ≡ member_of b (map ρ (places_of a)) (ρ m)
  unfolding member_of
  member_same m h =
      let s = alike.modules m h in
      λ i. record {
        id = s.id i;
        size = s.size i;
        shares = s.shares i;
        tags = s.tags i;
        bits = s.bits i;
        answers = answers_same m h i;
        edges = edges_same m h i;
      }

  pub tree_same : tree_of a ≡ tree_of b
  unfolding tree_of
  tree_same =
      map_same (member_of a (places_of a)) (λ m. member_of b (map ρ (places_of a)) (ρ m)) (places_of a) (λ m i. member_same m (places_mem a m i).0)
      ∙ sym (map-map (member_of b (map ρ (places_of a))) ρ (places_of a))
      ∙ ap (λ (places : List ℕ). map (member_of b places) places) (sym (places_same r alike sa sb))

  group_same : (g : ℕ) → g < a.variant.g → settings_of a g ≡ settings_of b g
  unfolding settings_of
  group_same g h = λ i. settings_under (alike.options i) (alike.groups g h i)

  settings_same : all_settings a ≡ all_settings b
  unfolding all_settings
  settings_same =
      map_same (settings_of a) (settings_of b) (range 0 a.variant.g) (λ g i. let w = range_mem 0 a.variant.g g i in group_same g (omega arith))
      ∙ ap (λ (k : ℕ). map (settings_of b) (range 0 k)) alike.g

  pub chunks_same : chunk_list a ≡ chunk_list b
  unfolding chunk_list
  chunks_same = λ i. chunks_of (alike.k i) (settings_same i) (tree_same i)
