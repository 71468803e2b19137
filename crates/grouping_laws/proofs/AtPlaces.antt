-- What the tree of a build has at a place is what is handed in for the module there: its edges, and whether it takes part in a set.
use Prim.Native.Nat.{ℕ, ◌+◌, ◌<◌}
use mathlib.Core.Bool.{false, ◌&&◌}
use mathlib.Core.List.{map}
use mathlib.Core.Path.{◌≡◌, ap, ◌∙◌}
use native.Mathlib.Nat.{zero-add}
use native.Mathlib.Omega.{arith}
use lib.Dec.{eqb}
use lib.ListN.{length, get_or, length-map}
use Rattle.lists.specs.Elem.{elem}
use Rattle.lists.specs.Range.{range}
use Rattle.lists.proofs.Map.{get_or_map_below}
use Rattle.lists.proofs.Range.{length_range, get_or_range}
use Rattle.filter.specs.Filter.{passes}
use Rattle.grouping.specs.Given.{Given, answer_of}
use Rattle.grouping.specs.Settings.{settings_of}
use Rattle.grouping.specs.Tree.{Member, places_of, member_of, tree_of, member_at}
use Rattle.grouping.specs.Sets.{takes_part}
use Rattle.grouping.specs.Tree.{named_by}

module _ (b : Given) where
  -- the module at a place
  abbrev pub module_at : ℕ → ℕ
  module_at p = get_or (places_of b) p 0

  pub tree_length : length (tree_of b) ≡ length (places_of b)
  unfolding tree_of
  tree_length = length-map (places_of b) (member_of b (places_of b))

  pub member_at_lem : (p : ℕ) → p < length (places_of b) → member_at (tree_of b) p ≡ member_of b (places_of b) (module_at p)
  unfolding tree_of
  member_at_lem p h = get_or_map_below (member_of b (places_of b)) (places_of b) p _ 0 h

  pub edge_at : (p q : ℕ) → p < length (places_of b) → q < length (places_of b)
      → get_or (member_at (tree_of b) p).edges q false ≡ elem (module_at q) (named_by b (module_at p))
  unfolding member_of
  edge_at p q u v =
      ap (λ (m : Member). get_or m.edges q false) (member_at_lem p u)
      ∙ get_or_map_below (λ k. elem k (named_by b (module_at p))) (places_of b) q false 0 v

  part_at : (g name m : ℕ) → g < b.variant.g
      → takes_part (settings_of b g) g name (member_of b (places_of b) m)
      ≡ (eqb (answer_of b g m) (2 + name) && passes (settings_of b g).filter (get_or b.shared.tags m 0) (get_or b.shared.sizes m 0) (get_or b.shared.shares m 0))
  unfolding takes_part member_of
  part_at g name m h =
      let e : get_or (map (λ k. answer_of b k m) (range 0 b.variant.g)) g 0 ≡ answer_of b g m =
      get_or_map_below (λ k. answer_of b k m) (range 0 b.variant.g) g 0 0 (omega (arith, length_range 0 b.variant.g))
      ∙ ap (λ (k : ℕ). answer_of b k m) (get_or_range 0 b.variant.g g 0 h ∙ zero-add g) in
      ap (λ (a : ℕ). eqb a (2 + name) && passes (settings_of b g).filter (get_or b.shared.tags m 0) (get_or b.shared.sizes m 0) (get_or b.shared.shares m 0)) e

  pub start_at_lem : (g name p : ℕ) → g < b.variant.g → p < length (places_of b)
      → get_or (map (takes_part (settings_of b g) g name) (tree_of b)) p false
      ≡ (eqb (answer_of b g (module_at p)) (2 + name)
      && passes (settings_of b g).filter (get_or b.shared.tags (module_at p) 0) (get_or b.shared.sizes (module_at p) 0) (get_or b.shared.shares (module_at p) 0))
  start_at_lem g name p h u =
      get_or_map_below (takes_part (settings_of b g) g name) (tree_of b) p false _ (omega (arith, tree_length))
      ∙ ap (takes_part (settings_of b g) g name) (member_at_lem p u)
      ∙ part_at g name (module_at p) h
