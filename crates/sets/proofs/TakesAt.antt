-- The test for a module that takes part against that of the definition for its place, and the name that it takes part with.
use Prim.Native.Nat.{ℕ, ◌+◌, ◌-◌, ◌*◌, ◌<◌}
use mathlib.Core.Bool.{Bool, true, false, ◌&&◌, and-true, and-false, true≢false}
use mathlib.Core.Path.{◌≡◌, refl, sym, ap, ◌∙◌}
use native.Mathlib.Omega.{arith}
use borrow.Author.Tests.{eqb-true, eqb-false, leb-true, le-leb}
use lib.Dec.{eqb, leb}
use lib.ListN.{length, get_or, drop}
use lib.Seq.{get_or-take, get_or-drop}
use Rattle.lists.proofs.Map.{get_or_map_below}
use Rattle.lists.proofs.Position.{get_or_mem}
use Rattle.filter.specs.Filter.{passes}
use Rattle.grouping.specs.Given.{Given, answer_of}
use Rattle.grouping.specs.Settings.{settings_of}
use Rattle.grouping.specs.Tree.{places_of, tree_of, member_at}
use Rattle.grouping.specs.Sets.{takes_part}
use Rattle.grouping_laws.proofs.AtPlaces.{tree_length, start_at_lem}
use Rattle.grouping_laws.proofs.Places.{places_mem}
use Rattle.settling.specs.Modules.{module_at}
use Rattle.matching.specs.Matched.{takes, takes_module, name_of}
use Rattle.sets.specs.OfBuild.{answers_of, matching_of}

-- an answer is 2 and a name just where it is at least 2 and the name is what is left
answer_test : (a name : ℕ) (t : Bool) → (eqb a (2 + name) && t) ≡ ((leb 2 a && t) && eqb (a - 2) name)
answer_test a name t = go (eqb a (2 + name)) (leb 2 a) (eqb (a - 2) name) refl refl refl
  where
    go : (x y z : Bool) → eqb a (2 + name) ≡ x → leb 2 a ≡ y → eqb (a - 2) name ≡ z → (x && t) ≡ ((y && t) && z)
    go true true true p q r = sym (and-true t)
    go true true false p q r = absurd (let e = eqb-true a (2 + name) p in eqb-false (a - 2) name r (omega arith))
    go true false z p q r = absurd (let e = eqb-true a (2 + name) p in true≢false (sym (le-leb 2 a (omega arith)) ∙ q))
    go false true true p q r = absurd (eqb-false a (2 + name) p (omega (arith, leb-true 2 a q, eqb-true (a - 2) name r)))
    go false true false p q r = sym (and-false t)
    go false false z p q r = refl

module _ (b : Given) (g : ℕ) where
  -- the answer for a module in the group's row
  pub answer_at : (m : ℕ) → m < b.shared.n → get_or (answers_of b g) m 0 ≡ answer_of b g m
  answer_at m l =
      get_or-take b.shared.n (drop (g * b.shared.n) b.variant.answers) m 0 l ∙ get_or-drop (g * b.shared.n) b.variant.answers m 0

  module _ (h : g < b.variant.g) (p : ℕ) (u : p < length (places_of b)) where
    -- the place takes part with a name: the module there takes part, and this is its name
    pub takes_at_lem : (name : ℕ) → takes_part (settings_of b g) g name (member_at (tree_of b) p)
        ≡ (takes_module (matching_of b g) (module_at b p) && eqb (name_of (matching_of b g) (module_at b p)) name)
    unfolding takes_module takes
    takes_at_lem name =
        let m = module_at b p in
        let t = passes (settings_of b g).filter (get_or b.shared.tags m 0) (get_or b.shared.sizes m 0) (get_or b.shared.shares m 0) in
        let below : m < b.shared.n = (places_mem b m (get_or_mem (places_of b) p 0 u)).0 in
        sym (get_or_map_below (takes_part (settings_of b g) g name) (tree_of b) p false _ (omega (arith, tree_length b)))
        ∙ start_at_lem b g name p h u
        ∙ answer_test (answer_of b g m) name t
        ∙ ap (λ (a : ℕ). (leb 2 a && t) && eqb (a - 2) name) (sym (answer_at m below))
