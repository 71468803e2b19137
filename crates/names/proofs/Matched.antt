-- The numbers of the matched modules of a group: each holds a place of the build and a name below the count of names.
use Prim.Native.Nat.{ℕ, ◌+◌, ◌-◌, ◌*◌, ◌≤◌, ◌<◌}
use mathlib.Core.Bool.{true}
use mathlib.Core.List.Memᴰ
use mathlib.Core.List.{Memᴰ}
use mathlib.Core.Path.{◌≡◌, subst}
use native.Mathlib.Nat.{suc-mul, mul-le-mul_right}
use native.Mathlib.Omega.{arith}
use borrow.Author.Tests.{leb-true, leb-false}
use lib.Dec.{leb, ltb}
use lib.ListN.{length, get_or}
use Rattle.lists.specs.Packed.{packed, key_of, item_of}
use Rattle.lists.specs.Range.{range}
use Rattle.lists.proofs.Below.{both, none_of}
use Rattle.lists.proofs.Members.{keep_mem}
use Rattle.lists.proofs.Position.{get_or_mem}
use Rattle.lists.proofs.Sort.{sort_mem}
use Rattle.lists.proofs.Rearranged.{sort_length}
use Rattle.grouping.specs.Given.{Given, answer_of}
use Rattle.grouping.specs.Tree.{places_of}
use Rattle.grouping.specs.Conditions.{bad_answer}
use Rattle.grouping_laws.proofs.Places.{places_mem}
use Rattle.settling.specs.Modules.{Passed, module_at}
use Rattle.matching.specs.Matched.{takes, takes_module, name_of, key_at, taking_part, keys_of}
use Rattle.matching.proofs.MatchedKeys.{taking_in, keys_few}
use Rattle.sets.specs.OfBuild.{matching_of, answers_of, matched_of}
use Rattle.sets.proofs.FromPassed.{places_few}
use Rattle.sets.proofs.TakesAt.{answer_at}

module _ (b : Given) (ok : Passed b) (g : ℕ) (h : g < b.variant.g) where
  abbrev name_at : ℕ → ℕ
  name_at p = name_of (matching_of b g) (module_at b p)

  -- no more than there are places
  pub matched_few : length (matched_of b g) ≤ length (places_of b)
  unfolding matched_of
  matched_few = omega (arith, sort_length ltb (keys_of (matching_of b g) (places_of b)), keys_few (matching_of b g) (places_of b))

  -- a number is the name and the place of a module that takes part
  held : (x : ℕ) → Memᴰ x (matched_of b g)
      → (p : ℕ) × (p < length (places_of b)) × (takes_module (matching_of b g) (module_at b p) ≡ true) × (packed (name_at p) p ≡ x)
  unfolding matched_of keys_of key_at taking_part
  held x m =
      let key = sort_mem ltb (keys_of (matching_of b g) (places_of b)) x m in
      let o = Memᴰ.of_map (key_at (matching_of b g) (places_of b)) (taking_part (matching_of b g) (places_of b)) key in (
        o.0,
        taking_in (matching_of b g) (places_of b) o.0 o.1,
        (keep_mem (λ p. takes_module (matching_of b g) (module_at b p)) (range 0 (length (places_of b))) o.0 o.1).1,
        o.2,
      )

  pub matched_place : (x : ℕ) → Memᴰ x (matched_of b g) → item_of x < length (places_of b)
  matched_place x m =
      let o = held x m in
      let u : item_of (packed (name_at o.0) o.0) < length (places_of b) = omega (arith, places_few b ok, o.1) in
      subst (λ (v : ℕ). item_of v < length (places_of b)) o.3 u

  -- an answer is below the count of names plus 2
  answer_small : (m : ℕ) → m < b.shared.n → answer_of b g m < b.shared.k + 2
  unfolding bad_answer
  answer_small m u =
      let n = b.shared.n in
      let i : g * n + m < b.variant.g * n = omega (arith, suc-mul g n, mul-le-mul_right n h) in
      leb-false (b.shared.k + 2) (answer_of b g m)
      (none_of (λ i. leb (b.shared.k + 2) (get_or b.variant.answers i 0)) (b.variant.g * n) ok.answers (g * n + m) i)

  name_small : (p : ℕ) → p < length (places_of b) → takes_module (matching_of b g) (module_at b p) ≡ true → name_at p < b.shared.k
  unfolding takes_module takes
  name_small p u e =
      let m = module_at b p in
      let below : m < b.shared.n = (places_mem b m (get_or_mem (places_of b) p 0 u)).0 in
      let two = leb-true 2 (get_or (answers_of b g) m 0) (both (leb 2 (get_or (answers_of b g) m 0)) _ e).0 in
      omega (arith, two, answer_at b g m below, answer_small m below)

  pub matched_name : (x : ℕ) → Memᴰ x (matched_of b g) → key_of x < b.shared.k
  matched_name x m =
      let o = held x m in
      let u : key_of (packed (name_at o.0) o.0) < b.shared.k = omega (arith, places_few b ok, o.1, name_small o.0 o.1 o.2) in
      subst (λ (v : ℕ). key_of v < b.shared.k) o.3 u
