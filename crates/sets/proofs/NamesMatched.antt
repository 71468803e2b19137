-- The names of the modules that take part are the names with a set, ascending, and the run of a name is the places that take part with it.
use Prim.Native.Nat.{ℕ, zero, suc, ◌<◌, suc-le-suc}
use mathlib.Core.Bool.{Bool, true, false, ◌&&◌, ◌||◌, or-true, false≢true}
use mathlib.Core.List.Memᴰ
use mathlib.Core.List.{List, [], ◌∷◌, map, map-map, Memᴰ}
use mathlib.Core.Path.{◌≡◌, refl, sym, ap, ap₂, ◌∙◌, subst}
use native.Mathlib.Nat.{zero-lt-suc, le_of_suc-le-suc, not-suc-le-zero}
use native.Mathlib.Omega.{arith}
use borrow.Author.Tests.{eqb-true, eq-eqb}
use lib.Dec.{eqb, ltb}
use lib.ListN.{length}
use Rattle.lists.specs.Elem.{elem}
use Rattle.lists.specs.Keep.{keep}
use Rattle.lists.specs.Keys.{keys_in}
use Rattle.lists.specs.Packed.{key_of, item_of}
use Rattle.lists.specs.Range.{range}
use Rattle.lists.specs.Sort.{sort_by}
use Rattle.lists.proofs.Below.{both, same_truth}
use Rattle.lists.proofs.Elem.{elem_mem, mem_elem}
use Rattle.lists.proofs.KeepTests.{keep_keep, keep_same}
use Rattle.lists.proofs.Members.{keep_mem, mem_keep, range_mem, mem_range}
use Rattle.lists.proofs.Packed.{packed_keys, packed_items}
use Rattle.lists.proofs.Sort.{Pairs, pairs_kept}
use Rattle.lists.proofs.Sorted.{sorted_fixed}
use Rattle.lists.proofs.SortNumbers.{kept_sorted}
use Rattle.options.specs.declared.Settings.{Settings}
use Rattle.grouping.specs.Given.{Given}
use Rattle.grouping.specs.Settings.{settings_of}
use Rattle.grouping.specs.Tree.{Tree, places_of, tree_of, member_at}
use Rattle.grouping.specs.Sets.{takes_part, named}
use Rattle.grouping_laws.proofs.AtPlaces.{tree_length}
use Rattle.settling.specs.Modules.{Passed, module_at, modules_at}
use Rattle.settling.specs.Traversal.{names_of}
use Rattle.matching.specs.Matched.{takes_module, name_of, key_at, taking_part, keys_of}
use Rattle.matching.proofs.MatchedKeys.{taking_in}
use Rattle.sets.specs.Built.{starts_of}
use Rattle.sets.specs.OfBuild.{matching_of, matched_of, run_of, taking_places}
use Rattle.sets.proofs.FromPassed.{places_few}
use Rattle.sets.proofs.TakesAt.{takes_at_lem}

-- a name has a set where some place takes part with it
module _ (r : Settings) (g name : ℕ) where
  named_some : (tree : Tree) → named r g tree name ≡ true → (p : ℕ) × (p < length tree) × (takes_part r g name (member_at tree p) ≡ true)
  unfolding named
  named_some [] e = absurd (false≢true e)
  named_some (m ∷ tree) e = go (takes_part r g name m) refl e (named_some tree)
    where
      go : (t : Bool) → takes_part r g name m ≡ t → (t || named r g tree name) ≡ true
          → (named r g tree name ≡ true → (p : ℕ) × (p < length tree) × (takes_part r g name (member_at tree p) ≡ true))
          → (p : ℕ) × (p < suc (length tree)) × (takes_part r g name (member_at (m ∷ tree) p) ≡ true)
      go true q f rest = (zero, zero-lt-suc (length tree), q)
      go false q f rest = let s = rest f in (suc s.0, suc-le-suc s.1, s.2)

  some_named : (tree : Tree) (p : ℕ) → p < length tree → takes_part r g name (member_at tree p) ≡ true → named r g tree name ≡ true
  unfolding named
  some_named [] p h e = absurd (not-suc-le-zero h)
  some_named (m ∷ tree) zero h e = ap (λ (t : Bool). t || named r g tree name) e
  some_named (m ∷ tree) (suc p) h e = ap (λ (t : Bool). takes_part r g name m || t) (some_named tree p (le_of_suc-le-suc h) e) ∙ or-true (takes_part r g name m)

module _ (b : Given) (ok : Passed b) (g : ℕ) (h : g < b.variant.g) where
  -- the name of the module at a place
  abbrev name_at : ℕ → ℕ
  name_at p = name_of (matching_of b g) (module_at b p)

  abbrev takes_at : ℕ → Bool
  takes_at p = takes_module (matching_of b g) (module_at b p)

  abbrev items : List ℕ
  items = taking_part (matching_of b g) (places_of b)

  small : (p : ℕ) → Memᴰ p items → p < 4096
  small p m = omega (arith, places_few b ok, taking_in (matching_of b g) (places_of b) p m)

  name_met : (name : ℕ) → elem name (map name_at items) ≡ named (settings_of b g) g (tree_of b) name
  unfolding taking_part
  name_met name = same_truth (elem name (map name_at items)) (named (settings_of b g) g (tree_of b) name) there back
    where
      there : elem name (map name_at items) ≡ true → named (settings_of b g) g (tree_of b) name ≡ true
      there e =
          let o = Memᴰ.of_map name_at items (elem_mem name (map name_at items) e) in
          let u = taking_in (matching_of b g) (places_of b) o.0 o.1 in
          let t = (keep_mem takes_at (range 0 (length (places_of b))) o.0 o.1).1 in
          some_named (settings_of b g) g name (tree_of b) o.0 (omega (arith, tree_length b))
          (takes_at_lem b g h o.0 u name ∙ ap₂ ◌&&◌ t (eq-eqb (name_at o.0) name o.2))

      back : named (settings_of b g) g (tree_of b) name ≡ true → elem name (map name_at items) ≡ true
      back e =
          let o = named_some (settings_of b g) g name (tree_of b) e in
          let u : o.0 < length (places_of b) = omega (arith, tree_length b, o.1) in
          let t = both (takes_at o.0) (eqb (name_at o.0) name) (sym (takes_at_lem b g h o.0 u name) ∙ o.2) in
          let m = mem_keep takes_at o.0 (mem_range 0 (length (places_of b)) o.0 (omega arith) (omega arith)) t.0 in
          mem_elem name (Memᴰ.cast (sym (eqb-true (name_at o.0) name t.1)) (Memᴰ.map name_at m))

  -- a loop over the runs meets the names with a set
  pub names_matched : (k : ℕ) → keys_in key_of k (matched_of b g) ≡ names_of k (settings_of b g) g (tree_of b)
  unfolding matched_of keys_of key_at names_of keys_in
  names_matched k =
      packed_keys name_at items small k
      ∙ keep_same (λ name. elem name (map name_at items)) (named (settings_of b g) g (tree_of b)) (range 0 k) (λ name m. name_met name)

  -- the places of the run of a name
  run_places : (name : ℕ) → map item_of (run_of b g name) ≡ taking_places b g name
  unfolding run_of matched_of keys_of key_at taking_places taking_part
  run_places name =
      let part : ℕ → Bool = λ p. takes_part (settings_of b g) g name (member_at (tree_of b) p) in
      packed_items name_at items small name
      ∙ ap (sort_by ltb) kept
      ∙ sorted_fixed ltb (kept_sorted part 0 (length (places_of b)))
    where
      kept : keep (λ p. eqb (name_at p) name) items ≡ keep (λ p. takes_part (settings_of b g) g name (member_at (tree_of b) p)) (range 0 (length (places_of b)))
      kept =
          keep_keep (λ p. eqb (name_at p) name) takes_at (range 0 (length (places_of b)))
          ∙ keep_same (λ p. takes_at p && eqb (name_at p) name) (λ p. takes_part (settings_of b g) g name (member_at (tree_of b) p)) (range 0 (length (places_of b)))
          (λ p m. let r = range_mem 0 (length (places_of b)) p m in sym (takes_at_lem b g h p (omega arith) name))

  -- they rise
  pub run_rises : (name : ℕ) → Pairs ◌<◌ (map item_of (run_of b g name))
  unfolding taking_places
  run_rises name =
      subst (Pairs ◌<◌) (sym (run_places name))
      (pairs_kept ◌<◌ (λ p. takes_part (settings_of b g) g name (member_at (tree_of b) p)) 0 (length (places_of b)) (λ x y l u e f. l))

  -- the modules of the run of a name
  pub run_starts : (name : ℕ) → starts_of (places_of b) (run_of b g name) ≡ modules_at b (taking_places b g name)
  run_starts name = sym (map-map (module_at b) item_of (run_of b g name)) ∙ ap (map (module_at b)) (run_places name)
