-- The set of a (group, name), which is computed by places, is what document 01 says of it by modules: the union of the captures of its
-- matched modules. A place stands for the module there, every eligible module stands at a place, and an edge is a name on a chain.
use Prim.Native.Nat.{ℕ, ◌+◌, ◌<◌}
use mathlib.Core.Bool.{Bool, true, false, ◌&&◌}
use mathlib.Core.List.Memᴰ
use mathlib.Core.List.{List, map, Memᴰ}
use mathlib.Core.Logic.{◌↔◌}
use mathlib.Core.Path.{◌≡◌, refl, sym, ap, ap₂, ◌∙◌, subst}
use native.Mathlib.Nat.{zero-add}
use native.Mathlib.Omega.{arith}
use borrow.Author.Tests.{eqb-true, eq-eqb}
use lib.Dec.{eqb}
use lib.ListN.{length, get_or, length-map}
use Rattle.lists.specs.Elem.{elem}
use Rattle.lists.proofs.Below.{both}
use Rattle.lists.proofs.Elem.{elem_mem, mem_elem}
use Rattle.lists.proofs.Position.{mem_get_or, get_or_mem}
use Rattle.refusal.specs.Outcome.{accepted}
use Rattle.filter.specs.Filter.{passes}
use Rattle.records.proofs.Table.{good, dependencies_in}
use Rattle.walk.specs.Reached.{Reached, start, further}
use Rattle.walk.specs.Names.{Eligible}
use Rattle.capture.specs.Capture as capture
use Rattle.grouping.specs.Given.{Given, Areas, answer_of}
use Rattle.grouping.specs.Settings.{settings_of}
use Rattle.grouping.specs.Tree.{places_of, tree_of}
use Rattle.grouping.specs.Sets.{takes_part, captured, set_of}
use Rattle.grouping.specs.Conditions.{bad_dependency}
use Rattle.grouping.specs.Call.{ChunksCall}
use Rattle.grouping.specs.Tree.{named_by}
use Rattle.grouping_laws.proofs.Accepted.{sound}
use Rattle.grouping_laws.proofs.Places.{places_mem, mem_places}
use Rattle.grouping_laws.proofs.SetPlaces.{set_placed}
use Rattle.grouping_laws.proofs.MarkedPlaces.{Marked, marked_mem, mem_marked}
use Rattle.grouping_laws.proofs.RoundsReach.{Edge, ReachedPlace, captured_reach}
use Rattle.grouping_laws.proofs.AtPlaces.{module_at, tree_length, edge_at, start_at_lem}

-- ---- what document 01 says, by modules

-- a capture from module m under the rules of group g
abbrev pub capture_from : Given → ℕ → ℕ → capture.Given
capture_from b g m =
    record { n = b.shared.n; d = b.shared.d; recursive = (settings_of b g).recursive; from = m; flags = b.variant.flags; first = b.shared.first; dependency = b.shared.dependency; next = b.shared.next }

-- "Each eligible module that matches, passes the filter and has a name": module m is one
pub record TakesPart (b : Given) (g name m : ℕ) : Type 0 where
  pub below : m < b.shared.n
  pub chosen : Eligible b.variant.flags m
  pub matched : answer_of b g m ≡ 2 + name
  pub passed : passes (settings_of b g).filter (get_or b.shared.tags m 0) (get_or b.shared.sizes m 0) (get_or b.shared.shares m 0) ≡ true

-- "puts its capture into the set of its (group, name)": module k is in the capture of one of them
abbrev pub InSet : Given → ℕ → ℕ → ℕ → Type 0
InSet b g name k = (m : ℕ) × TakesPart b g name m × capture.Captured (capture_from b g m) k

-- the set by places is the set by modules: a place is in it just where the module there is, and every module of it stands at a place
pub record SetIsUnion (b : Given) (g name : ℕ) : Type 0 where
  pub by_place : (p : ℕ) → p < length (places_of b) → Memᴰ p (set_of (settings_of b g) g (tree_of b) name) ↔ InSet b g name (get_or (places_of b) p 0)
  pub by_module : (k : ℕ) → Memᴰ k (map (λ p. get_or (places_of b) p 0) (set_of (settings_of b g) g (tree_of b) name)) ↔ InSet b g name k

-- ---- from places to modules and back

reached_eligible : {E S : ℕ → Type 0} {N : ℕ → ℕ → Type 0} {k : ℕ} → Reached E N S k → E k
reached_eligible (start s e) = e
reached_eligible (further r n e) = e

module _ (b : Given) (in-build : (m : ℕ) → m < b.shared.n → (k : ℕ) → Memᴰ k (named_by b m) → k < b.shared.n) (g : ℕ) (h : g < b.variant.g) (name : ℕ) where
  abbrev starts : List Bool
  starts = map (takes_part (settings_of b g) g name) (tree_of b)

  abbrev Place : ℕ → Type 0
  Place q = ReachedPlace (settings_of b g).recursive (tree_of b) starts q

  within : (q : ℕ) → q < length (tree_of b) → q < length (places_of b)
  within q l = omega (arith, tree_length b)

  outer : (q : ℕ) → q < length (places_of b) → q < length (tree_of b)
  outer q l = omega (arith, tree_length b)

  at_place : (q : ℕ) → q < length (places_of b) → (module_at b q < b.shared.n) × Eligible b.variant.flags (module_at b q)
  at_place q l = places_mem b (module_at b q) (get_or_mem (places_of b) q 0 l)

  to_modules : {q : ℕ} → Place q → InSet b g name (module_at b q)
  to_modules (start {m = q} s l) =
      let u = within q l in
      let m = module_at b q in
      let i = at_place q u in
      let t = both (eqb (answer_of b g m) (2 + name)) (passes (settings_of b g).filter (get_or b.shared.tags m 0) (get_or b.shared.sizes m 0) (get_or b.shared.shares m 0)) (sym (start_at_lem b g name q h u) ∙ s.1) in
      (m, record { below = i.0; chosen = i.1; matched = eqb-true (answer_of b g m) (2 + name) t.0; passed = t.1 }, start refl i.1)
  to_modules (further {m = p} {d = q} r e l) =
      let s = to_modules r in
      let names = elem_mem (module_at b q) (named_by b (module_at b p)) (sym (edge_at b p q (within p (reached_eligible r)) (within q l)) ∙ e.1) in
      (s.0, s.1, further s.2 (e.0, names) (at_place q (within q l)).1)

  -- a captured module is below n, and each place where it stands is reached
  to_places : {m k : ℕ} → TakesPart b g name m → capture.Captured (capture_from b g m) k
      → (k < b.shared.n) × ((q : ℕ) → q < length (places_of b) → module_at b q ≡ k → Place q)
  to_places {m} t (start {m = k} e c) = (subst (λ (x : ℕ). x < b.shared.n) (sym e) t.below, λ q u v. start (outer q u, marked q u (v ∙ e)) (outer q u))
    where
      marked : (q : ℕ) → q < length (places_of b) → module_at b q ≡ m → Marked starts q
      marked q u v =
          start_at_lem b g name q h u
          ∙ ap₂ ◌&&◌
          (eq-eqb (answer_of b g (module_at b q)) (2 + name) (ap (answer_of b g) v ∙ t.matched))
          (ap (λ (x : ℕ). passes (settings_of b g).filter (get_or b.shared.tags x 0) (get_or b.shared.sizes x 0) (get_or b.shared.shares x 0)) v ∙ t.passed)
  to_places t (further {m = k} {d} r n c) =
      let s = to_places t r in
      let o = mem_get_or 0 (mem_places b k s.0 (reached_eligible r)) in
      (in-build k s.0 d n.1, λ q u v. further (s.1 o.0 o.1 o.2) (n.0, edge o.0 q o.1 u o.2 v) (outer q u))
    where
      edge : (p q : ℕ) → p < length (places_of b) → q < length (places_of b) → module_at b p ≡ k → module_at b q ≡ d → Edge (tree_of b) p q
      edge p q u v e f = edge_at b p q u v ∙ ap₂ (λ (x y : ℕ). elem x (named_by b y)) f e ∙ mem_elem d n.1

  -- ---- the set

  set_marked : (p : ℕ) → Memᴰ p (set_of (settings_of b g) g (tree_of b) name) ↔ Marked (captured (settings_of b g).recursive (tree_of b) starts) p
  unfolding set_of
  set_marked p =
      let marks = captured (settings_of b g).recursive (tree_of b) starts in (
        λ i. let s = marked_mem 0 marks p i in subst (λ (x : ℕ). Marked marks x) (sym (zero-add s.0) ∙ s.1) s.2,
        λ e. Memᴰ.cast (sym (zero-add p)) (mem_marked 0 marks p e),
      )

  by_place : (p : ℕ) → p < length (places_of b) → Memᴰ p (set_of (settings_of b g) g (tree_of b) name) ↔ InSet b g name (module_at b p)
  by_place p l =
      let reach = captured_reach (tree_of b) starts (length-map (tree_of b) (takes_part (settings_of b g) g name)) (settings_of b g).recursive p in
      (λ i. to_modules (reach.0 ((set_marked p).0 i)), λ s. (set_marked p).1 (reach.1 ((to_places s.1 s.2).1 p l refl)))

  by_module : (k : ℕ) → Memᴰ k (map (module_at b) (set_of (settings_of b g) g (tree_of b) name)) ↔ InSet b g name k
  by_module k = (there, back)
    where
      there : Memᴰ k (map (module_at b) (set_of (settings_of b g) g (tree_of b) name)) → InSet b g name k
      there i =
          let o = Memᴰ.of_map (module_at b) (set_of (settings_of b g) g (tree_of b) name) i in
          let l = within o.0 ((set_placed (settings_of b g) g (tree_of b) name).below o.0 o.1) in
          subst (InSet b g name) o.2 ((by_place o.0 l).0 o.1)

      back : InSet b g name k → Memᴰ k (map (module_at b) (set_of (settings_of b g) g (tree_of b) name))
      back s =
          let o = mem_get_or 0 (mem_places b k (to_places s.1 s.2).0 (reached_eligible s.2)) in
          Memᴰ.cast (sym o.2) (Memᴰ.map (module_at b) ((by_place o.0 o.1).1 (subst (InSet b g name) (sym o.2) s)))

  is_union : SetIsUnion b g name
  is_union = record { by_place = by_place; by_module = by_module }

-- of a build whose dependency records are not turned away
pub set_captures : (b : Given) → bad_dependency b ≡ false → (g : ℕ) → g < b.variant.g → (name : ℕ) → SetIsUnion b g name
unfolding bad_dependency
set_captures b e =
    let s = b.shared in
    is_union b (dependencies_in s.first s.dependency s.next s.n s.d (good s.first s.dependency s.next s.n s.d e))

-- of an accepted call
pub accepted_captures : (need : Given → ℕ) (b : Given) {count : ℕ} {before after : Areas} → ChunksCall need b (accepted count) before after
    → (g : ℕ) → g < b.variant.g → (name : ℕ) → SetIsUnion b g name
accepted_captures need b c = is_union b (sound need b c).named_in
