-- What is built for a run is the set of its name: the modules at the places of the set, in execution order.
use Prim.Native.Nat.{ℕ, ◌+◌, ◌-◌, ◌<◌}
use mathlib.Core.Bool.{Bool, true, false, ◌&&◌, false≢true}
use mathlib.Core.List.Memᴰ
use mathlib.Core.List.{List, map, Memᴰ}
use mathlib.Core.Logic.{◌↔◌, ◌⊎◌, inl, inr}
use mathlib.Core.Path.{◌≡◌, refl, sym, ap, ap₂, ◌∙◌, subst}
use native.Mathlib.Omega.{arith}
use borrow.Author.Tests.{eqb-true, eq-eqb, lt-ltb}
use lib.Dec.{eqb, ltb}
use lib.ListN.{length, get_or, take}
use Rattle.lists.specs.Keep.{keep}
use Rattle.lists.specs.Range.{range}
use Rattle.lists.proofs.Below.{both}
use Rattle.lists.proofs.KeepTests.{keep_keep, keep_map}
use Rattle.lists.proofs.Map.{get_or_map_below, map_get_or_range}
use Rattle.lists.proofs.Members.{keep_mem, mem_keep, range_mem, mem_range}
use Rattle.lists.proofs.Pairs.{pairs_keep}
use Rattle.lists.proofs.Position.{mem_get_or, get_or_mem}
use Rattle.lists.proofs.Sort.{Rising, pairs_weaker, pairs_kept, keys_same}
use Rattle.filter.specs.Filter.{passes}
use Rattle.walk.specs.Reached.{Reached, start}
use Rattle.walk.specs.Names.{Eligible, Names}
use Rattle.walk.proofs.Reached.{reached_all}
use Rattle.capture.specs.Capture as capture
use Rattle.capture.proofs.Captured.{union_of_captures}
use Rattle.grouping.specs.Given.{Given, answer_of}
use Rattle.grouping.specs.Settings.{settings_of}
use Rattle.grouping.specs.Tree.{places_of, tree_of, member_at}
use Rattle.grouping.specs.Sets.{takes_part, set_of}
use Rattle.grouping_laws.proofs.AtPlaces.{tree_length, start_at_lem}
use Rattle.grouping_laws.proofs.Places.{places_mem, mem_places}
use Rattle.grouping_laws.proofs.SetPlaces.{Placed, set_placed}
use Rattle.grouping_laws.proofs.SetsAreCaptures.{capture_from, TakesPart, InSet, SetIsUnion, set_captures}
use Rattle.settling.specs.Modules.{Passed, module_at, modules_at}
use Rattle.lists.specs.Area.{Holds}
use Rattle.sets.specs.Built.{starts_of, SetBuilt}
use Rattle.sets.specs.Captured.{AllCaptured}
use Rattle.sets.specs.Gathered.{marked_in}
use Rattle.sets.specs.OfBuild.{run_of, taking_places}
use Rattle.sets.proofs.FromPassed.{flag_bytes, record_tables}
use Rattle.sets.proofs.NamesMatched.{run_starts}

module _ (b : Given) (ok : Passed b) (g : ℕ) (h : g < b.variant.g) (name : ℕ) where
  -- the place takes part with the name
  abbrev part : ℕ → Bool
  part p = takes_part (settings_of b g) g name (member_at (tree_of b) p)

  abbrev count : ℕ
  count = length (places_of b)

  -- ---- the starts, by place and by module

  part_at : (p : ℕ) → p < count → part p
      ≡ (eqb (answer_of b g (module_at b p)) (2 + name)
      && passes (settings_of b g).filter (get_or b.shared.tags (module_at b p) 0) (get_or b.shared.sizes (module_at b p) 0)
      (get_or b.shared.shares (module_at b p) 0))
  part_at p u = sym (get_or_map_below (takes_part (settings_of b g) g name) (tree_of b) p false _ (omega (arith, tree_length b))) ∙ start_at_lem b g name p h u

  place_start : (p : ℕ) → p < count → part p ≡ true → TakesPart b g name (module_at b p)
  place_start p u e =
      let i = places_mem b (module_at b p) (get_or_mem (places_of b) p 0 u) in
      let t = both (eqb (answer_of b g (module_at b p)) (2 + name)) _ (sym (part_at p u) ∙ e) in
      record { below = i.0; chosen = i.1; matched = eqb-true (answer_of b g (module_at b p)) (2 + name) t.0; passed = t.1 }

  start_place : (p : ℕ) → p < count → TakesPart b g name (module_at b p) → part p ≡ true
  start_place p u t = part_at p u ∙ ap₂ ◌&&◌ (eq-eqb (answer_of b g (module_at b p)) (2 + name) t.matched) t.passed

  abbrev starts : List ℕ
  starts = modules_at b (taking_places b g name)

  start_mem : (m : ℕ) → Memᴰ m starts → TakesPart b g name m
  unfolding taking_places
  start_mem m i =
      let o = Memᴰ.of_map (module_at b) (taking_places b g name) i in
      let k = keep_mem part (range 0 count) o.0 o.1 in
      let u = range_mem 0 count o.0 k.0 in
      subst (TakesPart b g name) o.2 (place_start o.0 (omega arith) k.1)

  mem_start : (m : ℕ) → TakesPart b g name m → Memᴰ m starts
  unfolding taking_places
  mem_start m t =
      let o = mem_get_or 0 (mem_places b m t.below t.chosen) in
      let e = start_place o.0 o.1 (subst (TakesPart b g name) (sym o.2) t) in
      Memᴰ.cast (sym o.2) (Memᴰ.map (module_at b) (mem_keep part o.0 (mem_range 0 count o.0 (omega arith) (omega (arith, o.1))) e))

  -- ---- who is in the set

  -- module k is reached from the starts, along chains of at most d records
  abbrev Reach : ℕ → ℕ → Type 0
  Reach d k =
      Reached (Eligible b.variant.flags) (Names b.shared.first b.shared.dependency b.shared.next d)
      (λ m. Memᴰ m starts) k

  -- with recursion on: who is reached from the starts
  reached_set : (settings_of b g).recursive ≡ true → (k : ℕ) → Reach b.shared.d k ↔ InSet b g name k
  reached_set on k =
      let s = b.shared in
      let u = union_of_captures b.variant.flags s.first s.dependency s.next s.n s.d (λ m. Memᴰ m starts) k in (
        λ x. let o = u.0 x in (o.0, start_mem o.0 o.1, subst (λ (c : capture.Given). capture.Captured c k) (sym (same o.0)) o.2),
        λ o. u.1 (o.0, mem_start o.0 o.1, subst (λ (c : capture.Given). capture.Captured c k) (same o.0) o.2),
      )
    where
      by : Bool → ℕ → capture.Given
      by x m =
          record {
            n = b.shared.n;
            d = b.shared.d;
            recursive = x;
            from = m;
            flags = b.variant.flags;
            first = b.shared.first;
            dependency = b.shared.dependency;
            next = b.shared.next;
          }

      same : (m : ℕ) → by (settings_of b g).recursive m ≡ by true m
      same m = ap (λ (x : Bool). by x m) on

  -- with recursion off: the starts alone
  alone_set : (settings_of b g).recursive ≡ false → (p : ℕ) → p < count → part p ≡ true ↔ InSet b g name (module_at b p)
  alone_set off p u = (
    λ e. let t = place_start p u e in (module_at b p, t, start refl t.chosen),
    λ o. start_place p u (subst (TakesPart b g name) (sym (alone o.2)) o.1),
  )
    where
      alone : {m k : ℕ} → capture.Captured (capture_from b g m) k → k ≡ m
      alone {m} c = reached_all (λ k. k ≡ m) (λ k s. s) (λ k l q names el. absurd (false≢true (sym off ∙ names.0))) c

  -- ---- its places

  abbrev places : List ℕ
  places = set_of (settings_of b g) g (tree_of b) name

  kept_places : (q : ℕ → Bool) → ((p : ℕ) → p < count → q p ≡ true ↔ InSet b g name (module_at b p)) → keep q (range 0 count) ≡ places
  kept_places q same = keys_same (λ n. n) (keep q (range 0 count)) places rises (pairs_weaker (λ x y l. lt-ltb x y l) placed.ascend) there back
    where
      placed : Placed (length (tree_of b)) places
      placed = set_placed (settings_of b g) g (tree_of b) name

      union : SetIsUnion b g name
      union = set_captures b ok.records g h name

      rises : Rising ltb (keep q (range 0 count))
      rises = pairs_kept (λ x y. ltb x y ≡ true) q 0 count (λ x y l u e f. lt-ltb x y l)

      there : (p : ℕ) → Memᴰ p (keep q (range 0 count)) → Memᴰ p places
      there p m =
          let k = keep_mem q (range 0 count) p m in
          let r = range_mem 0 count p k.0 in
          let u : p < count = omega arith in
          (union.by_place p u).1 ((same p u).0 k.1)

      back : (p : ℕ) → Memᴰ p places → Memᴰ p (keep q (range 0 count))
      back p m =
          let u : p < count = omega (arith, tree_length b, placed.below p m) in
          mem_keep q p (mem_range 0 count p (omega arith) (omega arith)) ((same p u).1 ((union.by_place p u).0 m))

  alone_places : (settings_of b g).recursive ≡ false → taking_places b g name ≡ places
  unfolding taking_places
  alone_places off = kept_places part (alone_set off)

  marked_places : (settings_of b g).recursive ≡ true → (marks : List ℕ)
      → AllCaptured b.variant.flags b.shared.first b.shared.dependency b.shared.next starts marks
      → marked_in marks (places_of b) ≡ modules_at b places
  unfolding marked_in
  marked_places on marks x =
      ap (keep marked) (sym (map_get_or_range (places_of b) 0))
      ∙ keep_map marked (module_at b) (range 0 count)
      ∙ ap (map (module_at b)) (kept_places (λ p. marked (module_at b p)) at)
    where
      marked : ℕ → Bool
      marked m = eqb (get_or marks m 0) 1

      depth : length b.shared.next - 1 ≡ b.shared.d
      depth = omega (arith, (record_tables b ok).nexts)

      at : (p : ℕ) → p < count → marked (module_at b p) ≡ true ↔ InSet b g name (module_at b p)
      at p u = go (x.each (module_at b p) (omega (arith, flag_bytes b ok, (places_mem b (module_at b p) (get_or_mem (places_of b) p 0 u)).0)))
        where
          go : ((get_or marks (module_at b p) 0 ≡ 1) × Reach (length b.shared.next - 1) (module_at b p))
              ⊎ ((get_or marks (module_at b p) 0 ≡ 0) × (Reach (length b.shared.next - 1) (module_at b p) → ⊥))
              → marked (module_at b p) ≡ true ↔ InSet b g name (module_at b p)
          go (inl o) = (
            λ e. (reached_set on (module_at b p)).0 (subst (λ (d : ℕ). Reach d (module_at b p)) depth o.1),
            λ s. eq-eqb (get_or marks (module_at b p) 0) 1 o.0,
          )
          go (inr o) = (
            λ e. absurd (let z = eqb-true (get_or marks (module_at b p) 0) 1 e in omega arith),
            λ s. absurd (o.1 (subst (λ (d : ℕ). Reach d (module_at b p)) (sym depth) ((reached_set on (module_at b p)).1 s))),
          )

  -- ---- a part of the set, found with other flag bytes

  -- module k is reached by the flag bytes `live`, from some modules or from the starts
  abbrev ReachFrom : (ℕ → Type 0) → List ℕ → ℕ → Type 0
  ReachFrom S live k =
      Reached (Eligible live) (Names b.shared.first b.shared.dependency b.shared.next (length b.shared.next - 1)) S k

  abbrev ReachBy : List ℕ → ℕ → Type 0
  ReachBy live k = ReachFrom (λ m. Memᴰ m starts) live k

  -- if both reach the same of the modules that pass a test, both sets are the same where it is passed
  module _ (on : (settings_of b g).recursive ≡ true) (live marks : List ℕ) (bytes : length live ≡ length b.variant.flags) (un : ℕ → Bool)
      (same : (k : ℕ) → un k ≡ true → ReachBy b.variant.flags k ↔ ReachBy live k)
      (x : AllCaptured live b.shared.first b.shared.dependency b.shared.next starts marks) where
    abbrev marked_by : ℕ → Bool
    marked_by m = eqb (get_or marks m 0) 1

    -- a place that is marked is one of the set, among those that pass
    by_mark : (p : ℕ) → p < count → un (module_at b p) ≡ true → marked_by (module_at b p) ≡ true ↔ InSet b g name (module_at b p)
    by_mark p u e = go (x.each (module_at b p) (omega (arith, bytes, flag_bytes b ok, (places_mem b (module_at b p) (get_or_mem (places_of b) p 0 u)).0)))
      where
        depth : length b.shared.next - 1 ≡ b.shared.d
        depth = omega (arith, (record_tables b ok).nexts)

        in_set : ReachBy live (module_at b p) ↔ InSet b g name (module_at b p)
        in_set = (
          λ r. (reached_set on (module_at b p)).0 (subst (λ (d : ℕ). Reach d (module_at b p)) depth ((same (module_at b p) e).1 r)),
          λ s. (same (module_at b p) e).0 (subst (λ (d : ℕ). Reach d (module_at b p)) (sym depth) ((reached_set on (module_at b p)).1 s)),
        )

        go : ((get_or marks (module_at b p) 0 ≡ 1) × ReachBy live (module_at b p))
            ⊎ ((get_or marks (module_at b p) 0 ≡ 0) × (ReachBy live (module_at b p) → ⊥))
            → marked_by (module_at b p) ≡ true ↔ InSet b g name (module_at b p)
        go (inl o) = (λ q. in_set.0 o.1, λ s. eq-eqb (get_or marks (module_at b p) 0) 1 o.0)
        go (inr o) = (
          λ q. absurd (let z = eqb-true (get_or marks (module_at b p) 0) 1 q in omega arith),
          λ s. absurd (o.1 (in_set.1 s)),
        )

    -- the places of the set that pass
    both_pass : ℕ → Bool
    both_pass p = marked_by (module_at b p) && un (module_at b p)

    by_places : keep both_pass (range 0 count) ≡ keep (λ p. un (module_at b p)) places
    unfolding both_pass
    by_places =
        keys_same (λ n. n) (keep both_pass (range 0 count)) (keep (λ p. un (module_at b p)) places)
        (pairs_kept (λ x y. ltb x y ≡ true) both_pass 0 count (λ x y l u e f. lt-ltb x y l))
        (pairs_keep (λ p. un (module_at b p)) (pairs_weaker (λ x y l. lt-ltb x y l) placed.ascend)) there back
      where
        placed : Placed (length (tree_of b)) places
        placed = set_placed (settings_of b g) g (tree_of b) name

        union : SetIsUnion b g name
        union = set_captures b ok.records g h name

        there : (p : ℕ) → Memᴰ p (keep both_pass (range 0 count)) → Memᴰ p (keep (λ p. un (module_at b p)) places)
        there p m =
            let o = keep_mem both_pass (range 0 count) p m in
            let r = range_mem 0 count p o.0 in
            let u : p < count = omega arith in
            let t = both (marked_by (module_at b p)) (un (module_at b p)) o.1 in
            mem_keep (λ p. un (module_at b p)) p ((union.by_place p u).1 ((by_mark p u t.1).0 t.0)) t.1

        back : (p : ℕ) → Memᴰ p (keep (λ p. un (module_at b p)) places) → Memᴰ p (keep both_pass (range 0 count))
        back p m =
            let o = keep_mem (λ p. un (module_at b p)) places p m in
            let u : p < count = omega (arith, tree_length b, placed.below p o.0) in
            mem_keep both_pass p (mem_range 0 count p (omega arith) (omega arith))
            (ap₂ ◌&&◌ ((by_mark p u o.1).1 ((union.by_place p u).0 o.0)) o.1)

    left_marked : keep un (marked_in marks (places_of b)) ≡ keep un (modules_at b places)
    unfolding marked_in both_pass
    left_marked =
        ap (λ (l : List ℕ). keep un (keep marked_by l)) (sym (map_get_or_range (places_of b) 0))
        ∙ ap (keep un) (keep_map marked_by (module_at b) (range 0 count))
        ∙ keep_map un (module_at b) (keep (λ p. marked_by (module_at b p)) (range 0 count))
        ∙ ap (map (module_at b)) (keep_keep (λ p. un (module_at b p)) (λ p. marked_by (module_at b p)) (range 0 count) ∙ by_places)
        ∙ sym (keep_map un (module_at b) places)

  -- ---- the set

  -- what passes of a set that was found with other flag bytes, which reach the same of what passes
  pub set_left : {run : List ℕ} {n : ℕ} {live area : List ℕ} → run ≡ run_of b g name → (settings_of b g).recursive ≡ true
      → length live ≡ length b.variant.flags → (un : ℕ → Bool)
      → ((S : ℕ → Type 0) (k : ℕ) → un k ≡ true → ReachFrom S b.variant.flags k ↔ ReachFrom S live k)
      → SetBuilt (settings_of b g).recursive live b.shared.first b.shared.dependency b.shared.next (places_of b) run n area
      → keep un (take n area) ≡ keep un (modules_at b places)
  set_left {run} {live = live} e on bytes un same s =
      let x = s.captured on in
      let from : starts_of (places_of b) run ≡ starts = ap (starts_of (places_of b)) e ∙ run_starts b ok g h name in
      ap (keep un) x.holds.entries
      ∙ left_marked on live x.marks bytes un (same (λ m. Memᴰ m starts))
      (subst (λ (l : List ℕ). AllCaptured live b.shared.first b.shared.dependency b.shared.next l x.marks) from x.marked)

  pub set_built : {run : List ℕ} {n : ℕ} {area : List ℕ} → run ≡ run_of b g name
      → SetBuilt (settings_of b g).recursive b.variant.flags b.shared.first b.shared.dependency b.shared.next (places_of b) run n area
      → Holds (modules_at b places) n area
  set_built {run} {n} {area} e s = go (settings_of b g).recursive refl
    where
      from : starts_of (places_of b) run ≡ starts
      from = ap (starts_of (places_of b)) e ∙ run_starts b ok g h name

      go : (t : Bool) → (settings_of b g).recursive ≡ t → Holds (modules_at b places) n area
      go true on =
          let x = s.captured on in
          subst (λ (l : List ℕ). Holds l n area)
          (marked_places on x.marks
          (subst (λ (l : List ℕ). AllCaptured b.variant.flags b.shared.first b.shared.dependency b.shared.next l x.marks) from x.marked))
          x.holds
      go false off = subst (λ (l : List ℕ). Holds l n area) (from ∙ ap (map (module_at b)) (alone_places off)) (s.alone off)
