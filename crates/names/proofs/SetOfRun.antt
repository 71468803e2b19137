-- The set of one name, from the run of the name among the matched modules of its group.
use Prim.Native.Nat.{ℕ, ◌+◌, ◌-◌, ◌≤◌, ◌<◌}
use mathlib.Core.Bool.{Bool, true, false}
use mathlib.Core.List.Memᴰ
use mathlib.Core.List.{List, map, Memᴰ}
use mathlib.Core.Path.{◌≡◌, refl, sym, ap, ◌∙◌, subst, subst₂}
use native.Mathlib.Omega.{arith}
use lib.Dec.{eqb}
use lib.ListN.{length, get_or, take, drop, replicate, length-map, length-drop}
use lib.Seq.{length-take-le, get_or-take, get_or-drop}
use Rattle.lists.specs.Keep.{keep}
use Rattle.lists.specs.Packed.{key_of, item_of}
use Rattle.lists.proofs.KeepLength.{keep_le}
use Rattle.lists.proofs.Members.{keep_mem}
use Rattle.lists.proofs.Packed.{sort_ascends}
use Rattle.lists.proofs.Position.{mem_get_or, get_or_mem}
use Rattle.lists.proofs.Runs.{Ascending, Boundary, Run, run_of_lem, run_keeps}
use Rattle.lists.proofs.Sort.{Pairs}
use Rattle.records.specs.Bad.{bad_records}
use Rattle.forget.specs.Unfollowed.{unfollowed}
use Rattle.walk.specs.Names.{Eligible}
use Rattle.walk.specs.Walk.{WalkTables}
use Rattle.options.specs.declared.Settings.{Settings}
use Rattle.grouping.specs.Given.{Given}
use Rattle.grouping.specs.Tree.{places_of, tree_of}
use Rattle.grouping.specs.Sets.{set_of}
use Rattle.grouping.specs.Conditions.{bad_dependency}
use Rattle.grouping_laws.proofs.AtPlaces.{tree_length}
use Rattle.grouping_laws.proofs.Places.{mem_places}
use Rattle.grouping_laws.proofs.SetPlaces.{Placed, set_placed}
use Rattle.settling.specs.Modules.{Passed, modules_at}
use Rattle.linking.proofs.ChunkModules.{places_distinct}
use Rattle.linking.proofs.Untaken.{places_count}
use Rattle.running.specs.Fits.{Walking}
use Rattle.running.proofs.Tests.{passed_sound}
use Rattle.left.specs.Untaken.{untaken}
use Rattle.matching.specs.Matched.{keys_of, RunEnd}
use Rattle.sets.specs.Built.{start_at, SetReady, SetBuilt}
use Rattle.sets.specs.Gathered.{marked_in, PlacesAre}
use Rattle.sets.specs.OfBuild.{matching_of, matched_of, run_of}
use Rattle.sets.proofs.FromPassed.{flag_bytes, record_tables}
use Rattle.sets.proofs.NamesMatched.{run_rises}
use Rattle.sets.proofs.BuiltSets.{set_left, set_built}
use Rattle.closed.specs.Closed.{closes, Closed}
use Rattle.names.specs.Turn.{Stands, GroupFits}
use Rattle.closed.proofs.ClosedSets.{eligible_in, left_reached, closes_recursive, closes_plain}
use Rattle.names.proofs.Passing.{Passing}
use Rattle.names.proofs.Matched.{matched_few, matched_place}
use Rattle.names.proofs.OrderOf.{order_small, module_in}

ascends : (b : Given) (g : ℕ) → Ascending key_of (matched_of b g)
unfolding matched_of
ascends b g = sort_ascends (keys_of (matching_of b g) (places_of b))

module _ {b : Given} {w : Walking} {settings : Settings} {group : ℕ} {matched : List ℕ} (ok : Passed b) (fits : GroupFits b w settings group matched) where
  abbrev part : ℕ → ℕ → List ℕ
  part from to = take (to - from) (drop from matched)

  -- ---- what the set asks

  order_few : length w.order ≤ length w.flags
  order_few =
      omega (
        arith,
        places_count b (places_distinct b (passed_sound b ok)),
        flag_bytes b ok,
        ap length fits.walks.order,
        ap length fits.walks.flags,
      )

  walk_tables : WalkTables w.flags w.first w.dependency w.next (length w.flags) (length w.next - 1)
  unfolding bad_dependency
  walk_tables =
      let s = b.shared in
      let r = record_tables b ok in
      let n : s.n ≡ length b.variant.flags = sym (flag_bytes b ok) in
      let d : s.d ≡ length s.next - 1 = omega (arith, r.nexts) in
      rw (fits.walks.flags, fits.walks.first, fits.walks.dependency, fits.walks.next)
      (record {
        flag_bytes = refl;
        records = record {
          few_modules = omega (arith, r.few_modules);
          few = omega (arith, r.few);
          firsts = omega (arith, r.firsts);
          modules = omega (arith, r.modules);
          nexts = omega (
            arith,
            r.nexts,
          );
        };
        good = subst₂ (λ (i j : ℕ). bad_records s.first s.dependency s.next i j ≡ false) n d ok.records;
      })

  -- flag bytes of as many modules serve as well
  live_tables : {live : List ℕ} → length live ≡ length w.flags
      → WalkTables live w.first w.dependency w.next (length live) (length w.next - 1)
  live_tables l = rw l (record { flag_bytes = l; records = walk_tables.records; good = walk_tables.good })

  -- each eligible module has a place
  pub order_all : (m : ℕ) → Eligible w.flags m → Memᴰ m w.order
  order_all =
      rw (fits.walks.order, fits.walks.flags)
      (λ m e. mem_places b m (let l = eligible_in b.variant.flags m e in omega (arith, flag_bytes b ok)) e)

  place_in : (x : ℕ) → Memᴰ x matched → item_of x < length w.order
  place_in = rw (fits.matched_are, fits.walks.order) (matched_place b ok group fits.inside)

  pub names_ascend : Ascending key_of matched
  names_ascend = rw fits.matched_are (ascends b group)

  -- the run of a name
  pub run_is : {from to : ℕ} → Boundary key_of matched from → RunEnd matched from to → Run key_of matched 0 (key_of (get_or matched from 0)) from to
  run_is starts e = run_of_lem key_of names_ascend starts e.some e.within e.same e.stop

  run_all : {name from to : ℕ} → Run key_of matched 0 name from to → part from to ≡ run_of b group name
  unfolding run_of
  run_all {name} run = sym (run_keeps key_of run) ∙ ap (keep (λ x. eqb (key_of x) name)) fits.matched_are

  module _ {from to : ℕ} (some : from < to) (within : to ≤ length matched) where
    run_length : length (part from to) ≡ to - from
    run_length = length-take-le (to - from) (drop from matched) (omega (arith, length-drop from matched))

    run_placed : (i : ℕ) → i < length (part from to) → item_of (get_or (part from to) i 0) < length w.order
    run_placed i h =
        let u : i < to - from = omega (arith, run_length) in
        subst (λ (x : ℕ). item_of x < length w.order) (sym (get_or-take (to - from) (drop from matched) i 0 u ∙ get_or-drop from matched i 0))
        (place_in _ (get_or_mem matched (from + i) 0 (omega arith)))

    pub set_ready : {name : ℕ} {live place marks queue followed area : List ℕ} → Run key_of matched 0 name from to → length live ≡ length w.flags
        → PlacesAre w.order place
        → length w.flags ≤ length place → marks ≡ replicate (length w.flags) 0 → length w.flags ≤ length queue → followed ≡ unfollowed
        → length w.flags ≤ length area
        → SetReady live w.first w.dependency w.next w.order place (part from to) marks queue followed area
    set_ready {name} {live = live} run l are p m q f a =
        record {
          tables = live_tables l;
          unmarked = m ∙ ap (λ (n : ℕ). replicate n 0) (sym l);
          queue_room = omega (arith, l, q);
          clear = f;
          few = order_small ok fits.walks;
          modules_in = λ i h. omega (arith, l, module_in ok fits.walks i h);
          places = are;
          place_room = omega (arith, l, p);
          placed = run_placed;
          rising = subst (λ (l : List ℕ). Pairs ◌<◌ (map item_of l)) (sym (run_all run)) (run_rises b ok group fits.inside name);
          room = omega (arith, order_few);
          run_room = omega (
            arith,
            run_length,
            order_few,
            matched_few b ok group fits.inside,
            ap length fits.matched_are,
            ap length fits.walks.order,
          );
        }

  -- ---- what it is

  pub places_placed : (name : ℕ) → Placed (length (places_of b)) (set_of settings group (tree_of b) name)
  places_placed name = subst (λ (n : ℕ). Placed n (set_of settings group (tree_of b) name)) (tree_length b) (set_placed settings group (tree_of b) name)

  module _ {name from to count : ℕ} {live area : List ℕ} (run : Run key_of matched 0 name from to)
      (built : SetBuilt settings.recursive live w.first w.dependency w.next w.order (part from to) count area) where
    -- found with the build's flag bytes it is the set
    set_is : live ≡ w.flags → take count area ≡ modules_at b (set_of settings group (tree_of b) name)
    set_is e =
        rw fits.settings_are
        (set_built b ok group fits.inside name (run_all run)
        (rw (fits.settings_are, e, fits.walks.flags, fits.walks.first, fits.walks.dependency, fits.walks.next, fits.walks.order) at built)
        ).entries

    -- found past closed sets it lacks none that has no chunk
    set_past : {chunk_of : List ℕ} → settings.recursive ≡ true → Closed w.flags w.first w.dependency w.next live chunk_of
        → untaken chunk_of (take count area) ≡ untaken chunk_of (modules_at b (set_of settings group (tree_of b) name))
    unfolding untaken
    set_past {chunk_of} on c =
        let closed : Closed b.variant.flags b.shared.first b.shared.dependency b.shared.next live chunk_of =
        rw (fits.walks.flags, fits.walks.first, fits.walks.dependency, fits.walks.next) at c in
        rw fits.settings_are
        (set_left b ok group fits.inside name (run_all run) (rw fits.settings_are at on) closed.bytes (λ m. eqb (get_or chunk_of m 0) 0)
        (left_reached b.variant.flags b.shared.first b.shared.dependency b.shared.next live chunk_of closed)
        (rw (fits.settings_are, fits.walks.first, fits.walks.dependency, fits.walks.next, fits.walks.order) at built))

    pub set_stands : {chunk_of : List ℕ} → Passing settings w live chunk_of
        → Stands b settings.entries_aware chunk_of (take count area) (set_of settings group (tree_of b) name)
    set_stands {chunk_of} p = go (closes settings) refl
      where
        go : (c : Bool) → closes settings ≡ c → Stands b settings.entries_aware chunk_of (take count area) (set_of settings group (tree_of b) name)
        go false e = let is = set_is (p.whole e) in record { whole = λ _. is; left = ap (untaken chunk_of) is }
        go true e =
            record {
              whole = λ aware. absurd (closes_plain settings e aware);
              left = set_past (closes_recursive settings e) p.closed;
            }

    -- ---- its modules

    -- each is one of the order
    pub set_mem : (m : ℕ) → Memᴰ m (take count area) → Memᴰ m w.order
    unfolding marked_in
    set_mem m i = go settings.recursive refl
      where
        go : (t : Bool) → settings.recursive ≡ t → Memᴰ m w.order
        go true on =
            let x = built.captured on in
            (keep_mem (λ k. eqb (get_or x.marks k 0) 1) w.order m (subst (λ (l : List ℕ). Memᴰ m l) x.holds.entries i)).0
        go false off =
            let s = Memᴰ.of_map (start_at w.order) (part from to) (subst (λ (l : List ℕ). Memᴰ m l) (built.alone off).entries i) in
            let o = mem_get_or 0 s.1 in
            let at = subst (λ (x : ℕ). item_of x < length w.order) o.2 (run_placed run.some run.within o.0 o.1) in
            Memᴰ.cast (sym s.2) (get_or_mem w.order (item_of s.0) 0 at)

    pub set_few : count ≤ length w.order
    unfolding marked_in
    set_few = go settings.recursive refl
      where
        go : (t : Bool) → settings.recursive ≡ t → count ≤ length w.order
        go true on =
            let x = built.captured on in
            omega (arith, x.holds.number, keep_le (λ k. eqb (get_or x.marks k 0) 1) w.order)
        go false off =
            omega (
              arith,
              (built.alone off).number,
              length-map (part from to) (start_at w.order),
              run_length run.some run.within,
              matched_few b ok group fits.inside,
              ap length fits.matched_are,
              ap length fits.walks.order,
            )

    pub set_in : count ≤ length w.flags
    set_in = omega (arith, set_few, order_few)
