-- The names of a group one after another: what holds between two of them, and what the next one needs.
use Prim.Native.Nat.{ℕ, ◌+◌, ◌-◌, ◌≤◌, ◌<◌}
use mathlib.Core.Bool.{Bool}
use mathlib.Core.List.{List, [], ◌∷◌, ◌++◌, foldl, Memᴰ, append-nil, append_assoc}
use mathlib.Core.Path.{◌≡◌, sym, ap, ◌∙◌, subst}
use native.Mathlib.Omega.{arith}
use lib.ListN.{length, get_or, take, drop, drop_of_length-le}
use Rattle.lists.specs.Keys.{keys_in}
use Rattle.lists.specs.Range.{range}
use Rattle.lists.specs.Packed.{key_of}
use Rattle.lists.proofs.Keys.{keys_none}
use Rattle.lists.proofs.Map.{map_get_or_range}
use Rattle.lists.proofs.Members.{range_mem}
use Rattle.lists.proofs.Pairs.{at_pairs}
use Rattle.lists.proofs.Position.{mem_get_or, get_or_mem}
use Rattle.lists.proofs.Range.{length_range, get_or_range}
use Rattle.lists.proofs.Runs.{Boundary, boundary_start, run_next}
use Rattle.walk.specs.Names.{Eligible}
use Rattle.options.specs.declared.Settings.{Settings}
use Rattle.grouping.specs.Given.{Given}
use Rattle.grouping.specs.Tree.{Tree, places_of, tree_of}
use Rattle.grouping.specs.Item.{Item}
use Rattle.grouping.specs.Sets.{set_of}
use Rattle.grouping.specs.WorkList.{items_of_set}
use Rattle.grouping_laws.proofs.SetPlaces.{Placed}
use Rattle.settling.specs.Modules.{Passed}
use Rattle.settling.specs.Settled.{settled}
use Rattle.settling.specs.Traversal.{in_turn, names_of, items_of, after_name}
use Rattle.settling.proofs.LoopSteps.{name_more}
use Rattle.emitting.specs.Emitted.{Work, HasEntry, SameLengths}
use Rattle.emitting.proofs.Chunk.{same_lengths, lengths_kept}
use Rattle.items.specs.Turn.{Tables}
use Rattle.running.specs.Fits.{ItemFits, Walking}
use Rattle.running.specs.State.{Advance, Begun}
use Rattle.matching.specs.Matched.{RunEnd}
use Rattle.sets.specs.Built.{SetBuilt}
use Rattle.sets.proofs.NamesMatched.{names_matched}
use Rattle.closed.specs.Closed.{closes, live_by, closed_after, Closed}
use Rattle.names.specs.Turn.{SetOffered, SetTaken, GroupFits, NamesTurning, NamesTurned}
use Rattle.running.proofs.Advancing.{advance_none, advance_same, advance_then, begun_next, begun_number, begun_place}
use Rattle.names.proofs.Matched.{matched_name}
use Rattle.running.proofs.ItemTurn.{turn_entries}
use Rattle.names.proofs.Passing.{Passing, passing_by, closed_next}
use Rattle.names.proofs.OrderOf.{module_in}
use Rattle.names.proofs.Staying.{numbers_stay}
use Rattle.names.proofs.SetOfRun.{order_all, run_is, set_stands, set_mem, set_in, places_placed}

-- all places of a build
all_placed : (n : ℕ) → Placed n (range 0 n)
all_placed n =
    record {
      ascend = at_pairs (range 0 n) 0 (λ i j h l.
          let k = length_range 0 n in
          omega (arith, get_or_range 0 n i 0 (omega arith), get_or_range 0 n j 0 (omega arith)));
      below = λ p m. let r = range_mem 0 n p m in omega arith;
    }

-- the names that had their turns, before those that are still in the matched modules
pub record Done (b : Given) (start : ℕ) (settings : Settings) (group : ℕ) (rest : List ℕ) (number at made : ℕ) (entry now : Work) : Type 0 where
  pub names : List ℕ
  pub all : names ++ keys_in key_of b.shared.k rest ≡ names_of b.shared.k settings group (tree_of b)
  pub advance : Advance b start (λ chunks. foldl (after_name settings group (tree_of b)) chunks names) number at made entry now

-- between two names: the run of the next one starts at `from`, and `made` chunks were made
pub record NamesDone (t : Tables) (w : Walking) (bits : List ℕ) (settings : Settings) (group : ℕ) (matched : List ℕ) (number at : ℕ) (entry : Work)
    (from made : ℕ) (now : Work) : Type 0 where
  pub within : from ≤ length matched
  pub between : Boundary key_of matched from
  pub done : (b : Given) (start : ℕ) → ItemFits b t bits → GroupFits b w settings group matched
      → Done b start settings group (drop from matched) number at made entry now
  pub lengths : SameLengths now entry

module _ {t : Tables} {w : Walking} {bits : List ℕ} {settings : Settings} {group : ℕ} {matched : List ℕ} {number at : ℕ} {entry : Work} where
  -- ---- the first

  pub names_start : NamesDone t w bits settings group matched number at entry 0 0 entry
  names_start =
      record {
        within = omega arith;
        between = boundary_start key_of;
        done = λ b start fits g.
            record {
              names = [];
              all = rw (g.matched_are, g.settings_are) (names_matched b fits.passed group g.inside b.shared.k);
              advance = advance_none;
            };
        lengths = same_lengths entry;
      }

  -- ---- one more

  module _ (pre : NamesTurning t w bits settings group matched number at entry) {from made : ℕ} {now : Work}
      (d : NamesDone t w bits settings group matched number at entry from made now) where
    begun_now : Begun pre.turning.b pre.turning.start (number + made) (at + made) now
    begun_now =
        let u = pre.turning in
        begun_next u.begun (d.done u.b u.start u.fits pre.fits).advance

    pub number_now : number + made ≤ 73727
    number_now = omega (arith, begun_number pre.turning.fits.passed begun_now, pre.turning.small)

    pub place_now : at + made ≤ length entry.group_of
    place_now = omega (arith, begun_place pre.turning.fits.passed begun_now, d.lengths.group_of)

    -- each module of the order has a chunk number, or zero for it
    order_entries : HasEntry now.chunk_of w.order
    order_entries =
        let u = pre.turning in
        let n = length (places_of u.b) in
        turn_entries u.b t bits u.fits u.start (number + made) (at + made) now begun_now (range 0 n) w.order (all_placed n)
        (pre.fits.walks.order ∙ sym (map_get_or_range (places_of u.b) 0))

    module _ {to : ℕ} (e : RunEnd matched from to) (closing : Bool) (by : closing ≡ closes settings) {closed : List ℕ}
        (so_far : Closed w.flags w.first w.dependency w.next closed now.chunk_of) {count : ℕ} {area : List ℕ}
        (built : SetBuilt settings.recursive (live_by closing w.flags closed) w.first w.dependency w.next w.order
        (take (to - from) (drop from matched)) count area) where
      past : Passing settings w (live_by closing w.flags closed) now.chunk_of
      past = passing_by closing by so_far

      abbrev name : ℕ
      name = key_of (get_or matched from 0)

      pub count_in : count ≤ length w.flags
      count_in = let ok = pre.turning.fits.passed in set_in ok pre.fits (run_is ok pre.fits d.between e) built

      -- each module of the set is one of the order
      set_member : (i : ℕ) → i < length (take count area) → Memᴰ (get_or (take count area) i 0) w.order
      set_member i h =
          let ok = pre.turning.fits.passed in
          set_mem ok pre.fits (run_is ok pre.fits d.between e) built (get_or (take count area) i 0) (get_or_mem (take count area) i 0 h)

      pub set_entries : HasEntry now.chunk_of (take count area)
      set_entries i h = let o = mem_get_or 0 (set_member i h) in subst (λ (m : ℕ). m < length now.chunk_of) o.2 (order_entries o.0 o.1)

      pub set_flags : HasEntry w.flags (take count area)
      set_flags i h =
          let o = mem_get_or 0 (set_member i h) in
          subst (λ (m : ℕ). m < length w.flags) o.2 (module_in pre.turning.fits.passed pre.fits.walks o.0 o.1)

      pub set_offered : SetOffered t bits settings.entries_aware (number + made) (at + made) now (take count area)
      set_offered =
          let u = pre.turning in
          let ok = u.fits.passed in
          record {
            turning = record { b = u.b; start = u.start; fits = u.fits; begun = begun_now; small = u.small };
            places = set_of settings group (tree_of u.b) name;
            placed = places_placed ok pre.fits name;
            stands = set_stands ok pre.fits (run_is ok pre.fits d.between e) built past;
            numbered = set_entries;
          }

      module _ {more : ℕ} {after : Work}
          (turned : SetTaken t bits settings.entries_aware (take count area)
          (λ tree places. in_turn tree (items_of_set settings.entries_aware settings group name tree places))
          (number + made) (at + made) more now after) where
        next_done : (b : Given) (start : ℕ) → ItemFits b t bits → GroupFits b w settings group matched
            → Done b start settings group (drop to matched) number at (made + more) entry after
        unfolding after_name items_of
        next_done b start fits g =
            let ok = fits.passed in
            let p = d.done b start fits g in
            let run = run_is ok g d.between e in
            let k = b.shared.k in
            let tree = tree_of b in
            let below : (x : ℕ) → Memᴰ x matched → key_of x < k = rw g.matched_are (matched_name b ok group g.inside) in
            let named : name < k = below (get_or matched from 0) (get_or_mem matched from 0 (omega (arith, e.some, e.within))) in
            let turn : Advance b start (λ chunks. after_name settings group tree chunks name) (number + made) (at + made) more now after =
            turned.advance b start (set_of settings group tree name) fits (places_placed ok g name) (set_stands ok g run built past) in
            record {
              names = p.names ++ (name ∷ []);
              all = append_assoc p.names (name ∷ []) (keys_in key_of k (drop to matched))
                  ∙ ap (λ (l : List ℕ). p.names ++ l) (sym (run_next key_of run k named)) ∙ p.all;
              advance = advance_same (λ chunks. sym (name_more settings group tree chunks p.names name)) (advance_then p.advance turn);
            }

        -- closed sets stay closed, and the set is closed if it can be
        pub closed_then : Closed w.flags w.first w.dependency w.next (closed_after closing after.chunk_of (take count area) closed)
            after.chunk_of
        closed_then = closed_next settings w closing by so_far stay (λ m h el. in_order m el) built
          where
            ok : Passed pre.turning.b
            ok = pre.turning.fits.passed

            in_order : (m : ℕ) → Eligible w.flags m → Memᴰ m w.order
            in_order m el = order_all ok pre.fits m el

            tree : Tree
            tree = tree_of pre.turning.b

            items : List Item
            items = in_turn tree (items_of_set settings.entries_aware settings group name tree (set_of settings group tree name))

            turn : Advance pre.turning.b pre.turning.start (λ chunks. foldl (settled tree) chunks items) (number + made) (at + made) more now after
            turn =
                turned.advance pre.turning.b pre.turning.start (set_of settings group tree name) pre.turning.fits
                (places_placed ok pre.fits name) (set_stands ok pre.fits (run_is ok pre.fits d.between e) built past)

            stay : (m : ℕ) → Eligible w.flags m → (get_or now.chunk_of m 0 ≡ 0 → ⊥) → get_or after.chunk_of m 0 ≡ 0 → ⊥
            stay m el = numbers_stay ok begun_now items turn m (subst (λ (l : List ℕ). Memᴰ m l) pre.fits.walks.order (in_order m el))

        pub number_next : number + (made + more) ≤ 73727
        number_next =
            let u = pre.turning in
            let begun = begun_next u.begun (next_done u.b u.start u.fits pre.fits).advance in
            omega (arith, begun_number u.fits.passed begun, u.small)

        pub names_next : SameLengths after now → NamesDone t w bits settings group matched number at entry to (made + more) after
        names_next kept =
            record {
              within = e.within;
              between = (run_is pre.turning.fits.passed pre.fits d.between e).ends;
              done = next_done;
              lengths = lengths_kept kept d.lengths;
            }

  -- ---- all of them

  pub names_turned : {from made : ℕ} {now : Work} → NamesDone t w bits settings group matched number at entry from made now → length matched ≤ from
      → NamesTurned t w bits settings group matched number at made entry now
  names_turned {from} d h =
      record {
        advance = λ b start fits g.
            let p = d.done b start fits g in
            let k = b.shared.k in
            let nothing : keys_in key_of k (drop from matched) ≡ [] = ap (keys_in key_of k) (drop_of_length-le matched h) ∙ keys_none key_of k in
            let all : p.names ≡ names_of k settings group (tree_of b) =
            sym (append-nil p.names) ∙ ap (λ (l : List ℕ). p.names ++ l) (sym nothing) ∙ p.all in
            advance_same (λ chunks. ap (foldl (after_name settings group (tree_of b)) chunks) all) p.advance;
      }
