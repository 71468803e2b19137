-- The loop over the runs of a divided set: the subgroups before a boundary have had their turns.
use Prim.Native.Nat.{ℕ, ◌+◌, ◌-◌, ◌*◌, ◌≤◌, ◌<◌}
use mathlib.Core.Bool.{true}
use mathlib.Core.List.{List, [], ◌∷◌, ◌++◌, map, map-append, append-nil, append_assoc, foldl, Memᴰ}
use mathlib.Core.Path.{◌≡◌, refl, sym, ap, ◌∙◌, subst}
use native.Mathlib.Omega.{arith}
use borrow.Author.Tests.{eq-eqb, eqb-true}
use lib.Dec.{eqb}
use lib.ListN.{length, get_or, take, drop, length-take, length-drop}
use lib.Seq.{drop-length, get_or-take, get_or-drop}
use Rattle.lists.specs.Keep.{keep}
use Rattle.lists.specs.Keys.{keys_in}
use Rattle.lists.specs.Packed.{key_of, item_of}
use Rattle.lists.proofs.Below.{same_truth}
use Rattle.lists.proofs.KeepTests.{keep_same}
use Rattle.lists.proofs.Keys.{keys_none}
use Rattle.lists.proofs.Position.{get_or_mem}
use Rattle.lists.proofs.Runs.{Ascending, Boundary, Run, boundary_start, run_of_lem, run_keeps, run_next}
use Rattle.bitset.specs.Entries.{row_of}
use Rattle.bitset.specs.declared.entries.BitSet.{BitSet}
use Rattle.options.specs.declared.Settings.{Settings}
use Rattle.grouping.specs.Given.{Given}
use Rattle.grouping.specs.Tree.{Tree, tree_of, places_of}
use Rattle.grouping.specs.Item.{Item}
use Rattle.grouping.specs.Subgroups.{divided_items}
use Rattle.grouping_laws.proofs.SetPlaces.{Placed}
use Rattle.settling.specs.Modules.{modules_at}
use Rattle.settling.specs.Settled.{settled}
use Rattle.settling.specs.Traversal.{in_turn}
use Rattle.emitting.specs.Emitted.{Work, HasEntry, SameLengths}
use Rattle.emitting.specs.declared.emit.Head.{Head}
use Rattle.emitting.proofs.Chunk.{same_lengths, lengths_kept}
use Rattle.left.specs.Untaken.{untaken}
use Rattle.pieces.specs.Chunks.{Converted}
use Rattle.items.specs.Turn.{Tables, emitted_from, ItemReady}
use Rattle.items.specs.declared.convert.Limits.{Limits}
use Rattle.running.specs.Fits.{ItemFits, HeadOf}
use Rattle.running.specs.State.{Advance, Begun}
use Rattle.running.specs.Turns.{SetTurned}
use Rattle.running.proofs.Advancing.{advance_none, advance_item, begun_next, begun_number, begun_place}
use Rattle.running.proofs.ItemTurn.{turn_entries, turn_ready, turn_advances}
use Rattle.matching.specs.Matched.{Together, RunEnd}
use Rattle.matching.proofs.KeysTogether.{keys_together}
use Rattle.sets.specs.Built.{start_at, starts_of}
use Rattle.subgroups.specs.Kinds.{kinds_in}
use Rattle.subgroups.specs.Items.{lowest_in, turn_key, turns_in, number_of, item_numbered}
use Rattle.subgroups.proofs.Numbered.{at_most}
use Rattle.subgroups.proofs.RunModules.{order_ascends, position_within, number_below}
use Rattle.subgroups.proofs.TurnOrder.{OwnRanks, turn_small, turn_apart, number_is}
use Rattle.entries_aware.specs.Divided.{DividedReady}
use Rattle.entries_aware.proofs.SetRanks.{own_ranks}
use Rattle.entries_aware.proofs.AsItems.{items_are, item_placed, modules_in_lem}

-- the item of the subgroup whose lowest rank is k
abbrev item_ranked : Settings → ℕ → ℕ → Tables → List ℕ → List ℕ → List ℕ → Tree → List ℕ → ℕ → Item
item_ranked r g name t set rows order tree places k = item_numbered r g name tree places rows (number_of set t.rank order k)

-- the subgroups whose positions stand before `from` have had their turns, in the order of the lowest ranks in them, and `made` chunks were made
pub record Walked (r : Settings) (g name : ℕ) (t : Tables) (bits set rows order : List ℕ) (number at : ℕ) (entry : Work) (from made : ℕ) (now : Work)
    : Type 0 where
  pub within : from ≤ length order
  pub starts : Boundary (turn_key set t.rank order) order from
  pub done : List ℕ
  pub rest : done ++ turns_in set t.rank order (drop from order) ≡ turns_in set t.rank order order
  pub lengths : SameLengths now entry
  pub advance : (b : Given) (start : ℕ) (places : List ℕ) → ItemFits b t bits → Placed (length (places_of b)) places → set ≡ modules_at b places
      → Advance b start (λ chunks. foldl (settled (tree_of b)) chunks (map (item_ranked r g name t set rows order (tree_of b) places) done)) number at made entry now

-- what the chunks of a subgroup share
abbrev pub head_of : ℕ → ℕ → BitSet → Head
head_of g name own = record { group = g; name = name; entries_aware = true; bits = own }

abbrev pub limits_of : Settings → Limits
limits_of r = record { minimum = r.min_size; maximum = r.max_size }

module _ (r : Settings) (g name : ℕ) {t : Tables} {bits set rows order members : List ℕ} {number at : ℕ} {entry : Work}
    (ready : DividedReady t bits number at entry set r.threshold rows order members) where
  abbrev Walk : ℕ → ℕ → Work → Type 0
  Walk from made now = Walked r g name t bits set rows order number at entry from made now

  abbrev turn : ℕ → ℕ
  turn = turn_key set t.rank order

  own : OwnRanks t.rank set
  own =
      let u = ready.turning in
      subst (OwnRanks t.rank) (sym u.are) (own_ranks t bits u.turning.b u.turning.fits u.places u.placed)

  turns_ascend : Ascending turn order
  turns_ascend = order_ascends bits t.sizes set t.rank ready.few r.threshold rows order ready.processed

  -- entries of one lowest rank are of one subgroup
  of_one : (x y : ℕ) → Memᴰ x order → Memᴰ y order → turn x ≡ turn y → key_of x ≡ key_of y
  of_one = turn_apart bits t.sizes set t.rank ready.few r.threshold rows order ready.processed own

  pub runs_together : Together order
  runs_together = keys_together (lowest_in set t.rank order) order turns_ascend of_one

  pub walk_none : Walk 0 0 entry
  walk_none = record {
    within = omega arith;
    starts = boundary_start turn;
    done = [];
    rest = refl;
    lengths = same_lengths entry;
    advance = λ b start places fits placed are. advance_none;
  }

  module _ {from made : ℕ} {now : Work} (w : Walk from made now) where
    abbrev b : Given
    b = ready.turning.turning.b

    abbrev start : ℕ
    start = ready.turning.turning.start

    abbrev fits : ItemFits b t bits
    fits = ready.turning.turning.fits

    begun : Begun b start (number + made) (at + made) now
    begun = begun_next ready.turning.turning.begun (w.advance b start ready.turning.places fits ready.turning.placed ready.turning.are)

    pub walk_number : number + made ≤ 73727
    walk_number = omega (arith, begun_number fits.passed begun, ready.turning.turning.small)

    pub walk_place : at + made ≤ length now.group_of
    walk_place = begun_place fits.passed begun

    -- ---- the run that stands at `from`

    module _ {to : ℕ} (end : RunEnd order from to) where
      -- the number of its subgroup, and the lowest rank in it
      abbrev s : ℕ
      s = key_of (get_or order from 0)

      abbrev k : ℕ
      k = turn (get_or order from 0)

      abbrev part : List ℕ
      part = take (to - from) (drop from order)

      first : Memᴰ (get_or order from 0) order
      first = get_or_mem order from 0 (omega (arith, end.some, end.within))

      below : s < length (kinds_in bits set)
      below = number_below bits t.sizes set t.rank ready.few r.threshold rows order ready.processed (get_or order from 0) first

      subgroups : length (kinds_in bits set) ≤ length set
      subgroups = at_most bits t.sizes set t.rank ready.few r.threshold rows order ready.processed

      pub number_of_run : number_of set t.rank order k ≡ s
      number_of_run = number_is bits t.sizes set t.rank ready.few r.threshold rows order ready.processed own (get_or order from 0) first

      run : Run turn order 0 k from to
      run =
          run_of_lem turn turns_ascend w.starts end.some end.within
          (λ i u v. ap (lowest_in set t.rank order) (end.same i u v))
          (λ u e. end.stop u (of_one (get_or order to 0) (get_or order from 0) (get_or_mem order to 0 u) first e))

      -- the run is its subgroup
      run_is : keep (λ x. eqb (key_of x) s) order ≡ part
      run_is =
          keep_same (λ x. eqb (key_of x) s) (λ x. eqb (turn x) k) order
          (λ x m. same_truth (eqb (key_of x) s) (eqb (turn x) k)
          (λ e. eq-eqb (turn x) k (ap (lowest_in set t.rank order) (eqb-true (key_of x) s e)))
          (λ e. eq-eqb (key_of x) s (of_one x (get_or order from 0) m first (eqb-true (turn x) k e))))
          ∙ run_keeps turn run

      pub run_row : 4 * s + 4 ≤ length rows
      run_row = omega (arith, below, subgroups, ready.row_each)

      pub run_length : length part ≡ to - from
      run_length = simp (length-take, length-drop) (omega (arith, end.some, end.within))

      pub run_room : to - from ≤ length set
      run_room = omega (arith, end.within, ready.positions)

      pub run_positions : (i : ℕ) → i < length part → item_of (get_or part i 0) < length set
      run_positions i h =
          let u : i < to - from = omega (arith, run_length) in
          let e : get_or part i 0 ≡ get_or order (from + i) 0 = get_or-take (to - from) (drop from order) i 0 u ∙ get_or-drop from order i 0 in
          let m : Memᴰ (get_or order (from + i) 0) order = get_or_mem order (from + i) 0 (omega (arith, end.within)) in
          subst (λ (x : ℕ). item_of x < length set) (sym e)
          (position_within bits t.sizes set t.rank ready.few r.threshold rows order ready.processed
          (get_or order (from + i) 0) m)

      module _ (b' : Given) (fits' : ItemFits b' t bits) (places : List ℕ) (placed : Placed (length (places_of b')) places)
          (are : set ≡ modules_at b' places) where
        abbrev item : Item
        item = item_numbered r g name (tree_of b') places rows s

        here : Placed (length (places_of b')) item.places
        here = item_placed r g name t bits set rows order ready.few ready.processed b' fits' places placed are s

        run_modules : starts_of set part ≡ modules_at b' item.places
        run_modules =
            ap (map (start_at set)) (sym run_is) ∙ modules_in_lem r g name t bits set rows order ready.few ready.processed b' fits' places placed are s

      -- ---- what its turn asks

      module _ (list : List ℕ) (is : list ≡ starts_of set part) where
        modules_are : list ≡ modules_at b (item_numbered r g name (tree_of b) ready.turning.places rows s).places
        modules_are = is ∙ run_modules b fits ready.turning.places ready.turning.placed ready.turning.are

        placed_here : Placed (length (places_of b)) (item_numbered r g name (tree_of b) ready.turning.places rows s).places
        placed_here = here b fits ready.turning.places ready.turning.placed ready.turning.are

        pub run_entries : HasEntry now.chunk_of list
        run_entries = turn_entries b t bits fits start (number + made) (at + made) now begun _ list placed_here modules_are

        pub run_ready : ItemReady t bits (untaken now.chunk_of list) now (number + made) (at + made)
        run_ready = turn_ready b t bits fits start (number + made) (at + made) now begun _ list placed_here modules_are ready.turning.turning.small

        -- ---- what it leaves

        module _ (shared : BitSet) (bits_are : shared ≡ row_of rows s) {count : ℕ} {after : Work} (kept : SameLengths after now)
            (c : Converted (emitted_from t (head_of g name shared) (limits_of r) (untaken now.chunk_of list)) bits (number + made) (at + made) count now
            after) where
          four : length (row_of rows s).words ≡ 4
          unfolding row_of
          four = simp (length-take, length-drop) (omega (arith, run_row))

          next : turns_in set t.rank order (drop from order) ≡ k ∷ turns_in set t.rank order (drop to order)
          next =
              run_next turn run 4096
              (turn_small bits t.sizes set t.rank ready.few r.threshold rows order ready.processed own (get_or order from 0) first)

          pub walk_more : Walk to (made + count) after
          walk_more = record {
            within = end.within;
            starts = run.ends;
            done = w.done ++ (k ∷ []);
            rest = append_assoc w.done (k ∷ []) (turns_in set t.rank order (drop to order)) ∙ ap (λ (l : List ℕ). w.done ++ l) (sym next) ∙ w.rest;
            lengths = lengths_kept kept w.lengths;
            advance = advance;
          }
            where
              advance : (b : Given) (start : ℕ) (places : List ℕ) → ItemFits b t bits → Placed (length (places_of b)) places → set ≡ modules_at b places
                  → Advance b start (λ chunks. foldl (settled (tree_of b)) chunks (map (item_ranked r g name t set rows order (tree_of b) places) (w.done ++ (k ∷ []))))
                  number at (made + count) entry after
              advance b start places fits placed are =
                  let of : ℕ → Item = item_ranked r g name t set rows order (tree_of b) places in
                  let numbered : ℕ → Item = item_numbered r g name (tree_of b) places rows in
                  let head : HeadOf (numbered s) (head_of g name shared) =
                  record { group = refl; name = refl; bits = record { aware = refl; bits = bits_are; four_words = four } } in
                  subst (λ (l : List Item). Advance b start (λ chunks. foldl (settled (tree_of b)) chunks l) number at (made + count) entry after)
                  (sym (map-append of w.done (k ∷ [])))
                  (advance_item (map of w.done) (of k) (w.advance b start places fits placed are)
                  (subst (λ (i : Item). Advance b start (λ chunks. settled (tree_of b) chunks i) (number + made) (at + made) count now after)
                  (ap numbered (sym number_of_run))
                  (turn_advances b t bits fits start (number + made) (at + made) now (numbered s) (here b fits places placed are) (head_of g name shared) head
                  (limits_of r) (record { minimum = refl; maximum = refl }) list (is ∙ run_modules b fits places placed are) count after c)))

    -- ---- the end

    pub walk_all : length order ≤ from → SetTurned t bits set (λ tree places. in_turn tree (divided_items r g name tree places)) number at made entry now
    walk_all h = record { advance = all }
      where
        none_left : drop from order ≡ []
        none_left = ap (λ (n : ℕ). drop n order) (let e : from ≡ length order = omega (arith, w.within) in e) ∙ drop-length order

        done : w.done ≡ turns_in set t.rank order order
        done = sym (append-nil w.done) ∙ ap (λ (l : List ℕ). w.done ++ l) (sym (ap (keys_in turn 4096) none_left ∙ keys_none turn 4096)) ∙ w.rest

        all : (b : Given) (start : ℕ) (places : List ℕ) → ItemFits b t bits → Placed (length (places_of b)) places → set ≡ modules_at b places
            → Advance b start (λ chunks. foldl (settled (tree_of b)) chunks (in_turn (tree_of b) (divided_items r g name (tree_of b) places))) number at made entry now
        all b start places fits placed are =
            subst (λ (l : List Item). Advance b start (λ chunks. foldl (settled (tree_of b)) chunks l) number at made entry now)
            (ap (map (item_ranked r g name t set rows order (tree_of b) places)) done
            ∙ sym (items_are r g name t bits set rows order ready.few ready.processed
            b fits places placed are))
            (w.advance b start places fits placed are)
