-- An item on its turn takes a run from one state to the next, and a run begins in a state with no chunk.
use Prim.Native.Nat.{ℕ, ◌+◌}
use mathlib.Core.List.Memᴰ
use mathlib.Core.List.{List, [], ◌∷◌, ◌++◌}
use mathlib.Core.Logic.{⊎_elim}
use mathlib.Core.Path.{◌≡◌, refl, sym, ap, ◌∙◌, subst}
use native.Mathlib.Omega.{arith}
use lib.ListN.{length, length-append}
use Rattle.grouping.specs.Given.{Given}
use Rattle.grouping.specs.Tree.{places_of, tree_of}
use Rattle.grouping.specs.Item.{Item}
use Rattle.grouping.specs.ChunkList.{Chunk}
use Rattle.grouping_laws.proofs.SetPlaces.{Placed}
use Rattle.settling.specs.Ends.{ends_of}
use Rattle.settling.specs.Modules.{modules_at}
use Rattle.settling.specs.Settled.{left_of, chunks_from, settled}
use Rattle.settling.proofs.LoopSteps.{item_more}
use Rattle.emitting.specs.Emitted.{Work, Emission, with_chunks}
use Rattle.emitting.specs.declared.emit.Head.{Head}
use Rattle.linking.specs.Made.{Fresh, Made, AllMatch, HasRoom}
use Rattle.linking.proofs.ChunkModules.{places_distinct}
use Rattle.linking.proofs.MadeMore.{made_start, made_more}
use Rattle.linking.proofs.MoreChunks.{matched_count}
use Rattle.items.specs.declared.convert.Limits.{Limits}
use Rattle.running.specs.Fits.{ItemFits, HeadOf, LimitsOf}
use Rattle.running.specs.State.{Settling, Roomy, State}
use Rattle.left.specs.Untaken.{untaken}
use Rattle.items.specs.Turn.{Tables, emitted_from}
use Rattle.running.proofs.Tests.{passed_sound}
use Rattle.running.proofs.EmissionsMatch.{emissions_match}
use Rattle.running.proofs.StateLeft.{left_placed, has_room, state_filled, settling_room, untaken_left}

-- ---- the start

pub state_start : (b : Given) (start : ℕ) (before now : Work) → Fresh b before now → Roomy b start before → State b start [] before now
state_start b start before now fresh room =
    record {
      settling = record { items = []; placed = λ i m. absurd (Memᴰ.not-nil m); are = refl };
      made = made_start b start fresh;
      room = room;
    }

-- ---- one item more

settling_more : (b : Given) (chunks : List Chunk) (i : Item) → Placed (length (places_of b)) i.places → Settling b chunks
    → Settling b (settled (tree_of b) chunks i)
settling_more b chunks i h s =
    record {
      items = s.items ++ (i ∷ []);
      placed = λ j m.
          ⊎_elim (s.placed j) (λ k. subst (λ (x : Item). Placed (length (places_of b)) x.places) (sym (Memᴰ.eq_of_singleton k)) h)
          (Memᴰ.append_cases s.items m);
      are = ap (λ (l : List Chunk). settled (tree_of b) l i) s.are ∙ sym (item_more (tree_of b) [] s.items i);
    }

module _ (b : Given) (t : Tables) (bits : List ℕ) (fits : ItemFits b t bits) (start : ℕ) (chunks : List Chunk) (before now : Work)
    (state : State b start chunks before now) (i : Item) (placed : Placed (length (places_of b)) i.places)
    (head : Head) (h : HeadOf i head) (limits : Limits) (l : LimitsOf i.settings limits) where
  -- the chunks of the definition, and those that are emitted
  abbrev new : List Chunk
  new = chunks_from (tree_of b) i (ends_of i.settings (tree_of b) (left_of chunks i.places))

  abbrev es : List Emission
  es = emitted_from t head limits (untaken now.chunk_of (modules_at b i.places))

  matched : AllMatch b es new
  matched =
      let places = left_of chunks i.places in
      subst (λ (modules : List ℕ). AllMatch b (emitted_from t head limits modules) new)
      (sym (untaken_left b fits.passed start chunks before now state i.places placed))
      (emissions_match b t bits fits i head h limits l places (left_placed (length (places_of b)) chunks placed))

  more : Settling b (chunks ++ new)
  unfolding settled
  more = settling_more b chunks i placed state.settling

  fits_areas : HasRoom start (length chunks + length new) before
  fits_areas =
      has_room b start before state.room (length chunks + length new)
      (omega (
        arith,
        settling_room b (chunks ++ new) more (places_distinct b (passed_sound b fits.passed)) i.places placed,
        length-append chunks new,
      ))

  after : State b start (chunks ++ new) before (with_chunks bits (b.on_entry + length chunks) (start + length chunks) es now)
  after =
      record {
        settling = more;
        made =
            subst (λ (words : List ℕ). Made b start (chunks ++ new) before (with_chunks words (b.on_entry + length chunks) (start + length chunks) es now))
            (sym fits.words)
            (made_more b start chunks new es before now (places_distinct b (passed_sound b fits.passed)) (state_filled b (chunks ++ new) more).apart
            fits_areas state.made matched);
        room = state.room;
      }

  pub item_step :
      State b start (settled (tree_of b) chunks i) before (with_chunks bits (b.on_entry + length chunks) (start + length chunks) es now)
      × (length (settled (tree_of b) chunks i) ≡ length chunks + length es)
  unfolding settled
  item_step = (after, length-append chunks new ∙ ap (λ (k : ℕ). length chunks + k) (sym (matched_count b matched)))
