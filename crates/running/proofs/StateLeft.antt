-- What a state leaves for an item: the modules of it that no chunk has taken are those at the places that are left, and there is room for them.
use Prim.Native.Nat.{ℕ, ◌+◌, ◌≤◌}
use mathlib.Core.List.{List}
use mathlib.Core.Path.{◌≡◌, sym, subst}
use native.Mathlib.Omega.{arith}
use lib.ListN.{length}
use Rattle.lists.proofs.Distinct.{Distinct}
use Rattle.grouping.specs.Given.{Given}
use Rattle.grouping.specs.Tree.{places_of, tree_of}
use Rattle.grouping.specs.ChunkList.{Chunk}
use Rattle.grouping_laws.proofs.SetPlaces.{Placed}
use Rattle.settling.specs.Modules.{Passed, modules_at}
use Rattle.settling.specs.Settled.{left_of}
use Rattle.settling.proofs.SettledChunks.{SettledChunks, settled_filled, settled_placed}
use Rattle.settling.proofs.Taken.{left_mem}
use Rattle.settling.proofs.TurnsOfItem.{left_ascends}
use Rattle.emitting.specs.Emitted.{Work, SameLengths}
use Rattle.linking.specs.Made.{HasRoom}
use Rattle.linking.proofs.ChunkModules.{places_distinct}
use Rattle.linking.proofs.MadeRead.{made_lengths}
use Rattle.linking.proofs.Untaken.{left_modules, room_left, places_count}
use Rattle.running.specs.State.{Settling, Roomy, State}
use Rattle.left.specs.Untaken.{untaken}
use Rattle.running.proofs.Tests.{passed_sound}

pub left_placed : (n : ℕ) (chunks : List Chunk) {places : List ℕ} → Placed n places → Placed n (left_of chunks places)
left_placed n chunks {places} h =
    record { ascend = left_ascends chunks h.ascend; below = λ p m. h.below p (left_mem chunks places p m).0 }

-- room for some of the modules
pub has_room : (b : Given) (start : ℕ) (w : Work) → Roomy b start w → (count : ℕ) → count ≤ b.shared.n → HasRoom start count w
has_room b start w room count h =
    record {
      groups = omega (arith, room.groups);
      names = omega (arith, room.names);
      sizes = omega (arith, room.sizes);
      words = omega (arith, room.words);
      marks = omega (arith, room.marks);
    }

-- ---- the chunks of some items

module _ (b : Given) (chunks : List Chunk) (s : Settling b chunks) where
  pub state_filled : SettledChunks s.items chunks
  state_filled =
      subst (SettledChunks s.items) (sym s.are) (settled_filled (tree_of b) s.items (λ i m. (s.placed i m).ascend))

  pub settling_room : Distinct (places_of b) → (places : List ℕ) → Placed (length (places_of b)) places
      → length chunks + length (left_of chunks places) ≤ b.shared.n
  settling_room distinct places h =
      let n = length (places_of b) in
      let filled = settled_placed state_filled n (λ i m. (s.placed i m).below) in
      omega (
        arith,
        room_left n chunks (λ c m. (filled c m, state_filled.some c m)) state_filled.apart places h,
        places_count b distinct,
      )

-- ---- the state

module _ (b : Given) (passed : Passed b) (start : ℕ) (chunks : List Chunk) (before now : Work) (state : State b start chunks before now)
    (places : List ℕ) (placed : Placed (length (places_of b)) places) where
  distinct : Distinct (places_of b)
  distinct = places_distinct b (passed_sound b passed)

  pub untaken_left : untaken now.chunk_of (modules_at b places) ≡ modules_at b (left_of chunks places)
  unfolding untaken
  untaken_left = left_modules b start chunks before now distinct state.made places placed.below

  pub left_room : length chunks + length (left_of chunks places) ≤ b.shared.n
  left_room = settling_room b chunks state.settling distinct places placed

  pub state_lengths : SameLengths now before
  state_lengths = made_lengths state.made state.room.modules (has_room b start before state.room (length chunks) (omega (arith, left_room)))
