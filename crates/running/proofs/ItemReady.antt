-- A state has what an item asks: its modules have entries in all tables, their sizes add exactly, and there is room for a record for each.
use Prim.Native.Nat.{ℕ, ◌+◌, ◌≤◌, ◌<◌}
use mathlib.Core.List.{List}
use mathlib.Core.Path.{sym, ap, subst}
use native.Mathlib.Omega.{arith}
use lib.ListN.{length, get_or, length-map}
use Rattle.lists.proofs.Position.{get_or_mem}
use Rattle.grouping.specs.Given.{Given}
use Rattle.grouping.specs.Tree.{places_of}
use Rattle.grouping.specs.Conditions.{bad_id}
use Rattle.grouping.specs.ChunkList.{Chunk}
use Rattle.grouping_laws.proofs.SetPlaces.{Placed}
use Rattle.cut.specs.Order.{Cuttable}
use Rattle.settling.specs.Modules.{module_at, modules_at}
use Rattle.settling.specs.Settled.{left_of}
use Rattle.oversized.specs.InOrder.{Ranked}
use Rattle.emitting.specs.Emitted.{Work, Room, HasEntry, HasBits}
use Rattle.linking.proofs.MadeRead.{made_long}
use Rattle.running.specs.Fits.{ItemFits}
use Rattle.running.specs.State.{State}
use Rattle.left.specs.Untaken.{untaken}
use Rattle.items.specs.Turn.{Tables, ItemReady}
use Rattle.running.proofs.Tests.{few_modules, sizes_length, offsets_length, passed_sound}
use Rattle.running.proofs.ModulesAt.{Within, modules_below, modules_exact}
use Rattle.running.proofs.StateLeft.{left_placed, untaken_left, left_room, state_lengths}

-- each module at places is below the count of the modules
module_in : (b : Given) (places : List ℕ) → Within b places → (j : ℕ) → j < length (modules_at b places) → get_or (modules_at b places) j 0 < b.shared.n
module_in b places h j u = modules_below b places h (get_or (modules_at b places) j 0) (get_or_mem (modules_at b places) j 0 u)

-- ---- the tables

module _ (b : Given) (t : Tables) (bits : List ℕ) (fits : ItemFits b t bits) (places : List ℕ) (placed : Placed (length (places_of b)) places) where
  at : (j : ℕ) → j < length (modules_at b places) → get_or (modules_at b places) j 0 < b.shared.n
  at = module_in b places placed.below

  pub cuttable : Cuttable t.bytes t.offsets t.sizes (modules_at b places)
  unfolding bad_id
  cuttable =
      let p = fits.passed in
      rw (fits.bytes, fits.offsets, fits.sizes)
      (record {
        sized = record { has_size = λ j u. omega (arith, at j u, sizes_length b p); exact = modules_exact b p places placed };
        named = record { good = p.ids; has_id = λ j u. omega (arith, at j u, offsets_length b p) };
      })

  pub has_ranks : Ranked t.rank (modules_at b places)
  has_ranks =
      record {
        small = λ j u. omega (arith, at j u, few_modules b fits.passed);
        has_rank = λ j u. omega (arith, at j u, fits.ranks.for_all);
        rank_small = fits.ranks.small;
      }

  pub has_bits : HasBits bits (modules_at b places)
  has_bits j u = omega (arith, at j u, (passed_sound b fits.passed).bits_length, ap length fits.words)

-- ---- the areas

module _ (b : Given) (t : Tables) (bits : List ℕ) (fits : ItemFits b t bits) (start : ℕ) (chunks : List Chunk) (before now : Work)
    (state : State b start chunks before now) (places : List ℕ) (placed : Placed (length (places_of b)) places) where
  abbrev left : List ℕ
  left = left_of chunks places

  pub item_entries : HasEntry now.chunk_of (modules_at b places)
  item_entries j u = omega (arith, module_in b places placed.below j u, made_long state.made)

  left_entries : HasEntry now.chunk_of (modules_at b left)
  left_entries j u = omega (arith, module_in b left (left_placed (length (places_of b)) chunks placed).below j u, made_long state.made)

  left_count : length chunks + length (modules_at b left) ≤ b.shared.n
  left_count = omega (arith, left_room b fits.passed start chunks before now state places placed, length-map left (module_at b))

  record_room : (j : ℕ) → j < length (modules_at b left) → Room bits (modules_at b left) now (start + length chunks + j)
  record_room j u =
      let same = state_lengths b fits.passed start chunks before now state places placed in
      record {
        groups = omega (arith, left_count, same.group_of, state.room.groups);
        names = omega (arith, left_count, same.name_of, state.room.names);
        sizes = omega (arith, left_count, same.size_of, state.room.sizes);
        words = omega (arith, left_count, same.bits_of, state.room.words);
        marks = omega (arith, left_count, same.mark_of, state.room.marks);
        numbered = left_entries;
        has_bits = has_bits b t bits fits left (left_placed (length (places_of b)) chunks placed);
      }

  pub item_ready : b.on_entry ≤ 69631
      → ItemReady t bits (untaken now.chunk_of (modules_at b places)) now (b.on_entry + length chunks) (start + length chunks)
  item_ready h =
      subst (λ (l : List ℕ). ItemReady t bits l now (b.on_entry + length chunks) (start + length chunks))
      (sym (untaken_left b fits.passed start chunks before now state places placed))
      (record {
        few = omega (arith, left_count, few_modules b fits.passed);
        tables = cuttable b t bits fits left (left_placed (length (places_of b)) chunks placed);
        ranks = has_ranks b t bits fits left (left_placed (length (places_of b)) chunks placed);
        room = record_room;
        numbers = omega (arith, left_count, few_modules b fits.passed);
      })
