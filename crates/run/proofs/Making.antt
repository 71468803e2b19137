-- The groups of a build have their turns from no chunk on, and what they make is the chunk list.
use Prim.Native.Nat.{ℕ, ◌+◌, ◌≤◌, ◌<◌}
use mathlib.Core.List.Memᴰ
use mathlib.Core.List.{List, [], ◌++◌, foldl}
use mathlib.Core.Path.{◌≡◌, refl, sym, ap, ◌∙◌, subst}
use native.Mathlib.Omega.{arith}
use native.Mathlib.Nat.{add-zero, zero-add}
use borrow.Author.Tests.{ltb-false}
use lib.Dec.{ltb}
use lib.ListN.{length, get_or, take, drop, replicate}
use lib.Seq.{take_at, length-take-le}
use Rattle.lists.specs.Range.{range}
use Rattle.lists.specs.Sort.{sort_by}
use Rattle.lists.proofs.Below.{neither}
use Rattle.lists.proofs.Members.{range_mem}
use Rattle.lists.proofs.Position.{get_or_mem}
use Rattle.lists.proofs.Sort.{sort_mem, none}
use Rattle.refusal.specs.Counts.{module_limit, group_limit}
use Rattle.options.specs.declared.Settings.{Settings}
use Rattle.grouping.specs.Conditions.{count_above}
use Rattle.grouping.specs.Given.{Given}
use Rattle.grouping.specs.Settings.{settings_of}
use Rattle.grouping.specs.Tree.{places_of, tree_of}
use Rattle.grouping.specs.ChunkList.{Chunk, chunk_list}
use Rattle.grouping.specs.Written.{per_module}
use Rattle.grouping_laws.proofs.SetPlaces.{Placed}
use Rattle.settling.specs.Modules.{Passed}
use Rattle.settling.specs.Traversal.{group_first, group_order, after_group, all_groups}
use Rattle.settling.proofs.ByGroups.{chunk_list_by_groups}
use Rattle.settling.proofs.ChunksSettled.{chunks_settled}
use Rattle.emitting.specs.Emitted.{Work}
use Rattle.linking.specs.Made.{Fresh, Made}
use Rattle.linking.proofs.ChunkModules.{places_distinct}
use Rattle.running.specs.Fits.{ItemFits, WalkFits}
use Rattle.running.specs.State.{Roomy, State}
use Rattle.running.proofs.Tests.{passed_sound}
use Rattle.running.proofs.ItemStep.{state_start}
use Rattle.running.proofs.StateLeft.{settling_room}
use Rattle.turns.specs.Order.{AreSettings}
use Rattle.groups.specs.Turn.{AllFit, GroupsTurning, GroupsTurned}
use Rattle.run.specs.Fits.{RunTables, TablesFit}
use Rattle.run.proofs.Zeros.{cleared_modules}
use Rattle.run.specs.Made.{PlacesFit, Making, AllMade}

-- ---- the turns

pub few_groups : (b : Given) → Passed b → b.variant.g ≤ 64
unfolding count_above
few_groups b passed = ltb-false group_limit b.variant.g (neither _ _ (neither (ltb module_limit b.shared.n) _ passed.counts).1).0

-- each group of the order is a group
order_inside : (settings : ℕ → Settings) (count i : ℕ) → i < length (group_order settings count) → get_or (group_order settings count) i 0 < count
unfolding group_order
order_inside settings count i h =
    let l = sort_by (group_first settings) (range 0 count) in
    let m = get_or l i 0 in
    omega (arith, (range_mem 0 count m (sort_mem (group_first settings) (range 0 count) m (get_or_mem l i 0 h))).1)

-- the groups in the first entries of a table
pub turns_are : (b : Given) (t : RunTables) (on_entry : ℕ) → TablesFit b t on_entry → (area sorted : List ℕ) → t.g ≤ length area
    → length sorted ≡ length (take t.g area)
    → ((f : ℕ → Settings) → AreSettings t.settings (length (take t.g area)) f → sorted ≡ group_order f (length (take t.g area)))
    → take t.g (sorted ++ drop t.g area) ≡ group_order (settings_of b) b.variant.g
turns_are b t on_entry fits area sorted h same order =
    let long : length (take t.g area) ≡ b.variant.g = length-take-le t.g area h ∙ fits.groups in
    take_at sorted (drop t.g area) t.g (same ∙ length-take-le t.g area h)
    ∙ order (settings_of b) (subst (λ (k : ℕ). AreSettings t.settings k (settings_of b)) (sym long) fits.settings_are)
    ∙ ap (group_order (settings_of b)) long

-- the chunk numbers cleared
pub fresh_areas : (b : Given) (n : ℕ) (w : Work) (cleared : List ℕ) → n ≡ b.shared.n → b.shared.n ≤ length w.chunk_of
    → cleared ≡ replicate (length (take n w.chunk_of)) 0 ++ drop n w.chunk_of
    → Fresh b w (record {
      chunk_of = cleared;
      group_of = w.group_of;
      name_of = w.name_of;
      size_of = w.size_of;
      bits_of = w.bits_of;
      mark_of = w.mark_of;
    })
fresh_areas b n w cleared e h z =
    record {
      numbers = z ∙ cleared_modules n w.chunk_of _ (omega arith) refl ∙ ap (λ (k : ℕ). per_module k (λ m. 0) w.chunk_of) e;
      groups = refl;
      names = refl;
      sizes = refl;
      bits = refl;
      marks = refl;
    }

module _ {t : RunTables} {on_entry at : ℕ} {w : Work} {scratch : List ℕ} (p : Making t on_entry at w scratch) where
  pub making_groups : t.g ≤ 64
  making_groups = omega (arith, p.fits.tables.groups, few_groups p.b p.fits.tables.passed)

  pub making_modules : t.n ≤ length w.chunk_of
  making_modules = omega (arith, p.fits.tables.modules, p.room.modules)

module _ (b : Given) (t : RunTables) (on_entry : ℕ) (fits : PlacesFit b t on_entry) where
  item_fits : ItemFits b t.tables t.bits
  item_fits =
      let s = fits.tables in
      record { passed = s.passed; bytes = s.bytes; offsets = s.offsets; sizes = s.sizes; words = s.words; ranks = s.ranks }

  walk_fits : WalkFits b t.walking
  walk_fits =
      let s = fits.tables in
      record { flags = s.flags; first = s.first; dependency = s.dependency; next = s.next; order = fits.order }

  module _ (turns : List ℕ) (e : turns ≡ group_order (settings_of b) b.variant.g) where
    all_fit : AllFit b t.walking t.settings turns t.asked t.n
    all_fit =
        let s = fits.tables in
        record {
          walks = walk_fits;
          modules = s.modules;
          inside =
              subst (λ (l : List ℕ). (i : ℕ) → i < length l → get_or l i 0 < b.variant.g) (sym e) (order_inside (settings_of b) b.variant.g);
          settings_are = s.settings_are;
          answers = s.answers;
          tags = s.tags;
          shares = s.shares;
        }

    -- the chunks after all turns
    abbrev list : List Chunk
    list = foldl (after_group b.shared.k (settings_of b) (tree_of b)) [] turns

    list_is : list ≡ chunk_list b
    unfolding all_groups
    list_is =
        ap (foldl (after_group b.shared.k (settings_of b) (tree_of b)) []) e
        ∙ sym (chunk_list_by_groups chunks_settled b)

    -- ---- what the groups ask

    module _ (at : ℕ) (before now : Work) (fresh : Fresh b before now) (room : Roomy b at before) where
      start : State b at [] before now
      start = state_start b at before now fresh room

      pub groups_turning : on_entry ≤ 69631 → GroupsTurning t.tables t.walking t.bits t.settings turns t.asked t.n on_entry at now
      groups_turning small =
          record {
            turning =
                record {
                  b = b;
                  start = at;
                  fits = item_fits;
                  begun =
                      record {
                        before = before;
                        chunks = [];
                        state = start;
                        numbered = fits.tables.entry ∙ sym (add-zero b.on_entry);
                        placed = sym (add-zero at);
                      };
                  small = subst (λ (k : ℕ). k ≤ 69631) fits.tables.entry small;
                };
            fits = all_fit;
          }

      -- ---- what they leave

      pub all_made : (count : ℕ) (exit : Work)
          → GroupsTurned t.tables t.walking t.bits t.settings turns t.asked t.n on_entry at count now exit → AllMade b at count before exit
      all_made count exit turned =
          let s = (turned.advance b at item_fits all_fit).step before [] start (fits.tables.entry ∙ sym (add-zero b.on_entry)) (sym (add-zero at)) in
          let same = list_is in
          let counted : length list ≡ count = s.1 ∙ zero-add count in
          record {
            chunks = sym counted ∙ ap (λ (l : List Chunk). length l) same;
            few = omega (arith, settling_room b list s.0.settling (places_distinct b (passed_sound b fits.tables.passed)) [] no_places);
            made = subst (λ (l : List Chunk). Made b at l before exit) same s.0.made;
          }
        where
          no_places : Placed (length (places_of b)) []
          no_places = record { ascend = none; below = λ p m. absurd (Memᴰ.not-nil m) }
