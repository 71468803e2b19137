-- A chunk that is emitted for some places, whose modules stand in any order, matches the chunk of the definition.
use Prim.Native.Nat.{ℕ, ◌<◌}
use mathlib.Core.Bool.{true}
use mathlib.Core.List.Memᴰ
use mathlib.Core.List.{List, [], ◌∷◌, map, Memᴰ}
use mathlib.Core.Option.{Option, none, some}
use mathlib.Core.Path.{◌≡◌, refl, sym, ap, ◌∙◌}
use native.Mathlib.Nat.{zero-add}
use lib.ListN.{length}
use Rattle.lists.specs.Elem.{elem}
use Rattle.lists.proofs.Elem.{elem_mem, mem_elem}
use Rattle.lists.proofs.Position.{mem_get_or}
use Rattle.bitset.specs.Entries.{union_of}
use Rattle.bitset.specs.declared.entries.BitSet.{BitSet}
use Rattle.grouping.specs.Given.{Given}
use Rattle.grouping.specs.Tree.{Tree, places_of, tree_of}
use Rattle.grouping.specs.Item.{Item, with_places}
use Rattle.grouping.specs.Sizes.{item_size}
use Rattle.grouping.specs.Mark.{mark_of}
use Rattle.grouping.specs.ChunkList.{Chunk, union_at, bits_or, chunk_from}
use Rattle.grouping.specs.Written.{modules_from}
use Rattle.settling.specs.Modules.{Passed, module_at, modules_at}
use Rattle.emitting.specs.Emitted.{Emission, bits_if, union_of_modules}
use Rattle.emitting.specs.declared.emit.Head.{Head}
use Rattle.linking.specs.Made.{Matches, AllMatch, none, more}
use Rattle.linking.proofs.ChunkModules.{places_distinct}
use Rattle.linking.proofs.Modules.{modules_mem, elem_place}
use Rattle.running.specs.Fits.{BitsOf, HeadOf}
use Rattle.pieces.specs.Chunks.{chunk_of}
use Rattle.running.proofs.Tests.{passed_sound}
use Rattle.running.proofs.ModulesAt.{Within, size_of_modules, union_of_modules_lem}

-- two orders of the same places, alike in what a chunk says of them
pub record SamePlaces (i : Item) (tree : Tree) (piece side : List ℕ) : Type 0 where
  pub size : item_size i.settings tree piece ≡ item_size i.settings tree side
  pub union : union_at tree piece ≡ union_at tree side
  pub there : (p : ℕ) → Memᴰ p side → Memᴰ p piece
  pub back : (p : ℕ) → Memᴰ p piece → Memᴰ p side

pub same_self : (i : Item) (tree : Tree) (places : List ℕ) → SamePlaces i tree places places
same_self i tree places = record { size = refl; union = refl; there = λ p m. m; back = λ p m. m }

-- ---- bits

union_words : (tree : Tree) (places : List ℕ) → length (union_at tree places).words ≡ 4
unfolding union_at union_of
union_words tree [] = refl
union_words tree (p ∷ places) = refl

same_bits : (head : Head) (o : Option BitSet) (x y : BitSet) → BitsOf o head → x ≡ y → bits_if head.entries_aware head.bits x ≡ bits_or o y
same_bits head none x y h e = rw h e
same_bits head (some own) x y h e = rw h.aware h.bits

four_words : (head : Head) (o : Option BitSet) (y : BitSet) → BitsOf o head → length y.words ≡ 4 → length (bits_or o y).words ≡ 4
four_words head none y h e = e
four_words head (some own) y h e = h.four_words

-- ---- modules

module _ (b : Given) (passed : Passed b) where
  -- a module is among the modules at chosen places where its place is chosen
  chosen_at : (chosen : List ℕ) (p : ℕ) → p < length (places_of b) → elem (module_at b p) (modules_from 0 chosen (places_of b)) ≡ elem p chosen
  chosen_at chosen p h = elem_place 0 chosen (places_distinct b (passed_sound b passed)) p h ∙ ap (λ (q : ℕ). elem q chosen) (zero-add p)

  module_there : (places side : List ℕ) → Within b side → ((p : ℕ) → Memᴰ p side → Memᴰ p places)
      → (m : ℕ) → Memᴰ m (modules_at b side) → Memᴰ m (modules_from 0 places (places_of b))
  module_there places side h there m i =
      let o = Memᴰ.of_map (module_at b) side i in
      let chosen = chosen_at places o.0 (h o.0 o.1) ∙ mem_elem o.0 (there o.0 o.1) in
      Memᴰ.cast (sym o.2) (elem_mem (module_at b o.0) (modules_from 0 places (places_of b)) chosen)

  module_back : (places side : List ℕ) → ((p : ℕ) → Memᴰ p places → Memᴰ p side)
      → (m : ℕ) → Memᴰ m (modules_from 0 places (places_of b)) → Memᴰ m (modules_at b side)
  module_back places side back m i =
      let o = mem_get_or 0 (modules_mem 0 places (places_of b) i) in
      let found : elem o.0 places ≡ true =
      sym (chosen_at places o.0 o.1) ∙ ap (λ (x : ℕ). elem x (modules_from 0 places (places_of b))) o.2 ∙ mem_elem m i in
      Memᴰ.cast (sym o.2) (Memᴰ.map (module_at b) (back o.0 (elem_mem o.0 places found)))

  -- ---- the chunk

  pub matches : (i : Item) (head : Head) → HeadOf i head → (piece side : List ℕ) → Within b side → SamePlaces i (tree_of b) piece side
      → (mark : ℕ) → mark ≡ mark_of i.settings (tree_of b) piece
      → Matches b (chunk_of b.shared.sizes head mark (modules_at b side)) (chunk_from (tree_of b) (with_places piece i))
  unfolding chunk_from
  matches i head h piece side within s mark why =
      record {
        group = h.group;
        name = h.name;
        size = size_of_modules b i.settings side within ∙ sym s.size;
        bits =
            same_bits head i.bits (union_of_modules b.shared.bits (modules_at b side)) (union_at (tree_of b) piece) h.bits
            (union_of_modules_lem b side within ∙ sym s.union);
        mark = why;
        four_words = four_words head i.bits (union_at (tree_of b) piece) h.bits (union_words (tree_of b) piece);
        there = module_there piece side within s.there;
        back = module_back piece side s.back;
      }

-- chunk by chunk
pub all_match : {A : Type 0} (b : Given) (f : A → Emission) (g : A → Chunk) (l : List A) → ((x : A) → Memᴰ x l → Matches b (f x) (g x))
    → AllMatch b (map f l) (map g l)
all_match b f g [] h = none
all_match b f g (x ∷ l) h = more (h x (Memᴰ.head refl)) (all_match b f g l (λ y m. h y (Memᴰ.tail m)))
