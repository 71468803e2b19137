-- Steps 4 and 5: the turns of the work list, and the chunks that they emit.
use Rattle.std.specs.Prelude.{ℕ, zero, suc, ◌+◌, ◌*◌, not, Float, length}
use mathlib.Core.List.{List, [], ◌∷◌, map, foldr}
use Rattle.std.proofs.Math.Option.{Option, none, some}
use Rattle.lists.specs.Elem.{elem}
use Rattle.lists.specs.Keep.{keep}
use Rattle.lists.specs.Sum.{sum}
use Rattle.bitset.specs.Entries.{empty, union_of}
use Rattle.bitset.specs.declared.entries.BitSet.{BitSet}
use Rattle.grouping.specs.Given.{Given}
use Rattle.options.specs.declared.Settings.{Settings}
use Rattle.grouping.specs.Settings.{all_settings}
use Rattle.grouping.specs.Tree.{Tree, tree_of, member_at}
use Rattle.grouping.specs.Item.{Item, with_places}
use Rattle.grouping.specs.Sizes.{item_size}
use Rattle.grouping.specs.WorkList.{work_list}
use Rattle.grouping.specs.Fate.{Fate, emptied, dropped, parted, emitted, fate_of}
use Rattle.grouping.specs.Mark.{mark_of}

-- one turn: the item that was taken off the list, and its fate
pub record Turn : Type 0 where
  pub item : Item
  pub fate : Fate

-- places that have left
abbrev pub without : List ℕ → Item → Item
without gone i = with_places (keep (λ p. not (elem p gone)) i.places) i

-- The list after a turn: "its modules stay for later items"; "the right piece and all its pieces come before the left"; "its modules leave
-- all other items".
abbrev pub rest : Fate → Item → List Item → List Item
rest emptied i items = items
rest dropped i items = items
rest (parted left right) i items = with_places right i ∷ with_places left i ∷ items
rest emitted i items = map (without i.places) items

-- the turns, at most so many
unfoldable pub turns : ℕ → Tree → List Item → List Turn
unfolding fate_of keep elem
turns zero tree items = []
turns (suc most) tree [] = []
turns (suc most) tree (i ∷ items) =
    let fate = fate_of i.settings tree i.places in
    record { item = i; fate = fate } ∷ turns most tree (rest fate i items)

-- enough turns: an item of p places takes at most 2p − 1, and one if it is empty
unfoldable pub enough : List Item → ℕ
unfolding sum
enough items = sum (map (λ i. 1 + 2 * length i.places) items)

-- a chunk, with places for modules
pub record Chunk : Type 0 where
  pub group : ℕ
  pub name : ℕ
  pub size : Float
  pub bits : BitSet
  pub mark : ℕ
  pub places : List ℕ

-- the union of the entry bits at places
unfoldable pub union_at : Tree → List ℕ → BitSet
unfolding union_of
union_at tree places = foldr (λ p bits. union_of (member_at tree p).bits bits) empty places

-- Step 5: "Entry bits are the union over its modules; for an entries-aware item, the subgroup's bits from step 2, also after modules left
-- or a cut."
abbrev pub bits_or : Option BitSet → BitSet → BitSet
bits_or none union = union
bits_or (some bits) union = bits

abbrev pub chunk_bits : Tree → Item → BitSet
chunk_bits tree i = bits_or i.bits (union_at tree i.places)

unfoldable pub chunk_from : Tree → Item → Chunk
unfolding item_size union_at mark_of
chunk_from tree i =
    record {
      group = i.group;
      name = i.name;
      size = item_size i.settings tree i.places;
      bits = chunk_bits tree i;
      mark = mark_of i.settings tree i.places;
      places = i.places;
    }

-- the chunk of a turn that emits one
abbrev pub emitted_by : Tree → Fate → Item → List Chunk → List Chunk
emitted_by tree emptied i chunks = chunks
emitted_by tree dropped i chunks = chunks
emitted_by tree (parted left right) i chunks = chunks
emitted_by tree emitted i chunks = chunk_from tree i ∷ chunks

-- the chunks in the order in which they are made
unfoldable pub chunks_of_turns : Tree → List Turn → List Chunk
unfolding chunk_from
chunks_of_turns tree [] = []
chunks_of_turns tree (t ∷ ts) = emitted_by tree t.fate t.item (chunks_of_turns tree ts)

-- the turns of a tree under the settings of its groups
unfoldable pub all_turns : ℕ → List Settings → Tree → List Turn
unfolding work_list turns enough
all_turns k settings tree =
    let items = work_list k settings tree in
    turns (enough items) tree items

-- the chunk list of a tree
unfoldable pub chunks_of : ℕ → List Settings → Tree → List Chunk
unfolding all_turns chunks_of_turns
chunks_of k settings tree = chunks_of_turns tree (all_turns k settings tree)

-- the chunk list of a build
unfoldable pub chunk_list : Given → List Chunk
unfolding all_settings tree_of chunks_of
chunk_list b = chunks_of b.shared.k (all_settings b) (tree_of b)
