-- The chunks after one item more: on its turn an item is read without the places that chunks have taken.
use Rattle.std.specs.Prelude.{ℕ, Bool, false, not, ◌||◌, List, [], ◌∷◌, ◌++◌, map}
use Rattle.lists.specs.Elem.{elem}
use Rattle.lists.specs.Keep.{keep}
use Rattle.grouping.specs.Tree.{Tree}
use Rattle.grouping.specs.Item.{Item, with_places}
use Rattle.grouping.specs.ChunkList.{Chunk, chunk_from}
use Rattle.settling.specs.Ends.{ends_of}

-- a chunk holds the place
unfoldable pub taken : List Chunk → ℕ → Bool
unfolding elem
taken [] p = false
taken (c ∷ chunks) p = elem p c.places || taken chunks p

-- the places that no chunk holds
unfoldable pub left_of : List Chunk → List ℕ → List ℕ
unfolding keep taken
left_of chunks places = keep (λ p. not (taken chunks p)) places

-- the chunks of an item whose places have ended so
unfoldable pub chunks_from : Tree → Item → List (List ℕ) → List Chunk
unfolding chunk_from
chunks_from tree i ends = map (λ places. chunk_from tree (with_places places i)) ends

-- the chunks after one item more
unfoldable pub settled : Tree → List Chunk → Item → List Chunk
unfolding chunks_from ends_of left_of
settled tree chunks i = chunks ++ chunks_from tree i (ends_of i.settings tree (left_of chunks i.places))
