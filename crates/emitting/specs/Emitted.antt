-- Chunks that are emitted, one after the other, into the areas that a run writes as it goes.
use Rattle.std.specs.Prelude.{ℕ, suc, ◌+◌, ◌-◌, ◌*◌, ◌≤◌, ◌<◌, Bool, true, false, ◌≡◌, Float, length, get_or, set, take, drop}
use mathlib.Core.List.{List, [], ◌∷◌, foldl, foldr}
use Rattle.bitset.specs.Entries.{empty, union_of, row_of}
use Rattle.bitset.specs.Rows.{with_row}
use Rattle.bitset.specs.declared.entries.BitSet.{BitSet}
use Rattle.emitting.specs.declared.ChunkAreas.{ChunkAreas}
use Rattle.emitting.specs.declared.emit.Head.{Head}

-- the areas: per module its chunk number plus 1; per chunk its group, name, size, entry bits and mark
pub record Work : Type 0 where
  pub chunk_of : List ℕ
  pub group_of : List ℕ
  pub name_of : List ℕ
  pub size_of : List Float
  pub bits_of : List ℕ
  pub mark_of : List ℕ

-- what the areas hold
abbrev pub work : ChunkAreas → Work
work areas =
    record {
      chunk_of = areas.chunk_of.now;
      group_of = areas.group_of.now;
      name_of = areas.name_of.now;
      size_of = areas.size_of.now;
      bits_of = areas.bits_of.now;
      mark_of = areas.mark_of.now;
    }

-- each area is as long as before
pub record SameLengths (v w : Work) : Type 0 where
  pub chunk_of : length v.chunk_of ≡ length w.chunk_of
  pub group_of : length v.group_of ≡ length w.group_of
  pub name_of : length v.name_of ≡ length w.name_of
  pub size_of : length v.size_of ≡ length w.size_of
  pub bits_of : length v.bits_of ≡ length w.bits_of
  pub mark_of : length v.mark_of ≡ length w.mark_of

-- the areas are the ones that were lent, each as long as before: no field was pointed elsewhere
pub record SameAreas (before after : ChunkAreas) : Type 0 where
  pub chunk_of : after.chunk_of.ghost_name ≡ before.chunk_of.ghost_name
  pub group_of : after.group_of.ghost_name ≡ before.group_of.ghost_name
  pub name_of : after.name_of.ghost_name ≡ before.name_of.ghost_name
  pub size_of : after.size_of.ghost_name ≡ before.size_of.ghost_name
  pub bits_of : after.bits_of.ghost_name ≡ before.bits_of.ghost_name
  pub mark_of : after.mark_of.ghost_name ≡ before.mark_of.ghost_name
  pub lengths : SameLengths (work after) (work before)

-- a chunk that is emitted: what it shares with the other chunks of its item, its modules, its size and its mark
pub record Emission : Type 0 where
  pub head : Head
  pub modules : List ℕ
  pub size : Float
  pub mark : ℕ

-- the union of the entry bits of modules
unfoldable pub union_of_modules : List ℕ → List ℕ → BitSet
unfolding union_of row_of
union_of_modules bits modules = foldr (λ m union. union_of (row_of bits m) union) empty modules

abbrev pub bits_if : Bool → BitSet → BitSet → BitSet
bits_if true own union = own
bits_if false own union = union

-- the entry bits of a chunk: an entries-aware item's own, else the union over the modules
abbrev pub bits_of_chunk : List ℕ → Head → List ℕ → BitSet
bits_of_chunk bits head modules = bits_if head.entries_aware head.bits (union_of_modules bits modules)

-- the chunk number of each of the modules
unfoldable pub with_number : List ℕ → ℕ → List ℕ → List ℕ
with_number modules number chunk_of = foldl (λ l m. set l m number) chunk_of modules

-- the areas after one chunk more: its number, and the place of its record
unfoldable pub with_chunk : List ℕ → ℕ → ℕ → Emission → Work → Work
unfolding with_number with_row union_of_modules
with_chunk bits number at e w =
    record {
      chunk_of = with_number e.modules (suc number) w.chunk_of;
      group_of = set w.group_of at e.head.group;
      name_of = set w.name_of at e.head.name;
      size_of = set w.size_of at e.size;
      bits_of = with_row w.bits_of at (bits_of_chunk bits e.head e.modules);
      mark_of = set w.mark_of at e.mark;
    }

-- and after several
unfoldable pub with_chunks : List ℕ → ℕ → ℕ → List Emission → Work → Work
unfolding with_chunk
with_chunks bits number at [] w = w
with_chunks bits number at (e ∷ es) w = with_chunks bits (suc number) (suc at) es (with_chunk bits number at e w)

-- the parts of a list that begin at these places, from its end to its start
unfoldable pub parts_from : List ℕ → ℕ → List ℕ → List (List ℕ)
parts_from l end [] = []
parts_from l end (start ∷ starts) = take (end - start) (drop start l) ∷ parts_from l start starts

-- a chunk for each part, with its size and its mark
unfoldable pub emissions : Head → List (List ℕ) → List Float → List ℕ → List Emission
emissions head [] sizes marks = []
emissions head (p ∷ ps) [] marks = []
emissions head (p ∷ ps) (s ∷ sizes) [] = []
emissions head (p ∷ ps) (s ∷ sizes) (k ∷ marks) = record { head = head; modules = p; size = s; mark = k } ∷ emissions head ps sizes marks

-- each of the modules has an entry in a table of four words a row
abbrev pub HasBits : List ℕ → List ℕ → Type 0
HasBits bits members = (i : ℕ) → i < length members → 4 * get_or members i 0 + 4 ≤ length bits

-- each of the modules has an entry in a table
abbrev pub HasEntry : List ℕ → List ℕ → Type 0
HasEntry table members = (i : ℕ) → i < length members → get_or members i 0 < length table

-- the areas have room for one record, and each of the modules has an entry in both tables
pub record Room (bits : List ℕ) (members : List ℕ) (w : Work) (at : ℕ) : Type 0 where
  pub groups : at < length w.group_of
  pub names : at < length w.name_of
  pub sizes : at < length w.size_of
  pub words : 4 * at + 4 ≤ length w.bits_of
  pub marks : at < length w.mark_of
  pub numbered : HasEntry w.chunk_of members
  pub has_bits : HasBits bits members

-- the starts fall from the end of the list on, and there is room for a record for each
pub record Parts (bits members starts : List ℕ) (sizes : List Float) (marks : List ℕ) (w : Work) (at : ℕ) : Type 0 where
  pub same_count : length starts ≡ length sizes
  pub same_marks : length starts ≡ length marks
  pub first_in : (i : ℕ) → i < length starts → get_or starts i 0 ≤ length members
  pub fall : (i : ℕ) → i + 1 < length starts → get_or starts (i + 1) 0 ≤ get_or starts i 0
  pub room : (j : ℕ) → j < length starts → Room bits members w (at + j)
