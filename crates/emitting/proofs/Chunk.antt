-- One chunk: the areas are those after it field by field, and it keeps their lengths.
use Prim.Native.Nat.{ℕ, suc, ◌+◌, ◌-◌, ◌*◌, ◌≤◌, ◌<◌}
use mathlib.Core.List.{List, [], ◌∷◌}
use mathlib.Core.Path.{◌≡◌, refl, ap, ◌∙◌}
use native.Mathlib.Numerals.{add-one}
use native.Mathlib.Omega.{arith}
use lib.ListN.{length, get_or, set, take, drop, length-take, length-set}
use lib.Seq.{get_or-take, get_or-drop}
use Rattle.bitset.specs.Rows.{with_row}
use Rattle.bitset.proofs.Rows.{length_with_row}
use Rattle.emitting.specs.Emitted.{Work, Emission, Room, bits_of_chunk, with_number, with_chunk, SameLengths}

-- what is written field by field is the chunk
pub record Written (bits : List ℕ) (number at : ℕ) (e : Emission) (before after : Work) : Type 0 where
  pub numbers : after.chunk_of ≡ with_number e.modules (number + 1) before.chunk_of
  pub group : after.group_of ≡ set before.group_of at e.head.group
  pub name : after.name_of ≡ set before.name_of at e.head.name
  pub size : after.size_of ≡ set before.size_of at e.size
  pub words : after.bits_of ≡ with_row before.bits_of at (bits_of_chunk bits e.head e.modules)
  pub mark : after.mark_of ≡ set before.mark_of at e.mark

pub written_chunk : {bits : List ℕ} {number at : ℕ} {e : Emission} {before after : Work} → Written bits number at e before after
    → after ≡ with_chunk bits number at e before
unfolding with_chunk
written_chunk {number = number} {e = e} {before = before} p = λ i. record {
  chunk_of = (p.numbers ∙ ap (λ n. with_number e.modules n before.chunk_of) (add-one number)) i;
  group_of = p.group i;
  name_of = p.name i;
  size_of = p.size i;
  bits_of = p.words i;
  mark_of = p.mark i;
}

-- ---- lengths

pub same_lengths : (w : Work) → SameLengths w w
same_lengths w = record { chunk_of = refl; group_of = refl; name_of = refl; size_of = refl; bits_of = refl; mark_of = refl }

pub lengths_kept : {u v w : Work} → SameLengths u v → SameLengths v w → SameLengths u w
lengths_kept p q = record {
  chunk_of = p.chunk_of ∙ q.chunk_of;
  group_of = p.group_of ∙ q.group_of;
  name_of = p.name_of ∙ q.name_of;
  size_of = p.size_of ∙ q.size_of;
  bits_of = p.bits_of ∙ q.bits_of;
  mark_of = p.mark_of ∙ q.mark_of;
}

pub number_length : (modules : List ℕ) (number : ℕ) (l : List ℕ) → length (with_number modules number l) ≡ length l
unfolding with_number
number_length [] number l = refl
number_length (m ∷ modules) number l = number_length modules number (set l m number) ∙ length-set l m number

-- a chunk with room for its record keeps the lengths of all areas
pub room_kept : (bits : List ℕ) (number at : ℕ) (e : Emission) (w : Work) → 4 * at + 4 ≤ length w.bits_of → SameLengths (with_chunk bits number at e w) w
unfolding with_chunk
room_kept bits number at e w h = record {
  chunk_of = number_length e.modules (suc number) w.chunk_of;
  group_of = length-set w.group_of at e.head.group;
  name_of = length-set w.name_of at e.head.name;
  size_of = length-set w.size_of at e.size;
  bits_of = length_with_row w.bits_of at (bits_of_chunk bits e.head e.modules) h;
  mark_of = length-set w.mark_of at e.mark;
}

-- there is room for a part of a list in areas of the same lengths
pub room_part : {bits members : List ℕ} {v w : Work} {at : ℕ} (start end : ℕ) → end ≤ length members → SameLengths v w → Room bits members w at
    → Room bits (take (end - start) (drop start members)) v at
room_part {members = members} start end within s r = record {
  groups = rw s.group_of r.groups;
  names = rw s.name_of r.names;
  sizes = rw s.size_of r.sizes;
  words = rw s.bits_of r.words;
  marks = rw s.mark_of r.marks;
  numbered = λ i h. rw (at_part i h, s.chunk_of) (r.numbered (start + i) (inside i h));
  has_bits = λ i h. rw (at_part i h) (r.has_bits (start + i) (inside i h));
}
  where
    below : (i : ℕ) → i < length (take (end - start) (drop start members)) → i < end - start
    below i h = omega (arith, length-take (end - start) (drop start members))

    inside : (i : ℕ) → i < length (take (end - start) (drop start members)) → start + i < length members
    inside i h = omega (arith, below i h)

    at_part : (i : ℕ) → i < length (take (end - start) (drop start members)) → get_or (take (end - start) (drop start members)) i 0 ≡ get_or members (start + i) 0
    at_part i h = get_or-take (end - start) (drop start members) i 0 (below i h) ∙ get_or-drop start members i 0
