-- One byte more than the longest name is enough of a full name: it tells whether the name is cut, and the cut reads no further.
use Prim.Native.Nat.{ℕ, ◌+◌, ◌-◌, ◌≤◌, ◌<◌}
use mathlib.Core.List.{List, [], ◌∷◌, ◌++◌, append-nil, append_assoc}
use mathlib.Core.Path.{◌≡◌, sym, ap, ◌∙◌}
use native.Mathlib.Nat.{zero-add}
use native.Mathlib.Omega.{arith}
use borrow.Author.Tests.{lt-ltb, le-ltb}
use lib.ListN.{length, take, drop, length-take, drop_of_length-le}
use lib.Seq.{take_all, take_at, take-take, get_or-take}
use Rattle.utf8.specs.Start.{start_back}
use Rattle.utf8.proofs.Starts.{start_back_le, start_back_same}
use Rattle.chunk_names.specs.Append.{fitting, Appended}
use Rattle.chunk_names.specs.Name.{separator, max_chunk_name_len, truncated_len, shortened, entries_aware_name}

-- what is kept, a separator and the hash, as they are put behind one another
pub kept_shortened : (front hash : List ℕ) (cut : ℕ) → cut ≡ start_back front truncated_len → (take cut front ++ (separator ∷ [])) ++ hash ≡ shortened front hash
unfolding shortened
kept_shortened front hash cut e =
    append_assoc (take cut front) (separator ∷ []) hash ∙ ap (λ n. take n front ++ (separator ∷ hash)) e

-- the cut of a front that has byte 91 is the cut of the whole
front_shortened : (room : ℕ) (full hash : List ℕ) → truncated_len < room → shortened (take room full) hash ≡ shortened full hash
unfolding shortened
front_shortened room full hash h =
    let same : start_back (take room full) truncated_len ≡ start_back full truncated_len =
    start_back_same (take room full) full truncated_len (λ j l. get_or-take room full j 0 (omega arith)) in
    let near = start_back_le full truncated_len in
    ap (λ (l : List ℕ). l ++ (separator ∷ hash))
    (ap (λ n. take n (take room full)) same ∙ take-take (start_back full truncated_len) room full (omega arith))

module _ (full hash : List ℕ) where
  kept_whole : length full ≤ max_chunk_name_len → full ≡ entries_aware_name full hash
  unfolding entries_aware_name
  kept_whole h = rw (le-ltb max_chunk_name_len (length full) h)

  cut_short : max_chunk_name_len < length full → shortened full hash ≡ entries_aware_name full hash
  unfolding entries_aware_name
  cut_short h = rw (lt-ltb max_chunk_name_len (length full) h)

-- ---- the area that a full name was put into

module _ {area full after : List ℕ} {end : ℕ} (x : Appended area 0 full end after) where
  ends_at : end ≡ length (take (length area - 0) full)
  ends_at = x.ends ∙ zero-add _

  -- it holds the front of the name
  held : take end after ≡ take (length area - 0) full
  held = ap (take end) x.bytes ∙ take_at (fitting area 0 full) (drop (0 + length (fitting area 0 full)) area) end (sym ends_at)

  short_length : end < length area → length full ≤ end
  short_length h = omega (arith, ends_at, length-take (length area - 0) full)

  short_held : end < length area → take end after ≡ full
  short_held h = held ∙ take_all (length area - 0) full (omega (arith, short_length h))

  long_length : length area ≤ end → length area ≤ length full
  long_length h = omega (arith, ends_at, length-take (length area - 0) full)

  long_held : length area ≤ end → after ≡ take (length area) full
  long_held h =
      let l = ends_at in
      let n : length area ≤ 0 + length (fitting area 0 full) = omega (arith, ends_at) in
      let z : length area - 0 ≡ length area = omega arith in
      x.bytes ∙ ap (λ (r : List ℕ). fitting area 0 full ++ r) (drop_of_length-le area n) ∙ append-nil (fitting area 0 full) ∙ ap (λ m. take m full) z

  -- an area of one byte more than the longest name: the name as it is, or cut
  module _ (room : length area ≡ max_chunk_name_len + 1) (hash : List ℕ) where
    pub short_name : end ≤ max_chunk_name_len → take end after ≡ entries_aware_name full hash
    short_name h = let l : end < length area = omega arith in short_held l ∙ kept_whole full hash (omega (arith, short_length l))

    pub long_name : max_chunk_name_len < end → shortened after hash ≡ entries_aware_name full hash
    long_name h =
        let l : length area ≤ end = omega arith in
        ap (λ (f : List ℕ). shortened f hash) (long_held l)
        ∙ front_shortened (length area) full hash (omega arith)
        ∙ cut_short full hash (omega (arith, long_length l))
