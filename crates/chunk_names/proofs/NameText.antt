-- The name of an accepted call is UTF-8 again, and a cut leaves as much of the full name as can be left.
use Prim.Native.Nat.{ℕ, ◌≤◌, ◌<◌}
use mathlib.Core.Bool.{Bool, true, false, cond, true≢false}
use mathlib.Core.List.{List, [], ◌∷◌, flat_map}
use mathlib.Core.Path.{◌≡◌, refl, sym, ap, ◌∙◌}
use native.Mathlib.Decide.{dec_lt}
use native.Mathlib.Omega.{arith}
use lib.Dec.{ltb}
use lib.ListN.{length, get_or, take, length-append, length-take}
use Rattle.lists.specs.Range.{range}
use Rattle.refusal.specs.Outcome.{accepted}
use Rattle.refusal.proofs.Ladder.{part_passed}
use Rattle.bitset.specs.Entries.{has_bit}
use Rattle.bitset.specs.declared.entries.BitSet.{BitSet}
use Rattle.ids.proofs.IdParts.{ids_at}
use Rattle.utf8.specs.Utf8.{utf8}
use Rattle.utf8.specs.Start.{start_back}
use Rattle.utf8.proofs.Texts.{utf8_append, utf8_ascii}
use Rattle.utf8.proofs.Cuts.{utf8_cut, cut_starts}
use Rattle.utf8.proofs.Starts.{start_back_starts, start_back_last, start_back_near}
use Rattle.name_tables.proofs.AllText.{empty_text, all_text}
use Rattle.chunk_names.specs.Name.{separator, max_chunk_name_len, truncated_len, separated, added, entry_parts, shortened, entries_aware_name, full_name, name_of}
use Rattle.chunk_names.specs.Given.{Given, group_names, entry_names, group_name, chunk_name}
use Rattle.chunk_names.specs.Conditions.{any_high, table_tests, chunk_tests}
use Rattle.chunk_names.specs.Call.{name_tests, name_outcome}
use Rattle.chunk_names.proofs.ChunkTests.{Passed, passed}
use Rattle.chunk_names.proofs.HashBytes.{all_low, good_hash}
use Rattle.chunk_names.proofs.NameLength.{at_most_100}

-- ---- the parts of a name

separator_text : utf8 (separator ∷ []) ≡ true
unfolding utf8
separator_text = refl

separated_text : (name : List ℕ) → utf8 name ≡ true → utf8 (separated name) ≡ true
unfolding separated
separated_text [] e = empty_text
separated_text (b ∷ name) e = utf8_append (separator ∷ []) (b ∷ name) separator_text e

module _ (names : List (List ℕ)) (text : (k : ℕ) → utf8 (get_or names k []) ≡ true) (bits : BitSet) where
  added_text : (entry : ℕ) → utf8 (added bits names entry) ≡ true
  unfolding added
  added_text entry = go (has_bit bits entry)
    where
      go : (t : Bool) → utf8 (cond t (separated (get_or names entry [])) []) ≡ true
      go true = separated_text (get_or names entry []) (text entry)
      go false = empty_text

  parts_text : (entries : List ℕ) → utf8 (flat_map (added bits names) entries) ≡ true
  unfolding flat_map
  parts_text [] = empty_text
  parts_text (entry ∷ entries) = utf8_append (added bits names entry) (flat_map (added bits names) entries) (added_text entry) (parts_text entries)

  full_text : (group : List ℕ) → utf8 group ≡ true → utf8 (full_name group bits names) ≡ true
  unfolding full_name entry_parts
  full_text group e = utf8_append group (entry_parts bits names) e (parts_text (range 0 256))

-- ---- a name that is cut

module _ (full : List ℕ) (text : utf8 full ≡ true) where
  kept_text : utf8 (take (start_back full truncated_len) full) ≡ true
  kept_text = (utf8_cut full (start_back full truncated_len) text (start_back_starts full truncated_len text)).0

  -- what is kept is the longest front of at most 91 bytes that is text
  pub kept_longest : (n : ℕ) → n ≤ truncated_len → utf8 (take n full) ≡ true → n ≤ start_back full truncated_len
  kept_longest n h e = go (dec_lt (start_back full truncated_len) n)
    where
      go : Dec (start_back full truncated_len < n) → n ≤ start_back full truncated_len
      go (yes l) = absurd (true≢false (sym (cut_starts full n text e) ∙ start_back_last full truncated_len n l h))
      go (no l) = omega arith

  module _ (hash : List ℕ) (eight : length hash ≡ 8) (low : any_high hash ≡ false) where
    hash_text : utf8 hash ≡ true
    hash_text = utf8_ascii hash (all_low hash low)

    shortened_text : utf8 (shortened full hash) ≡ true
    unfolding shortened
    shortened_text = utf8_append (take (start_back full truncated_len) full) (separator ∷ hash) kept_text (utf8_append (separator ∷ []) hash separator_text hash_text)

    aware_text : utf8 (entries_aware_name full hash) ≡ true
    unfolding entries_aware_name
    aware_text = go (ltb max_chunk_name_len (length full))
      where
        go : (t : Bool) → utf8 (cond t (shortened full hash) full) ≡ true
        go true = shortened_text
        go false = text

    -- a character has at most four bytes, so a name that is cut has at least 97
    pub shortened_near : max_chunk_name_len < length full → 97 ≤ length (shortened full hash)
    unfolding shortened
    shortened_near h =
        let near = start_back_near full truncated_len text in
        rw (length-append (take (start_back full truncated_len) full) (separator ∷ hash), length-take (start_back full truncated_len) full) (omega arith)

-- ---- an accepted call

module _ (g : Given) (room length' : ℕ) (e : name_outcome g room ≡ accepted length') where
  handed : Passed g.names g.number g.hash room
  unfolding name_outcome name_tests chunk_tests
  handed =
      let a = length (chunk_name g) in
      let tests = chunk_tests g.names g.number g.hash room in
      passed g.names g.number g.hash room (part_passed a length' tests [] (part_passed a length' (table_tests g.names) tests e).1).0

  group_text : utf8 (group_name g.names g.number) ≡ true
  group_text =
      ap utf8 (sym (ids_at g.names.k g.names.group_names g.names.group_offsets g.number handed.roomy.known))
      ∙ all_text (group_names g.names) handed.groups_text g.number

  -- its name is UTF-8
  pub name_text : utf8 (chunk_name g) ≡ true
  unfolding chunk_name name_of
  name_text = go g.entries_aware
    where
      go : (t : Bool) → utf8 (name_of t (group_name g.names g.number) g.bits (entry_names g.names) g.hash) ≡ true
      go true =
          let h = good_hash g.hash handed.good_hash in
          aware_text (full_name (group_name g.names g.number) g.bits (entry_names g.names))
          (full_text (entry_names g.names) (all_text (entry_names g.names) handed.entries_text) g.bits (group_name g.names g.number) group_text)
          g.hash h.0 h.1
      go false = group_text

  -- and of at most 100 bytes, if the chunk is entries-aware
  pub name_short : g.entries_aware ≡ true → length (chunk_name g) ≤ max_chunk_name_len
  name_short = at_most_100 g (good_hash g.hash handed.good_hash).0
