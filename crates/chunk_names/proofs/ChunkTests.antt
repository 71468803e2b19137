-- Refusals 10, 12, 14, 15 and 16, one after another, and what a call that passes them is handed.
use Prim.Native.Nat.{ℕ, ◌≤◌, ◌<◌}
use mathlib.Core.Bool.{true, false, ◌||◌, or-true}
use mathlib.Core.List.{List}
use mathlib.Core.Path.{◌≡◌}
use native.Mathlib.Omega.{arith}
use borrow.Author.Tests.{lt-ltb, le-ltb, le-leb, lt-leb, ltb-false, leb-false}
use lib.Dec.{ltb, leb}
use lib.ListN.{length}
use Rattle.lists.proofs.Below.{neither}
use Rattle.refusal.specs.Outcome.{first_number}
use Rattle.refusal.proofs.Ladder.{none_applies, applies, passes, number, no_number, left}
use Rattle.name_tables.specs.Conditions.{any_not_utf8, unordered}
use Rattle.chunk_names.specs.Name.{max_chunk_name_len}
use Rattle.chunk_names.specs.Given.{Names, group_names, entry_names, group_name}
use Rattle.chunk_names.specs.Conditions.{bad_hash, chunk_tests}

module _ (t : Names) (chunk : ℕ) (hash : List ℕ) (room : ℕ) where
  -- what a call that passes 10 and 12 is handed
  pub record Roomy : Type 0 where
    pub known : chunk < t.k
    pub enough : max_chunk_name_len ≤ room
    pub holds_group : length (group_name t chunk) ≤ room

  -- and one that passes 14, 15 and 16
  pub record Passed : Type 0 where
    pub roomy : Roomy
    pub groups_text : any_not_utf8 (group_names t) ≡ false
    pub entries_text : any_not_utf8 (entry_names t) ≡ false
    pub ascend : unordered (group_names t) ≡ false
    pub good_hash : bad_hash hash ≡ false

  abbrev first : ℕ
  first = first_number (chunk_tests t chunk hash room)

  pub unknown : t.k ≤ chunk → 10 ≡ first
  unfolding chunk_tests
  unknown h = number (applies (le-leb t.k chunk h))

  pub area_short : chunk < t.k → room < max_chunk_name_len → 12 ≡ first
  unfolding chunk_tests
  area_short k h = number (passes (lt-leb t.k chunk k) (applies (rw (lt-ltb room max_chunk_name_len h))))

  pub group_long : chunk < t.k → room < length (group_name t chunk) → 12 ≡ first
  unfolding chunk_tests
  group_long k h = number (passes (lt-leb t.k chunk k) (applies (rw (lt-ltb room (length (group_name t chunk)) h, or-true))))

  module _ (r : Roomy) where
    known_passes : leb t.k chunk ≡ false
    known_passes = lt-leb t.k chunk r.known

    room_passes : (ltb room max_chunk_name_len || ltb room (length (group_name t chunk))) ≡ false
    room_passes = rw (le-ltb room max_chunk_name_len r.enough, le-ltb room (length (group_name t chunk)) r.holds_group)

    pub groups_not_text : any_not_utf8 (group_names t) ≡ true → 14 ≡ first
    unfolding chunk_tests
    groups_not_text h = number (passes known_passes (passes room_passes (applies (rw h))))

    pub entries_not_text : any_not_utf8 (entry_names t) ≡ true → 14 ≡ first
    unfolding chunk_tests
    entries_not_text h = number (passes known_passes (passes room_passes (applies (rw (h, or-true)))))

    module _ (g : any_not_utf8 (group_names t) ≡ false) (e : any_not_utf8 (entry_names t) ≡ false) where
      text_passes : (any_not_utf8 (group_names t) || any_not_utf8 (entry_names t)) ≡ false
      text_passes = rw (g, e)

      pub not_ascending : unordered (group_names t) ≡ true → 15 ≡ first
      unfolding chunk_tests
      not_ascending h = number (passes known_passes (passes room_passes (passes text_passes (applies h))))

      pub hash_bad : unordered (group_names t) ≡ false → bad_hash hash ≡ true → 16 ≡ first
      unfolding chunk_tests
      hash_bad o h = number (passes known_passes (passes room_passes (passes text_passes (passes o (applies h)))))

      pub none_bad : unordered (group_names t) ≡ false → bad_hash hash ≡ false → 0 ≡ first
      unfolding chunk_tests
      none_bad o h = no_number (passes known_passes (passes room_passes (passes text_passes (passes o (passes h none_applies)))))

  -- no number: none of them applies
  pub passed : 0 ≡ first → Passed
  unfolding chunk_tests
  passed e =
      let known = left 10 _ _ (omega arith) e in
      let area = left 12 _ _ (omega arith) known.1 in
      let text = left 14 _ _ (omega arith) area.1 in
      let order = left 15 _ _ (omega arith) text.1 in
      let hash-bytes = left 16 _ _ (omega arith) order.1 in
      let rooms = neither (ltb room max_chunk_name_len) (ltb room (length (group_name t chunk))) area.0 in
      let texts = neither (any_not_utf8 (group_names t)) (any_not_utf8 (entry_names t)) text.0 in
      record {
        roomy = record {
          known = leb-false t.k chunk known.0;
          enough = ltb-false room max_chunk_name_len rooms.0;
          holds_group = ltb-false room (length (group_name t chunk)) rooms.1;
        };
        groups_text = texts.0;
        entries_text = texts.1;
        ascend = order.0;
        good_hash = hash-bytes.0;
      }
