-- The call: the first condition that applies gives the number and leaves the area; a call that none applies to writes the name.
use Prim.Native.Nat.{ℕ, ◌≤◌}
use mathlib.Core.Bool.{true}
use mathlib.Core.List.{List, []}
use mathlib.Core.Path.{◌≡◌, refl, sym, ap, ◌∙◌}
use lib.ListN.{length}
use Rattle.refusal.specs.Outcome.{refused, accepted, Test, outcome, first_number, ascending, Applies}
use Rattle.std.specs.Prelude.Result.{Ok, Err}
use Rattle.refusal.specs.Answers.{refusal_number}
use Rattle.refusal.specs.declared.Refusal.{Refusal}
use Rattle.refusal.proofs.Calls.{refuses_call, accepts_call}
use Rattle.refusal.proofs.Ladder.{part_refuses, past}
use Rattle.refusal.proofs.Lowest.{lowest}
use Rattle.chunk_names.specs.Given.{Given, entry_names, group_name, chunk_name}
use Rattle.chunk_names.specs.Name.{name_of}
use Rattle.chunk_names.specs.Append.{Appended}
use Rattle.chunk_names.specs.Conditions.{table_tests, chunk_tests}
use Rattle.chunk_names.specs.Call.{name_tests, name_outcome, NameCall}
use Rattle.chunk_names.proofs.Appending.{whole_length, whole_bytes}
use Rattle.chunk_names.proofs.ChunkTests.{passed}
use Rattle.chunk_names.proofs.HashBytes.{good_hash}
use Rattle.chunk_names.proofs.NameLength.{name_fits}

module _ (g : Given) (room : ℕ) where
  -- the order of tests ascends, so the first number is the lowest
  pub tests_ascend : ascending (name_tests g room) ≡ true
  unfolding name_tests table_tests chunk_tests ascending
  tests_ascend = refl

  pub lowest_number : (n : ℕ) → name_outcome g room ≡ refused n → Applies n (name_tests g room) × ((m : ℕ) → Applies m (name_tests g room) → n ≤ m)
  unfolding name_outcome
  lowest_number n e = lowest (length (chunk_name g)) n (name_tests g room) tests_ascend e

  abbrev of_tables : List Test
  of_tables = table_tests g.names

  abbrev of_chunk : List Test
  of_chunk = chunk_tests g.names g.number g.hash room

  refused_tables : (e : Refusal) → refusal_number e ≡ first_number of_tables → name_outcome g room ≡ refused (refusal_number e)
  unfolding name_outcome name_tests
  refused_tables e told = sym (part_refuses (length (chunk_name g)) e of_tables of_chunk told)

  module _ (tables : 0 ≡ first_number of_tables) where
    after_tables : name_outcome g room ≡ outcome of_chunk (length (chunk_name g))
    unfolding name_outcome name_tests table_tests
    after_tables = past (length (chunk_name g)) of_tables of_chunk refl tables

    refused_chunk : (e : Refusal) → refusal_number e ≡ first_number of_chunk → name_outcome g room ≡ refused (refusal_number e)
    unfolding chunk_tests
    refused_chunk e told = after_tables ∙ sym (part_refuses (length (chunk_name g)) e of_chunk [] told)

    accepted_chunk : 0 ≡ first_number of_chunk → name_outcome g room ≡ accepted (length (chunk_name g))
    unfolding chunk_tests outcome
    accepted_chunk e = after_tables ∙ past (length (chunk_name g)) of_chunk [] refl e

module _ (g : Given) (area : List ℕ) where
  pub refuses_tables : (e : Refusal) → refusal_number e ≡ first_number (of_tables g (length area)) → NameCall g (Err e) area area
  refuses_tables e told = refuses_call area (refused_tables g (length area) e told)

  module _ (tables : 0 ≡ first_number (of_tables g (length area))) where
    pub refuses_chunk : (e : Refusal) → refusal_number e ≡ first_number (of_chunk g (length area)) → NameCall g (Err e) area area
    refuses_chunk e told = refuses_call area (refused_chunk g (length area) tables e told)

    pub names : 0 ≡ first_number (of_chunk g (length area)) → (end : ℕ) (after : List ℕ) → Appended area 0 (chunk_name g) end after → NameCall g (Ok end) area after
    names e end after x =
        let p = passed g.names g.number g.hash (length area) e in
        let fits = name_fits g (length area) (good_hash g.hash p.good_hash).0 p.roomy.enough p.roomy.holds_group in
        accepts_call (accepted_chunk g (length area) tables e ∙ ap accepted (sym (whole_length fits x))) (λ _. whole_bytes fits x)

-- the name that is written is the definition's, of the group name that was found
pub same_name : (g : Given) {group : List ℕ} → group ≡ group_name g.names g.number
    → name_of g.entries_aware group g.bits (entry_names g.names) g.hash ≡ chunk_name g
unfolding chunk_name
same_name g e = ap (λ (group : List ℕ). name_of g.entries_aware group g.bits (entry_names g.names) g.hash) e
