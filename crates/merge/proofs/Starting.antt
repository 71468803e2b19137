-- The merge from its start: tables whose numbers are 0, 1, 2 and so on are the definition's start, and the merge is done where no turn is taken or all are.
use Prim.Native.Nat.{ℕ, ◌≤◌, ◌<◌}
use mathlib.Core.Bool.{Bool, true, false, ◌&&◌, cond, and-false, true≢false}
use mathlib.Core.List.{List, map}
use mathlib.Core.Path.{◌≡◌, sym, ap, ap₂, ◌∙◌}
use native.Mathlib.Nat.{zero-add}
use native.Mathlib.Omega.{arith}
use borrow.Author.Tests.{eq-eqb, lt-ltb, le-ltb}
use lib.Dec.{ltb}
use lib.Ieee.{Float, lt}
use lib.ListN.{length, get_or, length-map}
use Rattle.lists.specs.Keep.{keep}
use Rattle.lists.specs.Range.{range}
use Rattle.lists.proofs.Range.{length_range, get_or_range}
use Rattle.whole.specs.Double.{to_f64}
use Rattle.joins.specs.Subgroup.{Subgroup}
use Rattle.seeking.proofs.Kept.{all_kept}
use Rattle.merge.specs.Merge.{Merging, merge_steps, merged}
use Rattle.merge.specs.Tables.{subgroup_at, start, merge_of, Mergeable}
use Rattle.merge.specs.Engine.{is_there, there_in, state_of, Sound, Turns, Final}
use Rattle.merge.proofs.Ending.{final_of}

-- ---- the definition, by its one test

module _ (k : ℕ) (sizes bits : List ℕ) (threshold : Float) where
  pub length_start : length (start k sizes bits).there ≡ k
  unfolding start
  length_start = length-map (range 0 k) (subgroup_at sizes bits) ∙ length_range 0 k

  pub tested : (b : Bool) → (lt (to_f64 0) threshold && ltb 1 k) ≡ b → merge_of k sizes bits threshold ≡ cond b (merge_steps k threshold (start k sizes bits)) (start k sizes bits)
  unfolding merge_of merged
  tested b e =
      ap (λ n. cond (lt (to_f64 0) threshold && ltb 1 n) (merge_steps n threshold (start k sizes bits)) (start k sizes bits)) length_start
      ∙ ap (λ b. cond b (merge_steps k threshold (start k sizes bits)) (start k sizes bits)) e

  merges : lt (to_f64 0) threshold ≡ true → 1 < k → merge_of k sizes bits threshold ≡ merge_steps k threshold (start k sizes bits)
  merges e h = tested true (ap₂ ◌&&◌ e (lt-ltb 1 k h))

  too_few : k ≤ 1 → merge_of k sizes bits threshold ≡ start k sizes bits
  too_few h = tested false (ap (λ b. lt (to_f64 0) threshold && b) (le-ltb 1 k h) ∙ and-false (lt (to_f64 0) threshold))

  no_threshold : lt (to_f64 0) threshold ≡ false → merge_of k sizes bits threshold ≡ start k sizes bits
  no_threshold e = tested false (ap (λ b. b && ltb 1 k) e)

-- ---- tables at the start

module _ (numbers sizes bits : List ℕ) (tables : Mergeable numbers sizes bits) (n : List ℕ) (is : n ≡ range 0 (length numbers)) where
  abbrev k : ℕ
  k = length numbers

  length_n : length n ≡ length numbers
  length_n = ap length is ∙ length_range 0 (length numbers)

  pub all_there : (i : ℕ) → i < length numbers → is_there n i ≡ true
  all_there i h = eq-eqb (get_or n i 0) i (ap (λ l. get_or l i 0) is ∙ get_or_range 0 (length numbers) i 0 h ∙ zero-add i)

  pub start_state : state_of n sizes bits ≡ start (length numbers) sizes bits
  unfolding there_in start
  start_state =
      ap₂ {C = Merging} (λ (l : List Subgroup) (m : List ℕ). record { there = l; finals = m })
      (ap (λ m. map (subgroup_at sizes bits) (keep (is_there n) (range 0 m))) length_n
      ∙ ap (map (subgroup_at sizes bits)) (all_kept (is_there n) 0 k (λ i l u. all_there i (omega arith))))
      is

  pub start_sound : Sound n sizes bits
  start_sound = record {
    tables = record {
      count = rw length_n tables.count;
      sizes_fit = tables.sizes_fit ∙ sym length_n;
      bits_fit = rw length_n tables.bits_fit;
      exact = tables.exact;
    };
    no_size = λ i h e. absurd (true≢false (sym (all_there i (omega (arith, length_n))) ∙ e));
    no_bits = λ i h e. absurd (true≢false (sym (all_there i (omega (arith, length_n))) ∙ e));
  }

  module _ (threshold : Float) where
    pub done_too_few : length n ≤ 1 → Final (length numbers) (merge_of (length numbers) sizes bits threshold) n sizes bits
    done_too_few h = final_of k (merge_of k sizes bits threshold) n sizes bits length_n (start_state ∙ sym (too_few k sizes bits threshold (omega (arith, length_n)))) start_sound

    pub done_no_threshold : lt (to_f64 0) threshold ≡ false → Final (length numbers) (merge_of (length numbers) sizes bits threshold) n sizes bits
    done_no_threshold e = final_of k (merge_of k sizes bits threshold) n sizes bits length_n (start_state ∙ sym (no_threshold k sizes bits threshold e)) start_sound

    pub done_turns : lt (to_f64 0) threshold ≡ true → 1 < length n → (n' z b : List ℕ) → length n' ≡ length n → Turns threshold n sizes bits n' z b
        → Final (length numbers) (merge_of (length numbers) sizes bits threshold) n' z b
    done_turns e h n' z b same turns =
        final_of k (merge_of k sizes bits threshold) n' z b (same ∙ length_n)
        (turns.state
        ∙ ap₂ (λ (j : ℕ) (m : Merging). merge_steps j threshold m) length_n start_state
        ∙ sym (merges k sizes bits threshold e (omega (arith, length_n))))
        turns.sound
