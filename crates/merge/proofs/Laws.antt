-- What a merge keeps, for tables that pass the tests: the total of the sizes, the union of the bits, and that a final number is that of a subgroup still
-- there; that there are fewer joins than subgroups, and that none is left to make.
use Prim.Native.Nat.{ℕ, ◌^◌, ◌≤◌, ◌<◌}
use mathlib.Core.Bool.{Bool, true, false, ◌&&◌, cond, true≢false}
use mathlib.Core.List.{List}
use mathlib.Core.Option.{some}
use mathlib.Core.Path.{◌≡◌, refl, sym, ap, ap₂, ◌∙◌, subst}
use native.Mathlib.Nat.{zero-add}
use native.Mathlib.Omega.{arith}
use borrow.Author.Tests.{eqb-true, lt-ltb}
use lib.Dec.{ltb}
use lib.Ieee.{Float, lt}
use lib.ListN.{length, get_or}
use Rattle.lists.specs.Range.{range}
use Rattle.lists.specs.Sum.{sum}
use Rattle.lists.proofs.Below.{both}
use Rattle.lists.proofs.Range.{length_range, get_or_range}
use Rattle.whole.specs.Double.{to_f64}
use Rattle.whole.proofs.Larger.{over_lt}
use Rattle.bitset.specs.Entries.{row_of}
use Rattle.bitset.proofs.Words.{row_words}
use Rattle.joins.specs.Subgroup.{Subgroup, seeks}
use Rattle.merge.specs.Merge.{Merging, Join, stop, joins, next_join, merge_steps}
use Rattle.merge.specs.Tables.{subgroup_at, start, merge_of, still_there, final_sizes, final_bits, Mergeable}
use Rattle.merge.specs.Engine.{is_there, there_in, state_of, Sound, Standing, Final}
use Rattle.merge.proofs.There.{small_size}
use Rattle.merge.proofs.Next.{seeker_is, standing}
use Rattle.merge.proofs.Starting.{length_start, tested, start_state, start_sound, all_there}
use Rattle.merge.proofs.Ending.{final_of, found_there}
use Rattle.merge.proofs.Joins.{joins_of, joins_are, fewer_left, some_left, joins_below, finished}
use Rattle.merge.proofs.Union.{union_from, WordsFrom}
use Rattle.merge.proofs.Keeping.{Rooted, Keeps, reached, keeps_all}

-- ---- how many joins there are, of any subgroups

-- the number of joins of the merge of k subgroups
unfoldable pub joins_in : ℕ → List ℕ → List ℕ → Float → ℕ
unfolding joins_of
joins_in k sizes bits threshold = cond (lt (to_f64 0) threshold && ltb 1 k) (joins_of k threshold (start k sizes bits)) 0

pub at_most_one_less : (k : ℕ) (sizes bits : List ℕ) (threshold : Float) → 1 ≤ k → joins_in k sizes bits threshold < k
unfolding joins_in
at_most_one_less k sizes bits threshold h = go (lt (to_f64 0) threshold && ltb 1 k)
  where
    some : joins_of k threshold (start k sizes bits) < k
    some =
        let all = length_start k sizes bits threshold in
        omega (arith, joins_below threshold k (start k sizes bits) (omega arith))

    go : (b : Bool) → cond b (joins_of k threshold (start k sizes bits)) 0 < k
    go true = some
    go false = h

-- ---- what the merge of tables that fit leads to

-- the number is that of a subgroup that is still there
pub record OfOneThere (m : Merging) (number : ℕ) : Type 0 where
  pub subgroup : Subgroup
  pub is : still_there number m.there ≡ some subgroup
  pub its : subgroup.number ≡ number

module _ (numbers sizes bits : List ℕ) (tables : Mergeable numbers sizes bits) (threshold : Float) where
  -- tables in the state that the merge ends in
  record Result : Type 0 where
    n : List ℕ
    z : List ℕ
    b : List ℕ
    state : state_of n z b ≡ merge_of (length numbers) sizes bits threshold
    sound : Sound n z b
    keeps : Keeps (range 0 (length numbers)) sizes bits n z b

  result : Result
  result = go (lt (to_f64 0) threshold && ltb 1 (length numbers)) refl
    where
      first : state_of (range 0 (length numbers)) sizes bits ≡ start (length numbers) sizes bits
      first = start_state numbers sizes bits tables (range 0 (length numbers)) refl

      sound₀ : Sound (range 0 (length numbers)) sizes bits
      sound₀ = start_sound numbers sizes bits tables (range 0 (length numbers)) refl

      go : (b : Bool) → (lt (to_f64 0) threshold && ltb 1 (length numbers)) ≡ b → Result
      go true e =
          let r = reached threshold (length numbers) (range 0 (length numbers)) sizes bits sound₀ in
          record {
            n = r.numbers;
            z = r.sizes;
            b = r.bits;
            state = r.state ∙ ap (merge_steps (length numbers) threshold) first ∙ sym (tested (length numbers) sizes bits threshold true e);
            sound = r.sound;
            keeps = r.keeps;
          }
      go false e = record {
        n = range 0 (length numbers);
        z = sizes;
        b = bits;
        state = first ∙ sym (tested (length numbers) sizes bits threshold false e);
        sound = sound₀;
        keeps = keeps_all (range 0 (length numbers)) sizes bits;
      }

  count : length result.n ≡ length numbers
  count = result.keeps.count ∙ length_range 0 (length numbers)

  ends : Final (length numbers) (merge_of (length numbers) sizes bits threshold) result.n result.z result.b
  ends = final_of (length numbers) (merge_of (length numbers) sizes bits threshold) result.n result.z result.b count result.state result.sound

  -- ---- the total of the sizes

  pub sum_kept : sum (final_sizes (length numbers) (merge_of (length numbers) sizes bits threshold)) ≡ sum sizes
  sum_kept = ap sum (sym ends.final_sizes) ∙ result.keeps.total

  -- ---- the union of the bits

  -- the rows of a u64 table are sets of u64 words
  pub table_words : ((i : ℕ) → i < length bits → get_or bits i 0 < 2 ^ 64) → WordsFrom (row_of bits) 0 (length numbers)
  table_words small i l u = row_words bits i (omega (arith, tables.bits_fit)) small

  pub union_kept : WordsFrom (row_of bits) 0 (length numbers)
      → union_from (row_of (final_bits (length numbers) (merge_of (length numbers) sizes bits threshold))) 0 (length numbers) ≡ union_from (row_of bits) 0 (length numbers)
  union_kept w =
      let same : length (range 0 (length numbers)) ≡ length numbers = length_range 0 (length numbers) in
      ap (λ l. union_from (row_of l) 0 (length numbers)) (sym ends.final_bits)
      ∙ ap (union_from (row_of result.b) 0) (sym same)
      ∙ result.keeps.union (subst (WordsFrom (row_of bits) 0) (sym same) w)
      ∙ ap (union_from (row_of bits) 0) same

  -- ---- final numbers

  rooted₀ : (i : ℕ) → i < length (range 0 (length numbers)) → Rooted (range 0 (length numbers)) i
  rooted₀ i h =
      let all : length (range 0 (length numbers)) ≡ length numbers = length_range 0 (length numbers) in
      let at : get_or (range 0 (length numbers)) i 0 ≡ i = get_or_range 0 (length numbers) i 0 (omega arith) ∙ zero-add i in
      record {
        inside = omega arith;
        still = ap (is_there (range 0 (length numbers))) at ∙ all_there numbers sizes bits tables (range 0 (length numbers)) refl i (omega arith);
      }

  rooted : (i : ℕ) → i < length numbers → Rooted result.n i
  rooted i h = result.keeps.rooted rooted₀ i (omega (arith, length_range 0 (length numbers)))

  finals_are : (merge_of (length numbers) sizes bits threshold).finals ≡ result.n
  finals_are = sym ends.final_numbers

  pub final_below : (i : ℕ) → i < length numbers → get_or (merge_of (length numbers) sizes bits threshold).finals i 0 < length numbers
  final_below i h = rw finals_are (omega (arith, (rooted i h).inside, count))

  -- a final number is its own final number
  pub final_stays : (i : ℕ) → i < length numbers
      → get_or (merge_of (length numbers) sizes bits threshold).finals (get_or (merge_of (length numbers) sizes bits threshold).finals i 0) 0
      ≡ get_or (merge_of (length numbers) sizes bits threshold).finals i 0
  final_stays i h = subst (λ l. get_or l (get_or l i 0) 0 ≡ get_or l i 0) (sym finals_are) (eqb-true (get_or result.n (get_or result.n i 0) 0) (get_or result.n i 0) (rooted i h).still)

  pub final_still_there : (i : ℕ) → i < length numbers
      → OfOneThere (merge_of (length numbers) sizes bits threshold) (get_or (merge_of (length numbers) sizes bits threshold).finals i 0)
  unfolding subgroup_at
  final_still_there i h =
      let r = rooted i h in
      subst (λ m. OfOneThere m (get_or m.finals i 0)) result.state
      (record {
        subgroup = subgroup_at result.z result.b (get_or result.n i 0);
        is = found_there result.n result.z result.b result.sound (get_or result.n i 0) r.inside r.still;
        its = refl;
      })

  -- ---- no join is left to make

  seeker_below : (s : Subgroup) → (n : ℕ) → n ≤ 2 ^ 53 → s.size ≡ to_f64 n → seeks threshold s ≡ true → lt (to_f64 0) threshold ≡ true
  unfolding seeks
  seeker_below s n h e q =
      let w = both (lt (to_f64 0) s.size) (lt s.size threshold) q in
      over_lt 0 n (omega arith) h threshold (ap (λ x. lt x threshold) (sym e) ∙ w.1)

  no_join_at_start : (j : Join) → next_join threshold (there_in (range 0 (length numbers)) sizes bits) ≡ j → (lt (to_f64 0) threshold && ltb 1 (length numbers)) ≡ false
      → next_join threshold (there_in (range 0 (length numbers)) sizes bits) ≡ stop
  unfolding subgroup_at
  no_join_at_start stop e f = e
  no_join_at_start (joins s t) e f =
      let first = range 0 (length numbers) in
      let sound = start_sound numbers sizes bits tables first refl in
      let all : length (there_in first sizes bits) ≡ length numbers =
      ap (λ m. length m.there) (start_state numbers sizes bits tables first refl) ∙ length_start (length numbers) sizes bits threshold in
      let who = seeker_is threshold (there_in first sizes bits) s (joins_are s t threshold (there_in first sizes bits) e).0 (Standing first sizes bits) (standing first sizes bits) in
      let above : lt (to_f64 0) threshold ≡ true =
      seeker_below s (get_or sizes s.number 0) (small_size sound.tables s.number who.0.inside) (ap (λ u. u.size) who.0.is) who.1 in
      let more : 1 < length numbers = omega (arith, fewer_left threshold (state_of first sizes bits) s t e, some_left threshold (state_of first sizes bits) s t e) in
      absurd (true≢false (sym (ap₂ ◌&&◌ above (lt-ltb 1 (length numbers) more)) ∙ f))

  pub no_join_left : next_join threshold (merge_of (length numbers) sizes bits threshold).there ≡ stop
  no_join_left = go (lt (to_f64 0) threshold && ltb 1 (length numbers)) refl
    where
      go : (b : Bool) → (lt (to_f64 0) threshold && ltb 1 (length numbers)) ≡ b → next_join threshold (merge_of (length numbers) sizes bits threshold).there ≡ stop
      go true e =
          ap (λ m. next_join threshold m.there) (tested (length numbers) sizes bits threshold true e)
          ∙ finished threshold (length numbers) (start (length numbers) sizes bits) (omega (arith, length_start (length numbers) sizes bits threshold))
      go false e =
          ap (λ m. next_join threshold m.there) (tested (length numbers) sizes bits threshold false e ∙ sym (start_state numbers sizes bits tables (range 0 (length numbers)) refl))
          ∙ no_join_at_start (next_join threshold (there_in (range 0 (length numbers)) sizes bits)) refl e
