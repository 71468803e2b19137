-- What entries add to a full name: one with its bit and one without, one more, and none at or above E.
use Prim.Native.Nat.{ℕ, zero, suc, ◌+◌, ◌-◌, ◌≤◌}
use mathlib.Core.Bool.{Bool, true, false, cond}
use mathlib.Core.List.{List, [], ◌∷◌, ◌++◌, flat_map, append-nil}
use mathlib.Core.Path.{◌≡◌, refl, sym, ap, ap₂, ◌∙◌}
use native.Mathlib.Nat.{zero-add}
use native.Mathlib.Numerals.{add-one}
use native.Mathlib.Omega.{arith}
use lib.ListN.{length, get_or, get_or-eq_default}
use Rattle.lists.specs.Range.{range}
use Rattle.lists.proofs.FlatMap.{flat_map_append}
use Rattle.lists.proofs.Range.{range_snoc, range_append}
use Rattle.bitset.specs.Entries.{has_bit}
use Rattle.bitset.specs.declared.entries.BitSet.{BitSet}
use Rattle.chunk_names.specs.Name.{separator, separated, added, entry_parts}

either : (t : Bool) → cond {A = List ℕ} t [] [] ≡ []
either true = refl
either false = refl

module _ (bits : BitSet) (names : List (List ℕ)) where
  pub added_with : (entry : ℕ) → has_bit bits entry ≡ true → added bits names entry ≡ separated (get_or names entry [])
  unfolding added
  added_with entry e = rw e

  pub added_without : (entry : ℕ) → has_bit bits entry ≡ false → added bits names entry ≡ []
  unfolding added
  added_without entry e = rw e

  nameless : (entry : ℕ) → length names ≤ entry → added bits names entry ≡ []
  unfolding added separated
  nameless entry h = rw (get_or-eq_default names [] h) (either (has_bit bits entry))

  none_from : (from count : ℕ) → length names ≤ from → flat_map (added bits names) (range from count) ≡ []
  unfolding flat_map range
  none_from from zero h = refl
  none_from from (suc count) h = ap₂ (λ (l m : List ℕ). l ++ m) (nameless from h) (none_from (suc from) count (omega arith))

  -- what the first n entries add
  abbrev pub added_to : ℕ → List ℕ
  added_to n = flat_map (added bits names) (range 0 n)

  pub added_none : added_to 0 ≡ []
  unfolding flat_map range
  added_none = refl

  pub added_more : (n : ℕ) → added_to (n + 1) ≡ added_to n ++ added bits names n
  unfolding flat_map range
  added_more n =
      let next : range 0 (n + 1) ≡ range 0 n ++ (n ∷ []) = rw add-one (range_snoc 0 n ∙ ap (λ m. range 0 n ++ (m ∷ [])) (zero-add n)) in
      ap (flat_map (added bits names)) next
      ∙ flat_map_append (added bits names) (range 0 n) (n ∷ [])
      ∙ ap (λ (l : List ℕ). added_to n ++ l) (append-nil (added bits names n))

  pub added_all : length names ≤ 256 → added_to (length names) ≡ entry_parts bits names
  unfolding entry_parts
  added_all h =
      let e : 256 ≡ length names + (256 - length names) = omega arith in
      sym
      (ap added_to e
      ∙ ap (flat_map (added bits names)) (range_append 0 (length names) (256 - length names))
      ∙ flat_map_append (added bits names) (range 0 (length names)) (range (0 + length names) (256 - length names))
      ∙ ap (λ (l : List ℕ). added_to (length names) ++ l) (none_from (0 + length names) (256 - length names) (omega arith))
      ∙ append-nil (added_to (length names)))

-- ---- the name of an entry with its bit

-- an empty name adds nothing
pub separated_none : (name : List ℕ) → length name ≡ 0 → separated name ≡ []
unfolding separated
separated_none [] e = refl
separated_none (b ∷ name) e = absurd (omega arith)

-- any other adds a separator and itself
pub separated_some : (name : List ℕ) → (length name ≡ 0 → ⊥) → separated name ≡ separator ∷ name
unfolding separated
separated_some [] e = absurd (e refl)
separated_some (b ∷ name) e = refl
