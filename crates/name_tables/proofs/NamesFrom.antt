-- The names of a table from name k on, as the loops over them meet them.
use Prim.Native.Nat.{ℕ, suc, ◌+◌, ◌-◌, ◌≤◌, ◌<◌}
use mathlib.Core.Bool.{Bool, false, not, ◌||◌}
use mathlib.Core.List.{List, [], ◌∷◌}
use mathlib.Core.Path.{◌≡◌, ap, ◌∙◌}
use native.Mathlib.Decide.{dec_lt}
use native.Mathlib.Numerals.{add-one}
use native.Mathlib.Omega.{arith}
use lib.ListN.{length, drop, drop_of_length-le}
use lib.Seq.{drop-cons}
use Rattle.ids.specs.Parts.{InTable}
use Rattle.ids.specs.Order.{before}
use Rattle.ids.proofs.IdParts.{in_table, ids_length, ids_at}
use Rattle.utf8.specs.Utf8.{utf8}
use Rattle.name_tables.specs.Names.{name_at, names_of, NameTable}
use Rattle.name_tables.specs.Conditions.{any_not_utf8, unordered}

-- every name of a table that passes 2 and 3 is a part of the bytes
pub name_in_table : (count : ℕ) (bytes offsets : List ℕ) → NameTable count bytes offsets → (k : ℕ) → k < count → InTable bytes offsets k
name_in_table count bytes offsets t k h = in_table (length bytes) bytes offsets k t.good (omega (arith, t.all_offsets))

module _ (count : ℕ) (bytes offsets : List ℕ) where
  abbrev names : List (List ℕ)
  names = names_of count bytes offsets

  pub from_name : (k : ℕ) → k < count → drop k names ≡ name_at bytes offsets k ∷ drop (k + 1) names
  from_name k h =
      rw add-one
      (drop-cons names k [] (rw (ids_length count bytes offsets) h)
      ∙ ap (λ (name : List ℕ). name ∷ drop (suc k) names) (ids_at count bytes offsets k h))

  no_name : (k : ℕ) → count ≤ k → drop k names ≡ []
  no_name k h = let all : length names ≤ k = rw (ids_length count bytes offsets) h in drop_of_length-le names all

  -- ---- 14

  pub all_utf8 : (k : ℕ) → count ≤ k → any_not_utf8 (drop k names) ≡ false
  unfolding any_not_utf8
  all_utf8 k h = rw (no_name k h)

  pub one_name : (b : Bool) (k : ℕ) → k < count → utf8 (name_at bytes offsets k) ≡ b → any_not_utf8 (drop k names) ≡ (not b || any_not_utf8 (drop (k + 1) names))
  unfolding any_not_utf8
  one_name b k h e = rw (from_name k h, e)

  -- ---- 15

  -- one name or none is left
  pub all_ordered : (k : ℕ) → count ≤ k + 1 → unordered (drop k names) ≡ false
  unfolding unordered
  all_ordered k h = go (dec_lt k count)
    where
      go : Dec (k < count) → unordered (drop k names) ≡ false
      go (yes l) = rw (from_name k l, no_name (k + 1) h)
      go (no l) = rw (no_name k (omega arith))

  pub one_pair : (b : Bool) (k : ℕ) → k + 1 < count → before (name_at bytes offsets k) (name_at bytes offsets (k + 1)) ≡ b
      → unordered (drop k names) ≡ (not b || unordered (drop (k + 1) names))
  unfolding unordered
  one_pair b k h e = rw (from_name k (omega arith), from_name (k + 1) h, e)

  -- the same of name k and the name before it
  pub pair_before : (b : Bool) (k : ℕ) → 1 ≤ k → k < count → before (name_at bytes offsets (k - 1)) (name_at bytes offsets k) ≡ b
      → unordered (drop (k - 1) names) ≡ (not b || unordered (drop (k + 1 - 1) names))
  pair_before b k h l e =
      let at : k - 1 + 1 ≡ k = omega arith in
      let more : k + 1 - 1 ≡ k - 1 + 1 = omega arith in
      rw more (one_pair b (k - 1) (omega arith) (rw at e))
