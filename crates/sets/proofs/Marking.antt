-- The loop that gathers the marked modules: what one module more adds, and that blocks without a marked one add nothing.
use Prim.Native.Nat.{ℕ, zero, suc, ◌+◌, ◌*◌, ◌/◌, ◌-◌, ◌≤◌, ◌<◌}
use mathlib.Core.List.Memᴰ
use mathlib.Core.List.{List, [], ◌∷◌, ◌++◌, map, Memᴰ}
use mathlib.Core.Path.{◌≡◌, refl, sym, ap, ◌∙◌, subst}
use native.Mathlib.Decide.{dec_lt}
use native.Mathlib.Nat.{add-zero}
use native.Mathlib.Omega.{arith}
use borrow.Author.Tests.{eq-eqb, ne_eqb}
use lib.Dec.{eqb}
use lib.ListN.{length, get_or, take, replicate, length-replicate}
use lib.Seq.{take_all}
use Rattle.lists.specs.Keep.{keep}
use Rattle.lists.proofs.KeepLoop.{keep_take_in, keep_take_out}
use Rattle.lists.proofs.Position.{mem_get_or}
use Rattle.lists.specs.Stored.{stored}
use Rattle.lists.proofs.Stored.{stored_on}
use Rattle.sets.specs.Gathered.{marked_in, block_of, FoundReady}

module _ (marks order : List ℕ) where
  pub marked_none : marked_in marks (take 0 order) ≡ []
  unfolding marked_in keep
  marked_none = refl

  module _ (i : ℕ) where
    pub marked_in_lem : i < length order → get_or marks (get_or order i 0) 0 ≡ 1
        → marked_in marks (take (i + 1) order) ≡ marked_in marks (take i order) ++ (get_or order i 0 ∷ [])
    unfolding marked_in
    marked_in_lem h e = keep_take_in (λ m. eqb (get_or marks m 0) 1) order i 0 h (eq-eqb (get_or marks (get_or order i 0) 0) 1 e)

    pub marked_out : i < length order → (get_or marks (get_or order i 0) 0 ≡ 1 → ⊥) → marked_in marks (take (i + 1) order) ≡ marked_in marks (take i order)
    unfolding marked_in
    marked_out h e = keep_take_out (λ m. eqb (get_or marks m 0) 1) order i 0 h (ne_eqb (get_or marks (get_or order i 0) 0) 1 e)

    pub marked_all : length order ≤ i → marked_in marks (take i order) ≡ marked_in marks order
    marked_all h = ap (marked_in marks) (take_all i order h)

  -- k places without a marked module, or past the end, add nothing
  pub marked_past : (i k : ℕ) → ((j : ℕ) → i ≤ j → j < i + k → j < length order → get_or marks (get_or order j 0) 0 ≡ 1 → ⊥)
      → marked_in marks (take (i + k) order) ≡ marked_in marks (take i order)
  marked_past i zero none = rw (add-zero i)
  marked_past i (suc k) none =
      ap (λ (n : ℕ). marked_in marks (take n order)) next ∙ last (dec_lt (i + k) (length order)) ∙ marked_past i k (λ j a b h. none j a (omega arith) h)
    where
      next : i + suc k ≡ i + k + 1
      next = omega arith

      last : Dec (i + k < length order) → marked_in marks (take (i + k + 1) order) ≡ marked_in marks (take (i + k) order)
      last (yes h) = marked_out (i + k) h (none (i + k) (omega arith) (omega arith) h)
      last (no h) = marked_all (i + k + 1) (omega arith) ∙ sym (marked_all (i + k) (omega arith))

  -- the rest of a block without a marked module
  pub marked_block : (i : ℕ) → ((j : ℕ) → j < length order → get_or marks (get_or order j 0) 0 ≡ 1 → j / 64 ≡ i / 64 → ⊥)
      → marked_in marks (take (i / 64 * 64 + 64) order) ≡ marked_in marks (take i order)
  marked_block i none = ap (λ (n : ℕ). marked_in marks (take n order)) ends ∙ marked_past i (i / 64 * 64 + 64 - i) inside
    where
      ends : i / 64 * 64 + 64 ≡ i + (i / 64 * 64 + 64 - i)
      ends = omega arith

      inside : (j : ℕ) → i ≤ j → j < i + (i / 64 * 64 + 64 - i) → j < length order → get_or marks (get_or order j 0) 0 ≡ 1 → ⊥
      inside j a b h e = none j h e (omega arith)

-- ---- what a list of all marked modules says of blocks

module _ {order place list marks area : List ℕ} (f : FoundReady order place list marks area) where
  -- a marked module's block is marked
  pub block_marked : {blocks : List ℕ} → blocks ≡ stored 1 (map (block_of place) list) (replicate 64 0) → (i : ℕ) → i < length order
      → get_or marks (get_or order i 0) 0 ≡ 1 → get_or blocks (i / 64) 0 ≡ 1
  block_marked {blocks} e i h o =
      let at = f.places.at i h in
      let few = f.few in
      let block : block_of place (get_or order i 0) ≡ i / 64 = ap (λ (p : ℕ). p / 64) at in
      ap (λ (l : List ℕ). get_or l (i / 64) 0) e
      ∙ stored_on 1 (map (block_of place) list) (replicate 64 0) (i / 64) (omega (arith, length-replicate {A = ℕ} 64 0))
      (subst (λ (x : ℕ). Memᴰ x (map (block_of place) list)) block (Memᴰ.map (block_of place) (f.listed i h o)))

  -- with nothing on the list nothing is marked
  pub none_marked : length list ≡ 0 → marked_in marks order ≡ []
  none_marked e =
      sym (marked_all marks order (0 + length order) (omega arith))
      ∙ marked_past marks order 0 (length order) (λ j a b h o. nothing j h o)
      ∙ marked_none marks order
    where
      nothing : (j : ℕ) → j < length order → get_or marks (get_or order j 0) 0 ≡ 1 → ⊥
      nothing j h o = let s = mem_get_or 0 (f.listed j h o) in omega (arith, s.1)
