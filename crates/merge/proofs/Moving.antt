-- The tables after a join: who is still there, and each row. The target has the sum and the union, the seeker has nothing, the others are as they were.
use Prim.Native.Nat.{ℕ, ◌+◌, ◌*◌, ◌≤◌, ◌<◌}
use mathlib.Core.Bool.{Bool, true, false, not, ◌&&◌, cond}
use mathlib.Core.List.{List, map}
use mathlib.Core.Path.{◌≡◌, refl, sym, ap, ap₂, ◌∙◌}
use native.Mathlib.Omega.{arith}
use borrow.Author.Tests.{eqb-true, eqb-false, eq-eqb, ne_eqb}
use lib.Dec.{eqb}
use lib.Ieee.{Float, to_unsigned}
use lib.ListN.{length, get_or, set, length-set, length-map}
use lib.Seq.{get_or-set_same, get_or-set_other}
use Rattle.lists.proofs.Map.{get_or_map_below}
use Rattle.whole.specs.Double.{to_f64}
use Rattle.bitset.specs.Entries.{row_of, union_of, empty}
use Rattle.bitset.specs.declared.entries.BitSet.{BitSet}
use Rattle.joins.specs.Subgroup.{Subgroup, united}
use Rattle.joins.specs.Held.{vanished}
use Rattle.joins.proofs.Doubles.{reads_back}
use Rattle.merge.specs.Tables.{subgroup_at}
use Rattle.merge.specs.Engine.{is_there, Joinable, renamed, with_size, with_bits}
use Rattle.bitset.proofs.Rows.{length_with_row, row_same, row_other}
use Rattle.merge.proofs.There.{in_row}
use Rattle.merge.proofs.Uniting.{both, s_in, t_in, both_small, united_size}

-- the three tables after s has joined t
unfoldable pub numbers_after : Subgroup → Subgroup → List ℕ → List ℕ
numbers_after s t numbers = map (renamed s.number t.number) numbers

unfoldable pub sizes_after : Subgroup → Subgroup → List ℕ → List ℕ
sizes_after s t sizes = with_size (with_size sizes (united s t)) (vanished s)

unfoldable pub bits_after : Subgroup → Subgroup → List ℕ → List ℕ
bits_after s t bits = with_bits (with_bits bits (united s t)) (vanished s)

-- the bits when t was written
bits₁ : Subgroup → Subgroup → List ℕ → List ℕ
bits₁ s t bits = with_bits bits (united s t)

module _ (s t : Subgroup) (numbers sizes bits : List ℕ) (g : Joinable s t numbers sizes bits) where
  pub by_sizes : sizes_after s t sizes ≡ set (set sizes t.number (both sizes s t)) s.number 0
  unfolding sizes_after united
  by_sizes =
      ap₂ (λ (a z : ℕ). set (set sizes t.number a) s.number z) (ap (to_unsigned 64) (united_size s t numbers sizes bits g) ∙ reads_back (both sizes s t) (both_small s t numbers sizes bits g)) (reads_back 0 (omega arith))

  -- which subgroups are still there: those that were, but for s
  pub new_there : (i : ℕ) → i < length numbers → is_there (numbers_after s t numbers) i ≡ (is_there numbers i && not (eqb i s.number))
  unfolding numbers_after
  new_there i h =
      ap (λ n. eqb n i) (get_or_map_below (renamed s.number t.number) numbers i 0 0 h)
      ∙ go (eqb (get_or numbers i 0) s.number) refl
    where
      n : ℕ
      n = get_or numbers i 0

      t_away : n ≡ s.number → t.number ≡ i → ⊥
      t_away e q = g.apart (sym (eqb-true (get_or numbers t.number 0) t.number g.target.still) ∙ ap (λ j. get_or numbers j 0) q ∙ e)

      alone : n ≡ s.number → (c : Bool) → eqb n i ≡ c → false ≡ (c && not (eqb i s.number))
      alone e true q = ap not (sym (eq-eqb i s.number (sym (eqb-true n i q) ∙ e)))
      alone e false q = refl

      same : (n ≡ s.number → ⊥) → (c : Bool) → eqb n i ≡ c → c ≡ (c && not (eqb i s.number))
      same e true q = ap not (sym (ne_eqb i s.number (λ z. e (eqb-true n i q ∙ z))))
      same e false q = refl

      go : (b : Bool) → eqb n s.number ≡ b → eqb (cond b t.number n) i ≡ (eqb n i && not (eqb i s.number))
      go true e = let is = eqb-true n s.number e in ne_eqb t.number i (t_away is) ∙ alone is (eqb n i) refl
      go false e = same (eqb-false n s.number e) (eqb n i) refl

  -- ---- the rows after it: t has the sum and the union, s has nothing, the others are as they were

  row_in : (i : ℕ) → i < length numbers → 4 * i + 4 ≤ length bits
  row_in i h = (in_row g.tables i h).has_bits

  length_bits₁ : length (bits₁ s t bits) ≡ length bits
  unfolding bits₁ united
  length_bits₁ = length_with_row bits t.number (united s t).bits (row_in t.number g.target.inside)

  s_row₁ : 4 * s.number + 4 ≤ length (bits₁ s t bits)
  s_row₁ = rw length_bits₁ (row_in s.number g.seeker.inside)

  pub size_s : get_or (sizes_after s t sizes) s.number 0 ≡ 0
  size_s = ap (λ l. get_or l s.number 0) by_sizes ∙ get_or-set_same (set sizes t.number (both sizes s t)) s.number 0 0 (simp length-set (s_in s t numbers sizes bits g))

  size_t : get_or (sizes_after s t sizes) t.number 0 ≡ both sizes s t
  size_t =
      ap (λ l. get_or l t.number 0) by_sizes
      ∙ get_or-set_other (set sizes t.number (both sizes s t)) s.number t.number 0 0 g.apart
      ∙ get_or-set_same sizes t.number (both sizes s t) 0 (t_in s t numbers sizes bits g)

  pub size_other : (i : ℕ) → (i ≡ s.number → ⊥) → (i ≡ t.number → ⊥) → get_or (sizes_after s t sizes) i 0 ≡ get_or sizes i 0
  size_other i a b =
      ap (λ l. get_or l i 0) by_sizes
      ∙ get_or-set_other (set sizes t.number (both sizes s t)) s.number i 0 0 a
      ∙ get_or-set_other sizes t.number i (both sizes s t) 0 b

  pub row_s : row_of (bits_after s t bits) s.number ≡ empty
  unfolding bits_after bits₁
  row_s = row_same (bits₁ s t bits) s.number empty s_row₁

  pub row_t : row_of (bits_after s t bits) t.number ≡ (united s t).bits
  unfolding bits_after bits₁ united union_of
  row_t =
      row_other (bits₁ s t bits) s.number empty s_row₁ t.number (rw length_bits₁ (row_in t.number g.target.inside)) g.apart
      ∙ row_same bits t.number (united s t).bits (row_in t.number g.target.inside)

  pub row_away : (i : ℕ) → i < length numbers → (i ≡ s.number → ⊥) → (i ≡ t.number → ⊥) → row_of (bits_after s t bits) i ≡ row_of bits i
  unfolding bits_after bits₁ united
  row_away i h a b =
      row_other (bits₁ s t bits) s.number empty s_row₁ i (rw length_bits₁ (row_in i h)) a
      ∙ row_other bits t.number (united s t).bits (row_in t.number g.target.inside) i (row_in i h) b

  -- ---- the subgroups after it

  subgroup_t : subgroup_at (sizes_after s t sizes) (bits_after s t bits) t.number ≡ united s t
  unfolding subgroup_at united
  subgroup_t =
      ap₂ {C = Subgroup} (λ (x : Float) (b : BitSet). record { number = t.number; size = x; bits = b }) (ap to_f64 size_t ∙ sym (united_size s t numbers sizes bits g)) row_t

  subgroup_away : (i : ℕ) → i < length numbers → (i ≡ s.number → ⊥) → (i ≡ t.number → ⊥) → subgroup_at (sizes_after s t sizes) (bits_after s t bits) i ≡ subgroup_at sizes bits i
  unfolding subgroup_at
  subgroup_away i h a b = ap₂ {C = Subgroup} (λ (n : ℕ) (b : BitSet). record { number = i; size = to_f64 n; bits = b }) (size_other i a b) (row_away i h a b)

  pub new_subgroup : (i : ℕ) → i < length numbers → (i ≡ s.number → ⊥) → subgroup_at (sizes_after s t sizes) (bits_after s t bits) i ≡ cond (eqb i t.number) (united s t) (subgroup_at sizes bits i)
  new_subgroup i h a = go (eqb i t.number) refl
    where
      go : (b : Bool) → eqb i t.number ≡ b → subgroup_at (sizes_after s t sizes) (bits_after s t bits) i ≡ cond b (united s t) (subgroup_at sizes bits i)
      go true e = ap (subgroup_at (sizes_after s t sizes) (bits_after s t bits)) (eqb-true i t.number e) ∙ subgroup_t
      go false e = subgroup_away i h a (eqb-false i t.number e)

  -- ---- their lengths

  pub same_count : length (numbers_after s t numbers) ≡ length numbers
  unfolding numbers_after
  same_count = length-map numbers (renamed s.number t.number)

  pub same_sizes : length (sizes_after s t sizes) ≡ length sizes
  same_sizes = ap length by_sizes ∙ simp length-set

  pub same_bits : length (bits_after s t bits) ≡ length bits
  unfolding bits_after bits₁
  same_bits = length_with_row (bits₁ s t bits) s.number empty s_row₁ ∙ length_bits₁
