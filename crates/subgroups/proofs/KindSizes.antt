-- The size of the modules of a kind by the kind's number, and tables to which one size is added.
use Rattle.std.proofs.Common.{◌≡◌, ℕ, zero, suc, ◌+◌, ◌<◌, ◌≤◌, Bool, true, false, cond, eqb, List, [], ◌∷◌, ◌++◌, length, get_or, set, sym, refl, ap, ◌∙◌, subst, add-zero, arith, length-append, get_or-set_other, get_or-set_same, eqb-true}
use mathlib.Core.List.{map-append}
use borrow.Author.Tests.{eqb-false}
use Rattle.lists.specs.Keep.{keep, keep_head}
use Rattle.lists.specs.Sum.{sum}
use Rattle.lists.proofs.KeepLoop.{keep_snoc}
use Rattle.lists.proofs.Sum.{sum_append, sum_snoc}
use Rattle.bitset.specs.Entries.{row_of}
use Rattle.bitset.specs.declared.entries.BitSet.{BitSet}
use Rattle.grouping.specs.Subgroups.{kind_number}
use Rattle.subgroups.specs.Kinds.{kind_of_module, sizes_of}
use Rattle.subgroups.specs.Finding.{entered}

-- the size of those of the kind of a number
unfoldable pub size_numbered : List ℕ → List ℕ → List BitSet → List ℕ → ℕ → ℕ
unfolding keep sum kind_number row_of
size_numbered bits sizes kinds l j = sum (sizes_of sizes (keep (λ m. eqb (kind_of_module bits kinds m) j) l))

module _ (bits sizes : List ℕ) (kinds : List BitSet) where
  pub numbered_snoc : (l : List ℕ) (m j : ℕ)
      → size_numbered bits sizes kinds (l ++ (m ∷ [])) j ≡ size_numbered bits sizes kinds l j + cond (eqb (kind_of_module bits kinds m) j) (get_or sizes m 0) 0
  unfolding size_numbered keep_head sum
  numbered_snoc l m j =
      let p : ℕ → Bool = λ m. eqb (kind_of_module bits kinds m) j in
      ap (λ (r : List ℕ). sum (sizes_of sizes r)) (keep_snoc p l m)
      ∙ ap sum (map-append (λ m. get_or sizes m 0) (keep p l) (keep_head (p m) m []))
      ∙ sum_append (sizes_of sizes (keep p l)) (sizes_of sizes (keep_head (p m) m []))
      ∙ ap (λ (n : ℕ). sum (sizes_of sizes (keep p l)) + n) (last (p m))
    where
      last : (b : Bool) → sum (sizes_of sizes (keep_head b m [])) ≡ cond b (get_or sizes m 0) 0
      last true = add-zero (get_or sizes m 0)
      last false = refl

-- ---- a list with one entered

pub get_or_entered : (b : Bool) (l : List ℕ) (j : ℕ) → get_or (entered b l 0) j 0 ≡ get_or l j 0
unfolding entered
get_or_entered true l j = refl
get_or_entered false l j = go l j
  where
    go : (l : List ℕ) (j : ℕ) → get_or (l ++ (0 ∷ [])) j 0 ≡ get_or l j 0
    go [] zero = refl
    go [] (suc j) = refl
    go (x ∷ l) zero = refl
    go (x ∷ l) (suc j) = go l j

pub sum_entered : (b : Bool) (l : List ℕ) → sum (entered b l 0) ≡ sum l
unfolding entered
sum_entered true l = refl
sum_entered false l = sum_snoc l 0 ∙ add-zero (sum l)

pub length_entered : {A : Type 0} (b : Bool) (l : List A) (x : A) → (length l ≤ length (entered b l x)) × (length (entered b l x) ≤ suc (length l))
unfolding entered
length_entered true l x = (omega arith, omega arith)
length_entered false l x = (omega (arith, length-append l (x ∷ [])), omega (arith, length-append l (x ∷ [])))

pub add_at : (l : List ℕ) (k s j : ℕ) → k < length l → get_or (set l k (get_or l k 0 + s)) j 0 ≡ get_or l j 0 + cond (eqb k j) s 0
add_at l k s j h = go (eqb k j) refl
  where
    go : (b : Bool) → eqb k j ≡ b → get_or (set l k (get_or l k 0 + s)) j 0 ≡ get_or l j 0 + cond b s 0
    go true e = let q = eqb-true k j e in subst (λ i. get_or (set l k (get_or l k 0 + s)) i 0 ≡ get_or l i 0 + s) q (get_or-set_same l k (get_or l k 0 + s) 0 h)
    go false e = get_or-set_other l k j (get_or l k 0 + s) 0 (λ q. eqb-false k j e (sym q)) ∙ sym (add-zero (get_or l j 0))
