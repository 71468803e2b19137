-- Totals of sizes can't drift. As long as the sizes add to at most 2^53, a total that is kept as a double is the true total: however the
-- sizes are ordered, whatever is added up first or taken off again, no rounding ever shows, and two totals compare as the numbers do.
use Prim.Native.Nat.{ℕ, ◌+◌, ◌^◌, ◌≤◌}
use native.Mathlib.Omega.{arith}
use mathlib.Core.Path.{◌≡◌, sym, ap₂, ◌∙◌}
use mathlib.Core.Bool.{Bool, false}
use mathlib.Core.List.Perm
use mathlib.Core.List.{List, ◌++◌, Perm, perm_append_comm}
use lib.Dec.{ltb, leb, eqb}
use lib.ListN.{take, drop, take-append-drop}
use lib.Ieee.{Float, binary64, add, sub, lt, le, eq}
use Rattle.lists.specs.Sum.{sum}
use Rattle.whole.specs.Double.{to_f64, sum_f64}
use Rattle.whole.specs.Total.{total_exceeds}
use Rattle.whole.proofs.Total.{accepted}
use Rattle.lists.proofs.Sum.{sum_append, sum_perm}
use Rattle.whole.proofs.Exact.{sum_exact, sum_any_order, sum_join, total_less}
use Rattle.whole.proofs.Compare.{lt_exact, le_exact, eq_exact}

-- some of the sizes of l, in any order, and the rest of them
pub record Part (l : List ℕ) : Type 0 where
  pub some : List ℕ
  pub rest : List ℕ
  pub all : Perm (some ++ rest) l

pub record NoDrift (l : List ℕ) : Type 0 where
  -- the total is the true one, and so is the total of each part
  pub total : sum_f64 l ≡ to_f64 (sum l)
  pub part : (p : Part l) → sum_f64 p.some ≡ to_f64 (sum p.some)
  -- the order of the sizes doesn't matter
  pub any_order : (l' : List ℕ) → Perm l l' → sum_f64 l' ≡ sum_f64 l
  -- a part and the rest add to the total, and the total less a part is the rest
  pub add_rest : (p : Part l) → add binary64 (sum_f64 p.some) (sum_f64 p.rest) ≡ sum_f64 l
  pub less_part : (p : Part l) → sub binary64 (sum_f64 l) (sum_f64 p.some) ≡ sum_f64 p.rest
  -- the totals of two parts compare as the numbers do
  pub below : (p q : Part l) → lt (sum_f64 p.some) (sum_f64 q.some) ≡ ltb (sum p.some) (sum q.some)
  pub at_most : (p q : Part l) → le (sum_f64 p.some) (sum_f64 q.some) ≡ leb (sum p.some) (sum q.some)
  pub equal : (p q : Part l) → eq (sum_f64 p.some) (sum_f64 q.some) ≡ eqb (sum p.some) (sum q.some)

parts : (l : List ℕ) (p : Part l) → sum l ≡ sum p.some + sum p.rest
parts l p = sym (sum_perm p.all) ∙ sum_append p.some p.rest

part_le : (l : List ℕ) → sum l ≤ 2 ^ 53 → (p : Part l) → sum p.some ≤ 2 ^ 53
part_le l h p = omega (arith, parts l p)

module _ (l : List ℕ) (h : sum l ≤ 2 ^ 53) where
  -- a comparison of doubles that is exact on whole numbers is exact on the totals of parts
  compared : (f : Float → Float → Bool) (g : ℕ → ℕ → Bool) → ((a b : ℕ) → a ≤ 2 ^ 53 → b ≤ 2 ^ 53 → f (to_f64 a) (to_f64 b) ≡ g a b)
      → (p q : Part l) → f (sum_f64 p.some) (sum_f64 q.some) ≡ g (sum p.some) (sum q.some)
  compared f g exact p q =
      ap₂ f (sum_exact p.some (part_le l h p)) (sum_exact q.some (part_le l h q))
      ∙ exact (sum p.some) (sum q.some) (part_le l h p) (part_le l h q)

  pub no_drift : NoDrift l
  no_drift = record {
    total = sum_exact l h;
    part = λ p. sum_exact p.some (part_le l h p);
    any_order = λ l' p. sym (sum_any_order p h);
    add_rest = λ p. sum_join p.some p.rest (omega (arith, parts l p)) ∙ sym (sum_any_order (Perm.symm p.all) h);
    less_part = λ p. total_less l p.some p.rest (parts l p) h;
    below = compared lt ltb lt_exact;
    at_most = compared le leb le_exact;
    equal = compared eq eqb eq_exact;
  }

-- the first i sizes, and those after them, are parts
abbrev pub first : (l : List ℕ) (i : ℕ) → Part l
first l i = record { some = take i l; rest = drop i l; all = rw take-append-drop (Perm.refl l) }

abbrev pub after : (l : List ℕ) (i : ℕ) → Part l
after l i = record { some = drop i l; rest = take i l; all = Perm.trans (perm_append_comm (drop i l) (take i l)) (first l i).all }

-- so it is of every part, and of all sizes that pass refusal 6
pub part_no_drift : (l : List ℕ) → sum l ≤ 2 ^ 53 → (p : Part l) → NoDrift p.some
part_no_drift l h p = no_drift p.some (part_le l h p)

pub accepted_no_drift : (l : List ℕ) → total_exceeds l ≡ false → NoDrift l
accepted_no_drift l e = no_drift l (accepted l e)
