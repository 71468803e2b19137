-- A mask test of the low bits of a flag byte says what each of them is: the masked byte is the remainder by a power of two.
use Prim.Native.Nat.{ℕ, ◌/◌, ◌%◌}
use mathlib.Core.Bool.{true, not, ◌&&◌}
use mathlib.Core.Path.{◌≡◌, sym, ap, ◌∙◌}
use native.Mathlib.Omega.{arith}
use borrow.Author.Tests.{eqb-true, eqb-false, eq-eqb, ne_eqb, not-true}
use lib.Bits.{bit_and, and_mask}
use lib.Dec.{eqb}
use lib.Pow.{mod-pow-add}
use Rattle.lists.proofs.Below.{both, same_truth}
use Rattle.bitset.specs.Word.{bit}
use Rattle.flags.specs.Flags.{listed, assigned, eligible}

pub listed_mask : (f : ℕ) → eqb (bit_and f 3) 3 ≡ listed f
unfolding listed bit
listed_mask f = ap (λ (k : ℕ). eqb k 3) (and_mask f 2) ∙ same_truth (eqb (f % 4) 3) (eqb (f / 1 % 2) 1 && eqb (f / 2 % 2) 1) there back
  where
    there : eqb (f % 4) 3 ≡ true → (eqb (f / 1 % 2) 1 && eqb (f / 2 % 2) 1) ≡ true
    there e =
        let q = eqb-true (f % 4) 3 e in
        rw (eq-eqb (f / 1 % 2) 1 (omega arith), eq-eqb (f / 2 % 2) 1 (omega arith))

    back : (eqb (f / 1 % 2) 1 && eqb (f / 2 % 2) 1) ≡ true → eqb (f % 4) 3 ≡ true
    back e =
        let s = both (eqb (f / 1 % 2) 1) (eqb (f / 2 % 2) 1) e in
        let a = eqb-true (f / 1 % 2) 1 s.0 in
        let b = eqb-true (f / 2 % 2) 1 s.1 in
        eq-eqb (f % 4) 3 (omega (arith, mod-pow-add f 1 1))

pub eligible_mask : (f : ℕ) → eqb (bit_and f 7) 3 ≡ eligible f
unfolding eligible assigned bit
eligible_mask f = ap (λ (k : ℕ). eqb k 3) (and_mask f 3) ∙ same_truth (eqb (f % 8) 3) (listed f && not (eqb (f / 4 % 2) 1)) there back
  where
    low : eqb (f % 4) 3 ≡ listed f
    low = ap (λ (k : ℕ). eqb k 3) (sym (and_mask f 2)) ∙ listed_mask f

    there : eqb (f % 8) 3 ≡ true → (listed f && not (eqb (f / 4 % 2) 1)) ≡ true
    there e =
        let q = eqb-true (f % 8) 3 e in
        rw (← low, eq-eqb (f % 4) 3 (omega (arith, mod-pow-add f 1 2)), ne_eqb (f / 4 % 2) 1 (omega (arith, mod-pow-add f 1 2)))

    back : (listed f && not (eqb (f / 4 % 2) 1)) ≡ true → eqb (f % 8) 3 ≡ true
    back e =
        let s = both (listed f) (not (eqb (f / 4 % 2) 1)) e in
        let a = eqb-true (f % 4) 3 (low ∙ s.0) in
        let b = eqb-false (f / 4 % 2) 1 (not-true (eqb (f / 4 % 2) 1) s.1) in
        eq-eqb (f % 8) 3 (omega (arith, mod-pow-add f 1 2))
