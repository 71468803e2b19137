-- Of two doubles that are numbers, one is at most the other exactly when the other is not below it. Infinities and -0 are among them.
use Prim.Native.Nat.{ℕ, zero, suc, ◌+◌, ◌*◌}
use native.Mathlib.Omega.{arith}
use mathlib.Core.Path.{◌≡◌, refl, sym, ap, ◌∙◌}
use mathlib.Core.Bool.{Bool, true, false, not, ◌&&◌, ◌||◌, and-true, and-false, or-false, not-not, beq, true≢false}
use borrow.Author.Tests.{lt-ltb}
use lib.Dec.{ltb, eqb, eqb-suc-zero}
use lib.Ieee.{Float, nan, inf, fin, up, down, below, level, lt, le, is_nan}
use Rattle.whole.proofs.Tests.{leb_not_ltb, ltb_or_eqb, eqb_comm, zero_sum}

-- ---- by the signs of two finite doubles, whose sizes are a and b over one denominator
or_level : (a b : ℕ) → (ltb a b || eqb a b && true) ≡ not (ltb b a)
or_level a b = ap (λ t. ltb a b || t) (and-true (eqb a b)) ∙ ltb_or_eqb a b ∙ leb_not_ltb a b

both_zero : (a b : ℕ) → (eqb a b && eqb a 0) ≡ (eqb b 0 && eqb a 0)
both_zero zero b = ap (λ t. t && true) (eqb_comm 0 b)
both_zero (suc a) b = ap (λ t. eqb (suc a) b && t) (eqb-suc-zero a) ∙ and-false (eqb (suc a) b) ∙ sym (and-false (eqb b 0)) ∙ ap (λ t. eqb b 0 && t) (sym (eqb-suc-zero a))

across : (a b : ℕ) → (ltb 0 (a + b) || eqb a b && eqb a 0) ≡ true
across zero zero = refl
across zero (suc b) = ap (λ t. t || eqb zero (suc b) && eqb zero 0) (lt-ltb 0 (zero + suc b) (omega arith))
across (suc a) b = ap (λ t. t || eqb (suc a) b && eqb (suc a) 0) (lt-ltb 0 (suc a + b) (omega arith))

finite : (s t : Bool) (a b : ℕ) → (below s a t b || level s a t b) ≡ not (below t b s a)
finite false false a b = or_level a b
finite false true a b = both_zero a b ∙ sym (zero_sum b a)
finite true false a b = across a b
finite true true a b = ap (λ t. ltb b a || t && true) (eqb_comm a b) ∙ or_level b a

infinite : (s t : Bool) → (s && not t || beq s t) ≡ not (t && not s)
infinite false false = refl
infinite false true = refl
infinite true false = refl
infinite true true = refl

pub le_not_lt : (x y : Float) → is_nan x ≡ false → is_nan y ≡ false → le x y ≡ not (lt y x)
unfolding le is_nan
le_not_lt nan y p q = absurd (true≢false p)
le_not_lt (inf s) nan p q = absurd (true≢false q)
le_not_lt (inf s) (inf t) p q = infinite s t
le_not_lt (inf s) (fin t n d) p q = or-false s ∙ sym (not-not s)
le_not_lt (fin s m e) nan p q = absurd (true≢false q)
le_not_lt (fin s m e) (inf t) p q = or-false (not t)
le_not_lt (fin s m e) (fin t n d) p q = finite s t (m * up e * down d) (n * up d * down e)
