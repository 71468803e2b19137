-- Two tests of which one implies the other: if they pass as many numbers below a bound they pass the same.
use Prim.Native.Nat.{ℕ, zero, suc, ◌≤◌, ◌<◌}
use mathlib.Core.Bool.{Bool, true, false, cond}
use mathlib.Core.Logic.{⊎_elim}
use mathlib.Core.Path.{◌≡◌, refl, sym, ap, ◌∙◌}
use native.Mathlib.Nat.{not-suc-le-zero, eq-or-lt_of_le, le_of_suc-le-suc, lt-suc_self}
use native.Mathlib.Omega.{arith}
use Rattle.lists.specs.Below.{count_below}

one_under : (a b : Bool) → (a ≡ true → b ≡ true) → cond a 1 0 ≤ cond b 1 0
one_under true b h = rw (h refl) (omega arith)
one_under false b h = omega arith

module _ (p q : ℕ → Bool) where
  count_under : (n : ℕ) → ((k : ℕ) → k < n → p k ≡ true → q k ≡ true) → count_below p n ≤ count_below q n
  unfolding count_below
  count_under zero h = omega arith
  count_under (suc n) h = omega (arith, one_under (p n) (q n) (h n (lt-suc_self n)), count_under n (λ k l. h k (omega arith)))

  pub count_both : (n : ℕ) → ((k : ℕ) → k < n → p k ≡ true → q k ≡ true) → count_below q n ≤ count_below p n → (k : ℕ) → k < n → q k ≡ true → p k ≡ true
  unfolding count_below
  count_both zero h e k l f = absurd (not-suc-le-zero l)
  count_both (suc n) h e k l f =
      let under = count_under n (λ j b. h j (omega arith)) in
      let one = one_under (p n) (q n) (h n (lt-suc_self n)) in
      ⊎_elim
      (λ z. last z (p n) refl under)
      (λ b. count_both n (λ j b. h j (omega arith)) (omega arith) k b f)
      (eq-or-lt_of_le (le_of_suc-le-suc l))
    where
      last : k ≡ n → (b : Bool) → p n ≡ b → count_below p n ≤ count_below q n → p k ≡ true
      last z true g under = ap p z ∙ g
      last z false g under =
          let here : q n ≡ true = ap q (sym z) ∙ f in
          absurd (omega (arith, rw (here, g) at e))
