-- The ladder of 4 to 10 from the answer to 4 and 5 and the number of 6 to 10.
use Prim.Native.Nat.{ℕ, zero, suc, ◌<◌}
use mathlib.Core.Bool.{Bool, true, false}
use mathlib.Core.List.{List, [], ◌∷◌}
use mathlib.Core.Path.{◌≡◌, refl, sym, ap}
use native.Mathlib.Omega.{arith}
use lib.ListN.{length}
use Rattle.refusal.specs.Outcome.{Outcome, refused, accepted, Test, test, outcome, first_number}
use Rattle.grouping.specs.Given.{Given}
use Rattle.grouping.specs.Conditions.{shared_id, shared_order}
use Rattle.conditions.specs.Ladder.{tree_tests, value_tests}
use Rattle.std.specs.Prelude.{Result}
use Rattle.std.specs.Prelude.Result.{Ok, Err}
use Rattle.refusal.specs.Answers.{refusal_number, outcome_of}
use Rattle.refusal.specs.declared.Refusal.{Refusal}
use Rattle.places.specs.Ordered.{listed_of, answer_of, InOrder}
use Rattle.testing.specs.Content.{content_tests}
use Rattle.testing.specs.Tested.{order_tests, OrderTested}
use Rattle.refusal.proofs.Ladder.{refuses, past, number_above}

-- 4 is tested before 5
same_answer : (s t : Bool) (count : ℕ) (e : Refusal) (rest : List Test) → Err e ≡ answer_of s t count → refused (refusal_number e) ≡ outcome (test 4 s ∷ test 5 t ∷ rest) count
unfolding answer_of outcome
same_answer true t count e rest q = ap outcome_of q
same_answer false true count e rest q = ap outcome_of q
same_answer false false count e rest q = let z : ◌≡◌ {A = ℕ} 0 1 = cc in absurd (omega arith)

all_listed : (s t : Bool) (count r : ℕ) → Ok r ≡ answer_of s t count → (s ≡ false) × (t ≡ false) × (r ≡ count)
unfolding answer_of
all_listed true t count r e = let z : ◌≡◌ {A = ℕ} 0 1 = cc in absurd (omega arith)
all_listed false true count r e = let z : ◌≡◌ {A = ℕ} 0 1 = cc in absurd (omega arith)
all_listed false false count r e = (refl, refl, cc)

-- the outcome of both: a refusal by 4 or 5, or else the number of 6 to 10 that applies
abbrev pub outcome_by : Result ℕ Refusal → ℕ → Outcome ℕ
outcome_by (Err e) number = refused (refusal_number e)
outcome_by (Ok count) zero = accepted count
outcome_by (Ok count) (suc number) = refused (suc number)

pub order_outcome : (b : Given) (n : ℕ) → outcome (order_tests b) n ≡ outcome_by (answer_of (shared_id b) (shared_order b) n) (first_number (content_tests b))
unfolding order_tests outcome content_tests tree_tests value_tests
order_outcome b n = go (answer_of (shared_id b) (shared_order b) n) (first_number (content_tests b)) refl refl
  where
    go : (r : Result ℕ Refusal) (number : ℕ) → r ≡ answer_of (shared_id b) (shared_order b) n → first_number (content_tests b) ≡ number
        → outcome (test 4 (shared_id b) ∷ test 5 (shared_order b) ∷ content_tests b) n ≡ outcome_by r number
    go (Err e) number q f = sym (same_answer (shared_id b) (shared_order b) n e (content_tests b) q)
    go (Ok count) zero q f =
        let s = all_listed (shared_id b) (shared_order b) n count q in
        rw (s.0, s.1, s.2) (past n (content_tests b) [] refl (sym f))
    go (Ok count) (suc number) q f =
        let s = all_listed (shared_id b) (shared_order b) n count q in
        rw (s.0, s.1) (sym (refuses n (suc number) (content_tests b) [] (omega arith) (sym f)))

-- ---- what `OrderTested` says, by the answer to 4 and 5

-- a number above 0 refuses
above_zero : (count n : ℕ) → 0 < n → outcome_by (Ok count) n ≡ refused n
above_zero count zero h = absurd (omega arith)
above_zero count (suc n) h = refl

module _ {b : Given} {by_order by-order' rank rank' : List ℕ} where
  -- r answers 4 to 10, s answers 4 and 5
  in_order : (r s : Result ℕ Refusal) → InOrder b s by_order by-order' rank rank' → outcome_of r ≡ outcome_by s (first_number (content_tests b))
      → OrderTested b r by_order by-order' rank rank'
  in_order r s o e =
      record {
        answer = rw (order_outcome b (length (listed_of b)), sym o.answer) e;
        ordered = o.accepted;
        order_length = o.order_length;
        rank_length = o.rank_length;
      }

  pub order_refused : (e : Refusal) → InOrder b (Err e) by_order by-order' rank rank' → OrderTested b (Err e) by_order by-order' rank rank'
  order_refused e o = in_order (Err e) (Err e) o refl

  module _ (count : ℕ) (o : InOrder b (Ok count) by_order by-order' rank rank') where
    pub content_refused : (e : Refusal) → refusal_number e ≡ first_number (content_tests b) → OrderTested b (Err e) by_order by-order' rank rank'
    content_refused e told = in_order (Err e) (Ok count) o (rw (sym told) (sym (above_zero count (refusal_number e) (number_above e))))

    pub content_passed : 0 ≡ first_number (content_tests b) → OrderTested b (Ok count) by_order by-order' rank rank'
    content_passed e = in_order (Ok count) (Ok count) o (rw (sym e) refl)
