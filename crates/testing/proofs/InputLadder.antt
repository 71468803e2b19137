-- The whole ladder of the input from its first part and the rest, and what an accepted build has passed.
use Prim.Native.Nat.{ℕ}
use mathlib.Core.List.{List, ◌++◌}
use mathlib.Core.Path.{◌≡◌, refl, sym, ap, ◌∙◌}
use native.Mathlib.Omega.{arith}
use lib.ListN.{length}
use Rattle.refusal.specs.Outcome.{Test, accepted, outcome, first_number}
use Rattle.grouping.specs.Given.{Given}
use Rattle.grouping.specs.Conditions.{input_tests}
use Rattle.settling.specs.Modules as settling
use Rattle.conditions.specs.Ladder.{shape_tests}
use Rattle.conditions.proofs.InputParts.{input_parts}
use Rattle.places.specs.Ordered.{listed_of}
use Rattle.std.specs.Prelude.{Result}
use Rattle.std.specs.Prelude.Result.{Err}
use Rattle.refusal.specs.Answers.{refusal_number}
use Rattle.refusal.specs.declared.Refusal.{Refusal}
use Rattle.testing.specs.Content.{content_tests}
use Rattle.testing.specs.Tested.{order_tests, OrderTested, InputTested}
use Rattle.refusal.proofs.Ladder.{number_above, part_refuses, past, next}

module _ (b : Given) where
  shape_first : input_tests b ≡ shape_tests b ++ order_tests b
  unfolding order_tests content_tests
  shape_first = input_parts b

  -- ---- what an accepted build has passed

  pub passed_all : {A : Type 0} (a v : A) → outcome (input_tests b) a ≡ accepted v → settling.Passed b
  unfolding input_tests
  passed_all a v e =
      let t1 = next a v 1 _ _ e in
      let t2 = next a v 2 _ _ t1.1 in
      let t3 = next a v 3 _ _ t2.1 in
      let t4 = next a v 4 _ _ t3.1 in
      let t5 = next a v 5 _ _ t4.1 in
      let t6 = next a v 6 _ _ t5.1 in
      let t7 = next a v 7 _ _ t6.1 in
      let t8 = next a v 8 _ _ t7.1 in
      let t9 = next a v 9 _ _ t8.1 in
      record {
        counts = t1.0;
        tables = t2.0;
        ids = t3.0;
        ids_apart = t4.0;
        orders_apart = t5.0;
        total = t6.0;
        records = t7.0;
        limits = t8.0;
        bits = t9.0;
        answers = (next a v 10 _ _ t9.1).0;
      }

  -- ---- the parts joined

  -- a build that passes has no number in the first part
  shape_clear : settling.Passed b → first_number (shape_tests b) ≡ 0
  unfolding first_number shape_tests outcome
  shape_clear p = rw (p.counts, p.tables, p.ids)

-- the first part refuses, and nothing is written
module _ {b : Given} {by_order rank : List ℕ} where
  pub shape_refuses : (e : Refusal) → refusal_number e ≡ first_number (shape_tests b) → InputTested b (Err e) by_order by_order rank rank
  shape_refuses e told =
      record {
        answer =
            part_refuses (length (listed_of b)) e (shape_tests b) (order_tests b) told
            ∙ ap (λ (ts : List Test). outcome ts (length (listed_of b))) (sym (shape_first b));
        ordered = λ p. let z = shape_clear b p in absurd (omega (arith, number_above e));
        order_length = refl;
        rank_length = refl;
      }

module _ {b : Given} {by_order by-order' rank rank' : List ℕ} where
  -- the first part is passed, and the rest decides
  pub order_decides : {r : Result ℕ Refusal} → 0 ≡ first_number (shape_tests b) → OrderTested b r by_order by-order' rank rank'
      → InputTested b r by_order by-order' rank rank'
  unfolding shape_tests
  order_decides e o =
      record {
        answer =
            o.answer ∙ sym (past (length (listed_of b)) (shape_tests b) (order_tests b) refl e)
            ∙ ap (λ (ts : List Test). outcome ts (length (listed_of b))) (sym (shape_first b));
        ordered = λ p. o.ordered p.ids_apart p.orders_apart;
        order_length = o.order_length;
        rank_length = o.rank_length;
      }
