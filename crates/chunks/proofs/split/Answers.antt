-- `chunks::split` meets its contract: the input is tested, then the state, and a build that passes both is run.
use Prim.Native.Nat.{ℕ}
use mathlib.Core.List.{List, []}
use mathlib.Core.Path.{refl, sym}
use native.Mathlib.Omega.{arith}
use lib.Seq.{length-take-le}
use Rattle.grouping.specs.Given.{Given, Shared, Variant, Areas}
use Rattle.std.specs.Prelude.{Result}
use Rattle.std.proofs.lemmas.Result.{err_from_is_err_and}
use Rattle.refusal.specs.declared.Refusal.{Refusal}
use Rattle.testing.specs.Tested.{HandsAll, InputTested}
use Rattle.chunks.proofs.Passing.{
  zeros,
  input_refused,
  passed_answers,
  state_refused,
  modules_in,
  count_in,
  input_fits,
  runnable,
  answers,
}
use Rattle.chunks.proofs.split.Goals as goal

-- what the tests say of the build with this chunk count on entry
tested : {s : Shared} {v : Variant} {r : Result ℕ Refusal} {by_order rank : List ℕ} (on_entry : ℕ)
    → ((b : Given) → HandsAll b s v → InputTested b r zeros by_order zeros rank)
    → InputTested (record { shared = s; variant = v; on_entry = on_entry }) r zeros by_order zeros rank
tested {s = s} {v = v} on_entry all = all (record { shared = s; variant = v; on_entry = on_entry }) (record { shared = refl; variant = refl })

-- the input says nothing of the areas: any will do
any : Areas
any =
    record {
      modules = record { chunk_of = []; next_of = [] };
      records = record { first_of = []; group_of = []; name_of = []; size_of = []; bits_of = []; mark_of = [] };
      scratch = [];
    }

pub test_state-requires : goal.test_state-requires
test_state-requires c = passed_answers _ any _ (tested c.args.on_entry c.in_ok-count.ensures)

pub returns-in_err-test_state-clause-answered : goal.returns-in_err-test_state-clause-answered
returns-in_err-test_state-clause-answered c =
    let r = c.from_residual-in_err-test_state in
    let p = err_from_is_err_and r.result r.ensures.1 in
    rw (p.1, p.2)
    (state_refused _ _ _ (tested c.args.on_entry c.in_ok-count.ensures) _
    (c.in_err-test_state.ensures _ _
    (record {
      rows = record { module_count = refl; group_count = refl; name_count = refl; all_answers = refl };
      count = refl;
      areas = refl;
      words = refl;
    })))

pub slice_bounds-by_order-end : goal.slice_bounds-by_order-end
slice_bounds-by_order-end c = count_in _ any _ (tested c.args.on_entry c.in_ok-count.ensures)

pub slice_bounds-run_tested-end : goal.slice_bounds-run_tested-end
slice_bounds-run_tested-end c =
    sym (length-take-le c.in_ok-count.count c.test_input.new.by_order
    (count_in _ any _ (tested c.args.on_entry c.in_ok-count.ensures)))

pub slice_bounds-rank-end : goal.slice_bounds-rank-end
slice_bounds-rank-end c = modules_in _ any _ (tested c.args.on_entry c.in_ok-count.ensures)

pub slice_bounds-run_tested-end-2 : goal.slice_bounds-run_tested-end-2
slice_bounds-run_tested-end-2 c =
    sym (length-take-le c.args.n c.test_input.new.rank
    (modules_in _ any _ (tested c.args.on_entry c.in_ok-count.ensures)))

pub run_tested-made-requires : goal.run_tested-made-requires
run_tested-made-requires c =
    runnable _ _ _ (tested c.args.on_entry c.in_ok-count.ensures)
    (c.in_ok-test_state.ensures _ _
    (record {
      rows = record { module_count = refl; group_count = refl; name_count = refl; all_answers = refl };
      count = refl;
      areas = refl;
      words = refl;
    }))

pub returns-in_err-count-clause-answered : goal.returns-in_err-count-clause-answered
returns-in_err-count-clause-answered c =
    let p = err_from_is_err_and c.from_residual.result c.from_residual.ensures.1 in
    rw (p.1, p.2) (input_refused _ _ _ (tested c.args.on_entry c.in_err-count.ensures))

pub returns-clause-answered : goal.returns-clause-answered
returns-clause-answered c =
    let t = tested c.args.on_entry c.in_ok-count.ensures in
    let call =
    answers _ _ _ t
    (c.in_ok-test_state.ensures _ _
    (record {
      rows = record { module_count = refl; group_count = refl; name_count = refl; all_answers = refl };
      count = refl;
      areas = refl;
      words = refl;
    })) c.run_tested-made.result _ (c.run_tested-made.ensures.written.of_build _ (input_fits _ any _ t))
    in
    grind (arith, call)
