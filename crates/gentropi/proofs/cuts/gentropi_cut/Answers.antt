-- `gentropi::cuts::gentropi_cut` meets its contract: each way out knows the answer, and the places of its outcome compute.
use Prim.Native.Nat.{ℕ}
use mathlib.Core.Path.{sym, ap, ◌∙◌}
use Rattle.cut.specs.Call.{chosen_of, outcome_of}
use Rattle.cut.specs.declared.Cut.{Cut}
use Rattle.std.specs.Prelude.Result.{Ok}
use Rattle.gentropi.specs.After.{CutPlaces, why_number, cut_after}
use Rattle.gentropi.proofs.Answering.{number_of_lem, places_after}
use Rattle.gentropi.proofs.cuts.gentropi_cut.Goals as goal

pub returns-in-Err : goal.returns-in-Err
returns-in-Err c =
    let same = sym (ap outcome_of c.in-Err.is) ∙ c.pick_relevance_split_index-answer.ensures in
    record { number = c.number.ensures ∙ number_of_lem same; places = places_after same cut_after _ }

pub returns-in-At : goal.returns-in-At
returns-in-At c =
    let before : CutPlaces = record { why_none = c.args.why_none.now; index = c.args.index.now; left = c.args.left.now; right = c.args.right.now } in
    let point = c.in-At.point in
    let known = c.in-Ok.is ∙ ap Ok c.in-At.is in
    let same = sym (ap outcome_of known) ∙ c.pick_relevance_split_index-answer.ensures in
    record {
      number = number_of_lem same;
      places =
          ap (λ (n : ℕ). record { why_none = n; index = point.index; left = point.left_size; right = point.right_size })
          (c.why_none_of.ensures ∙ ap (λ (x : Cut). why_number (chosen_of x)) c.in-At.is)
          ∙ places_after same cut_after before;
    }
