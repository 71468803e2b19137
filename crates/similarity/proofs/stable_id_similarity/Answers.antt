-- `similarity::stable_id_similarity` meets its contract: its test decides the call, and an accepted one has its score.
use mathlib.Core.Bool.{or-true}
use mathlib.Core.Path.{sym, ap, ◌∙◌}
use borrow.Author.Tests.{ltb-false}
use Rattle.refusal.specs.Outcome.{accepted}
use Rattle.refusal.proofs.Ladder.{none_applies, applies, passes}
use Rattle.ids.specs.Offsets.{id_too_long}
use Rattle.similarity.specs.Similarity.{similarity_tests}
use Rattle.similarity.proofs.SimilarityLaws.{decided}
use Rattle.similarity.proofs.stable_id_similarity.Goals as goal
use Rattle.similarity.proofs.stable_id_similarity.Goals.{then-id_too_long-via-then-id_too_long, then-id_too_long-via-else-id_too_long+then-id_too_long-2}

pub returns-then-id_too_long : goal.returns-then-id_too_long
unfolding similarity_tests
returns-then-id_too_long c =
    let e = c.id_too_long.ensures in
    elim c.then-id_too_long.branch [
      | then-id_too_long-via-then-id_too_long w ↦ sym (decided _ _ (applies (rw (sym e ∙ w.if-id_too_long.true))))
      | then-id_too_long-via-else-id_too_long+then-id_too_long-2 w ↦
          let f = sym w.id_too_long-else-id_too_long.ensures ∙ w.if-id_too_long-2.true in
          sym (decided _ _ (applies (rw (f, or-true))))
    ]

pub similarity_within-requires : goal.similarity_within-requires
unfolding id_too_long
similarity_within-requires c = ltb-false _ _ (sym c.id_too_long.ensures ∙ c.if-id_too_long.false)

pub returns : goal.returns
unfolding similarity_tests
returns c =
    let e = sym c.id_too_long.ensures ∙ c.if-id_too_long.false in
    let f = sym c.id_too_long-else-id_too_long.ensures ∙ c.if-id_too_long-2.false in
    ap accepted c.similarity_within.ensures ∙ sym (decided _ _ (passes (rw (e, f)) none_applies))
