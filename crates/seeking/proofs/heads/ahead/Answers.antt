-- A number that does not seek is not ahead; of two that seek the first in the order is.
use mathlib.Core.Bool.{true, false}
use mathlib.Core.Path.{◌≡◌, sym, ap, ap₂, ◌∙◌}
use Rattle.joins.specs.Candidate.{seeking, comes_first}
use Rattle.seeking.specs.Seekers.{seeks_at, seeks_before, ahead}
use Rattle.seeking.proofs.heads.ahead.Goals as goal

pub returns-then-not-seeks : goal.returns-then-not-seeks
unfolding ahead
returns-then-not-seeks c =
    let a = c.args in
    let no : seeks_at a.threshold a.sizes.now a.i ≡ false =
    sym (c.seeks.ensures ∙ ap (seeking a.threshold) c.seeker_at-x.ensures) ∙ c.if-not-seeks.true in
    rw no

pub returns-then-not-seeks-2 : goal.returns-then-not-seeks-2
unfolding ahead
returns-then-not-seeks-2 c =
    let a = c.args in
    let yes : seeks_at a.threshold a.sizes.now a.i ≡ true =
    sym (c.seeks.ensures ∙ ap (seeking a.threshold) c.seeker_at-x.ensures) ∙ c.if-not-seeks.false in
    let no : seeks_at a.threshold a.sizes.now a.best ≡ false =
    sym (c.seeks-2.ensures ∙ ap (seeking a.threshold) c.seeker_at-y.ensures) ∙ c.if-not-seeks-2.true in
    rw (yes, no)

pub returns-then-comes_before : goal.returns-then-comes_before
unfolding ahead
returns-then-comes_before c =
    let a = c.args in
    let yes : seeks_at a.threshold a.sizes.now a.i ≡ true =
    sym (c.seeks.ensures ∙ ap (seeking a.threshold) c.seeker_at-x.ensures) ∙ c.if-not-seeks.false in
    let yes₂ : seeks_at a.threshold a.sizes.now a.best ≡ true =
    sym (c.seeks-2.ensures ∙ ap (seeking a.threshold) c.seeker_at-y.ensures) ∙ c.if-not-seeks-2.false in
    let first : seeks_before a.sizes.now a.i a.best ≡ true =
    sym (c.comes_before.ensures
    ∙ ap₂ comes_first c.seeker_at-x.ensures c.seeker_at-y.ensures) ∙ c.if-comes_before.true in
    rw (yes, yes₂, first)

pub returns : goal.returns
unfolding ahead
returns c =
    let a = c.args in
    let yes : seeks_at a.threshold a.sizes.now a.i ≡ true =
    sym (c.seeks.ensures ∙ ap (seeking a.threshold) c.seeker_at-x.ensures) ∙ c.if-not-seeks.false in
    let yes₂ : seeks_at a.threshold a.sizes.now a.best ≡ true =
    sym (c.seeks-2.ensures ∙ ap (seeking a.threshold) c.seeker_at-y.ensures) ∙ c.if-not-seeks-2.false in
    let later : seeks_before a.sizes.now a.i a.best ≡ false =
    sym (c.comes_before.ensures
    ∙ ap₂ comes_first c.seeker_at-x.ensures c.seeker_at-y.ensures) ∙ c.if-comes_before.false in
    rw (yes, yes₂, later)
