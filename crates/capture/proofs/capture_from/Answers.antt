-- `capture::capture_from` meets its contract: each way through it is one of the three ways of a capture from one module.
use Prim.Native.Nat.{ℕ, ◌-◌}
use mathlib.Core.Bool.{Bool, false≢true}
use mathlib.Core.List.{List}
use mathlib.Core.Path.{refl, sym, ap, ◌∙◌}
use native.Mathlib.Omega.{arith}
use lib.ListN.{length, replicate, length-set}
use Rattle.forget.specs.Unfollowed.{unfollowed}
use Rattle.walk.specs.Names.{Eligible}
use Rattle.capture.specs.Capture.{Given}
use Rattle.capture.proofs.Start.{capture_none, capture_alone, capture_walk, start_state}
use Rattle.capture.proofs.capture_from.Goals as goal

-- what the function is handed
abbrev given : Bool → ℕ → List ℕ → List ℕ → List ℕ → List ℕ → Given
given recursive from flags first dependency next =
    record {
      n = length flags;
      d = length next - 1;
      recursive = recursive;
      from = from;
      flags = flags;
      first = first;
      dependency = dependency;
      next = next;
    }

pub is_eligible_at-requires : goal.is_eligible_at-requires
is_eligible_at-requires c = c.requires.start_in

pub shape_of-marks-then-not-is_eligible_at : goal.shape_of-marks-then-not-is_eligible_at
shape_of-marks-then-not-is_eligible_at c = c.fill.auto.self

pub returns-then-not-is_eligible_at : goal.returns-then-not-is_eligible_at
returns-then-not-is_eligible_at c =
    let cleared = (c.fill.ensures.after (λ y e. e)) ∙ ap (λ (k : ℕ). replicate k 0) c.requires.mark_bytes in
    let off = sym c.is_eligible_at.ensures ∙ c.if-not-is_eligible_at.true in
    capture_none (given c.args.recursive c.args.from.0 c.args.flags.now c.args.records.now.first.now c.args.records.now.dependency.now c.args.records.now.next.now) _ cleared (λ e. false≢true (sym off ∙ e))

pub bounds-marks-from : goal.bounds-marks-from
bounds-marks-from c =
    let p = c.requires in
    omega (arith, c.fill.auto.self, p.mark_bytes, p.start_in)

pub shape_of-marks-then-not-recursive : goal.shape_of-marks-then-not-recursive
shape_of-marks-then-not-recursive c = simp length-set c.fill.auto.self

pub bounds-queue-0 : goal.bounds-queue-0
bounds-queue-0 c =
    let p = c.requires in omega (arith, p.start_in, p.room)

pub shape_of-marks : goal.shape_of-marks
shape_of-marks c =
    c.walk.ensures.walked.same_length ∙ simp length-set c.fill.auto.self

pub shape_of-queue : goal.shape_of-queue
shape_of-queue c = c.walk.auto.queue ∙ simp length-set

pub returns : goal.returns
returns c =
    let cleared = (c.fill.ensures.after (λ y e. e)) ∙ ap (λ (k : ℕ). replicate k 0) c.requires.mark_bytes in
    let on = c.if-not-recursive.false in
    capture_walk (given c.args.recursive c.args.from.0 c.args.flags.now c.args.records.now.first.now c.args.records.now.dependency.now c.args.records.now.next.now) _ cleared c.requires.start_in _ on c.walk.ensures.walked.marked

pub returns-then-not-recursive : goal.returns-then-not-recursive
returns-then-not-recursive c =
    let cleared = (c.fill.ensures.after (λ y e. e)) ∙ ap (λ (k : ℕ). replicate k 0) c.requires.mark_bytes in
    let eligible-start : Eligible c.args.flags.now c.args.from.0 =
    sym c.is_eligible_at.ensures ∙ c.if-not-is_eligible_at.false in
    capture_alone (given c.args.recursive c.args.from.0 c.args.flags.now c.args.records.now.first.now c.args.records.now.dependency.now c.args.records.now.next.now) _ cleared c.requires.start_in eligible-start c.if-not-recursive.true

pub walk-requires : goal.walk-requires
unfolding unfollowed
walk-requires c =
    let cleared = (c.fill.ensures.after (λ y e. e)) ∙ ap (λ (k : ℕ). replicate k 0) c.requires.mark_bytes in
    let eligible-start : Eligible c.args.flags.now c.args.from.0 =
    sym c.is_eligible_at.ensures ∙ c.if-not-is_eligible_at.false in
    record {
      tables = c.requires.tables;
      state = start_state (given c.args.recursive c.args.from.0 c.args.flags.now c.args.records.now.first.now c.args.records.now.dependency.now c.args.records.now.next.now) _ cleared c.requires.start_in eligible-start c.args.queue.now c.requires.room;
      clear = refl;
    }
