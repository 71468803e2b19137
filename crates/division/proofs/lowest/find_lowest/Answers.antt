-- `division::lowest::find_lowest` meets its contract: one position more is looked at a turn.
use Prim.Native.Nat.{ℕ}
use mathlib.Core.List.{List}
use mathlib.Core.Path.{ap, ap₂, ◌∙◌}
use native.Mathlib.Omega.{arith}
use lib.Dec.{ltb}
use lib.ListN.{length, get_or, replicate, set}
use Rattle.lists.specs.Least.{earlier}
use Rattle.division.specs.Divided.{number_at}
use Rattle.division.proofs.LowestRanks.{lowest_none, lowest_more}
use Rattle.division.proofs.lowest.find_lowest.Goals as goal

pub loop-i-init : goal.loop-i-init
loop-i-init c =
    let a = c.args in
    (omega arith, c.requires.2 ∙ ap (λ n. replicate n 4096) c.requires.1 ∙ lowest_none a.finals.now a.kind_of.now a.set.now a.rank.now _)

pub loop-i-preserved : goal.loop-i-preserved
loop-i-preserved c =
    let a = c.args in
    let l = c.loop-i in
    let s : ℕ = number_at a.finals.now a.kind_of.now l.i in
    let own : ℕ = get_or a.rank.now (get_or a.set.now l.i 0) 0 in (
      omega arith,
      ap₂ (λ (t : List ℕ) (v : ℕ). set t s v) l.invariant.1 (c.lower.ensures ∙ ap (λ (t : List ℕ). earlier ltb (get_or t s 0) own) l.invariant.1)
          ∙ lowest_more a.finals.now a.kind_of.now a.set.now a.rank.now (length a.kind_of.now) l.i
          (c.requires.0.below l.i c.loop-i-test.true),
    )
