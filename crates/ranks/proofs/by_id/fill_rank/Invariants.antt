-- `ranks::by_id::fill_rank` meets its contract: one module a turn gets its position.
use Rattle.ranks.proofs.Ranking.{RanksTo}
use Rattle.ranks.proofs.by_id.fill_rank.Given as goal

abbrev pub invariant-loop-i : goal.invariant-loop-i
invariant-loop-i l = RanksTo l.list l.initial.rank l.rank l.i
