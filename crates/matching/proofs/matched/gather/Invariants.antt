-- `matching::matched::gather` meets its contract: one place more a turn, if its module takes part.
use Rattle.std.proofs.Common.{◌≤◌, length}
use Rattle.matching.specs.Matched.{Matching}
use Rattle.matching.proofs.Gathering.{keys_below}
use Rattle.matching.proofs.Writing.{Writing}
use Rattle.matching.proofs.matched.gather.Given as goal

abbrev pub invariant-loop-i : goal.invariant-loop-i
invariant-loop-i g l =
    let own : Matching = record { filter = l.filter; answers = l.answers; tags = l.tags; sizes = l.sizes; shares = l.shares } in
    (l.i ≤ length l.order) × Writing (keys_below own l.order l.i) l.i l.count l.initial.keys l.keys
