-- `matching::matched::match_group` meets its contract: what is gathered is sorted where it stands.
use Rattle.std.proofs.Common.{◌≤◌, length, sym, subst, arith, length-take-le}
use Rattle.matching.specs.ByName.{Fits}
use Rattle.matching.proofs.MatchedKeys.{count_few, keys_fit}
use Rattle.matching.proofs.matched.match_group.Goals as goal

pub sort_by_name-requires : goal.sort_by_name-requires
sort_by_name-requires c =
    let gathered = c.gather_group-count in
    let few = count_few _ c.args.order.now gathered.ensures in
    let fit : gathered.result ≤ length gathered.new.keys = omega (arith, few, c.requires.room, gathered.auto.keys) in (
      rw (length-take-le gathered.result gathered.new.keys fit) (omega (arith, few, c.requires.few)),
      subst Fits (sym gathered.ensures.entries) (keys_fit _ c.args.order.now c.requires),
    )
