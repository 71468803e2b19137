-- `walk::walk::walk` meets its contract: with all modules taken off the part without marks is the whole walk, else the part with marks goes on
-- from where it had come to.
use Rattle.walk.proofs.Walking.{walk_ends, walk_joins}
use Rattle.walk.proofs.walk.walk.Goals as goal

pub returns-then-part : goal.returns-then-part
returns-then-part c =
    let a = c.args in
    let p = c.walk_plain-part.ensures in record { walked = walk_ends a.flags.now a.records.now.first.now a.records.now.dependency.now a.records.now.next.now _ _ _ _ _ p c.if-part.true c.requires.state.mark_bytes; followed_after = c.requires.clear }

pub returns : goal.returns
returns c =
    let a = c.args in
    let p = c.walk_plain-part.ensures in
    let q = c.walk_marked.ensures in record { walked = walk_joins a.flags.now a.records.now.first.now a.records.now.dependency.now a.records.now.next.now _ _ _ _ _ _ p c.requires.state.mark_bytes q.walked; followed_after = q.followed_after }
