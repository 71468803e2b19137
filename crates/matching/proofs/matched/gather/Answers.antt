-- `matching::matched::gather` meets its contract: one place more a turn, if its module takes part.
use Rattle.std.proofs.Common.{◌≡◌, ◌<◌, length, get_or, sym, ◌∙◌, arith}
use Rattle.matching.specs.Matched.{Matching, takes_module}
use Rattle.matching.proofs.Gathering.{keys_none, keys_in, keys_out, keys_all}
use Rattle.matching.proofs.Writing.{none_written, one_written, none_stored}
use Rattle.matching.proofs.matched.gather.Goals as goal
use Rattle.matching.proofs.matched.gather.Goals.{then-module_takes_part, else-module_takes_part}

pub loop-i-init : goal.loop-i-init
loop-i-init g c = (omega arith, rw (keys_none _ c.args.order.now) (none_written c.args.keys.now))

pub loop-i-preserved : goal.loop-i-preserved
unfolding takes_module
loop-i-preserved g c =
    let own : Matching = record {
      filter = c.args.filter;
      answers = c.args.answers.now;
      tags = c.args.tags.now;
      sizes = c.args.sizes.now;
      shares = c.args.shares.now;
    } in
    let l = c.loop-i in
    let o = c.args.order.now in
    let k = c.key_of in
    let asked : takes_module own (get_or o l.i 0) ≡ c.module_takes_part.result = sym c.module_takes_part.ensures in
    let r : l.i < length c.args.keys.now = omega (arith, c.requires.ready.room) in (
      omega arith,
      elim c.if-module_takes_part.branch [
        | then-module_takes_part w ↦ rw w.count-is (one_written l.invariant.1 k.result (keys_in own o l.i k.result k.ensures (asked ∙ w.if-module_takes_part.true)) r)
        | else-module_takes_part w ↦ rw w.count-is (none_stored l.invariant.1 k.result (keys_out own o l.i (asked ∙ w.if-module_takes_part.false)))
      ],
    )

pub returns : goal.returns
returns g c =
    let l = c.loop-i in
    let e : l.i ≡ length c.args.order.now = omega arith in
    rw (keys_all _ c.args.order.now l.i e) at l.invariant.1.holds
