-- `run::finish` meets its contract: what the pass writes to is cleared, and then the scratch.
use Prim.Native.Nat.{◌+◌, ◌-◌}
use mathlib.Core.List.{◌++◌}
use mathlib.Core.Path.{◌≡◌, sym, ap, ◌∙◌, subst}
use borrow.Rule.Slice.PartMut.{put_mid}
use lib.ListN.{drop}
use lib.Seq.{length-take-le}
use Rattle.linking.specs.Links.{Linkable, linked}
use Rattle.run.specs.Finished.{unlinked}
use Rattle.run.proofs.Zeros.{unlinked_is}
use Rattle.run.proofs.finish.Goals as goal

pub link-requires : goal.link-requires
link-requires c =
    let emptied : unlinked c.args.n c.args.at c.args.made ((record { next_of = c.args.next_of.now; first_of = c.args.first_of.now }))
    ≡ record {
      next_of = c.fill.new.self ++ drop c.args.n c.args.next_of.now;
      first_of =
          put_mid c.args.at (c.args.at + c.args.made - c.args.at) c.args.first_of.now c.fill-2.new.self;
    } =
    let first = c.fill in
    unlinked_is c.args.n c.args.at c.args.made ((record { next_of = c.args.next_of.now; first_of = c.args.first_of.now })) first.new.self c.fill-2.new.self c.requires.modules c.requires.records
    (first.ensures.after (λ y e. e)) (c.fill-2.ensures.after (λ y e. e)) in
    subst (Linkable c.args.order.now c.args.chunk_of.now c.args.on_entry c.args.at)
    (emptied)
    c.requires.linkable

pub returns : goal.returns
returns c =
    let emptied : unlinked c.args.n c.args.at c.args.made ((record { next_of = c.args.next_of.now; first_of = c.args.first_of.now }))
    ≡ record {
      next_of = c.fill.new.self ++ drop c.args.n c.args.next_of.now;
      first_of =
          put_mid c.args.at (c.args.at + c.args.made - c.args.at) c.args.first_of.now c.fill-2.new.self;
    } =
    let first = c.fill in
    unlinked_is c.args.n c.args.at c.args.made ((record { next_of = c.args.next_of.now; first_of = c.args.first_of.now })) first.new.self c.fill-2.new.self c.requires.modules c.requires.records
    (first.ensures.after (λ y e. e)) (c.fill-2.ensures.after (λ y e. e)) in
    record {
      chains = c.link.ensures ∙ ap (linked c.args.chunk_of.now c.args.on_entry c.args.at c.args.order.now)
          (sym (emptied));
      cleared = (c.fill-3.ensures.after (λ y e. e));
    }
