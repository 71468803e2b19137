-- `ranks::by_id::rank_over` meets its contract: sorted by id, with ranks where no neighbours tie.
use mathlib.Core.Bool.{true≢false}
use mathlib.Core.Path.{refl, sym, ◌∙◌}
use Rattle.ranks.proofs.InIdOrder.{sorted_named, sorted_shares, sorted_ranks}
use Rattle.ranks.proofs.by_id.rank_over.Goals as goal

pub shares_id-requires : goal.shares_id-requires
shares_id-requires c =
    sorted_named _ _ c.args.list.now c.sort_by_id.ensures.sorted c.requires.modules.named

pub returns-then-shares_id : goal.returns-then-shares_id
returns-then-shares_id c =
    record {
      shared =
          sym c.if-shares_id.true
          ∙ sorted_shares _ _ c.args.list.now c.sort_by_id.ensures.sorted c.shares_id.ensures;
      ranked = λ e. absurd (true≢false e);
      same_length = refl;
    }

pub fill_rank-requires : goal.fill_rank-requires
fill_rank-requires c =
    sorted_ranks _ _ c.args.list.now c.sort_by_id.ensures.sorted c.requires.modules
    (sym c.shares_id.ensures ∙ c.if-shares_id.false)

pub returns : goal.returns
returns c =
    let sorted = c.sort_by_id.ensures.sorted in
    record {
      shared =
          sym c.if-shares_id.false
          ∙ sorted_shares _ _ c.args.list.now sorted c.shares_id.ensures;
      ranked = λ e. rw (sorted) at c.fill_rank.ensures;
      same_length = c.fill_rank.ensures.same_length;
    }
