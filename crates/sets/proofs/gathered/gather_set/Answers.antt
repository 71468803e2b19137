-- `sets::gathered::gather_set` meets its contract: the blocks of the list are marked.
use Rattle.sets.proofs.Marking.{block_marked}
use borrow.Author.Rules.{rules}
use Rattle.sets.proofs.gathered.gather_set.Goals as goal

pub gather_marked-requires : goal.gather_marked-requires
gather_marked-requires c =
    record {
      few = c.requires.few;
      all_blocks = search rules;
      has_mark = c.requires.has_mark;
      room = c.requires.room;
      in_block = block_marked c.requires c.mark_blocks.ensures;
    }
