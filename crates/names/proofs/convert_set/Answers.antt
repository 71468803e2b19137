-- `names::convert_set` meets its contract: an entries-aware set is handed on, any other is one item.
use native.Mathlib.Omega.{arith}
use lib.ListN.{length-take, length-drop}
use Rattle.names.proofs.OneSet.{set_item_ready, set_listed, set_whole, item_turned, divided_turned}
use borrow.Author.Rules.{rules}
use Rattle.names.proofs.convert_set.Goals as goal

pub convert_subgroups-requires : goal.convert_subgroups-requires
convert_subgroups-requires c = record { set_turning = set_whole c.requires.set_offered c.if-settings.true; set_len_bound = c.requires.set_len_bound }

pub returns-then-settings : goal.returns-then-settings
returns-then-settings c = record { set_taken = divided_turned c.args.settings c.args.group c.args.name c.if-settings.true c.convert_subgroups.ensures.set_turned; scratch_len_unchanged = c.convert_subgroups.ensures.scratch_len_unchanged; same = c.convert_subgroups.ensures.same }

pub convert_item_to_chunks-requires : goal.convert_item_to_chunks-requires
convert_item_to_chunks-requires c = record { item_ready = set_item_ready c.requires.set_offered; listed = set_listed c.requires.set_offered (simp (length-take, length-drop) (omega (arith, c.requires.set_len_bound))) }

pub returns : goal.returns
returns c =
    let a = c.args in
    record {
      set_taken = item_turned a.settings a.group a.name c.new.result c.if-settings.false c.convert_item_to_chunks.ensures.converted;
      scratch_len_unchanged = search rules;
      same = c.convert_item_to_chunks.ensures.same;
    }
