-- `matching::matched::module_takes_part` meets its contract: where the filter asks nothing, a name is enough.
use Rattle.std.proofs.Common.{rules, sym}
use Rattle.matching.proofs.Gathering.{takes_by_name}
use Rattle.matching.proofs.matched.module_takes_part.Goals as goal

pub returns-then-this-ne0 : goal.returns-then-this-ne0
returns-then-this-ne0 g c = sym (takes_by_name c.args.filter c.args.answer _ _ _ (c.requires.named (search rules)))
