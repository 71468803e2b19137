-- `chunk_names::append::append` meets its contract: the copied bytes stand at their place, and there are as many as there is room for.
use Rattle.chunk_names.proofs.Appending.{appended}
use Rattle.chunk_names.proofs.append.append.Goals as goal

pub returns : goal.returns
returns c =
    let a = c.args in
    appended a.area.now a.part.now a.at c.min-count.result c.min-count.ensures c.copy.new.to c.copy.ensures
