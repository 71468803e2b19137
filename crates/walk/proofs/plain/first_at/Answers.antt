-- `walk::plain::first_at` meets its contract.
use mir.Facts.{Fits-32_64}
use Rattle.walk.proofs.plain.first_at.Goals as goal

pub overflow_cast-result : goal.overflow_cast-result
overflow_cast-result c = Fits-32_64 (c.type_inv.first _)
