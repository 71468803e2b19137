-- `contiguous::jump` meets its contract: a test as a number.
use mathlib.Core.Bool.{Bool, true, false, cond}
use mathlib.Core.Path.{◌≡◌, refl}
use native.Mathlib.Numerals.{add-one}
use mir.Val.{bool_byte}
use Rattle.contiguous.specs.Jumps.{is_jump}
use Rattle.contiguous.proofs.jump.Goals as goal

as_byte : (b : Bool) → bool_byte b ≡ cond b 1 0
as_byte true = refl
as_byte false = refl

pub returns : goal.returns
returns c = rw add-one (as_byte (is_jump c.args.r c.args.next))
