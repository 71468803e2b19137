-- `options::force::settings_under` meets its contract: each field is what its call ensures, and the constant 0.0 is the number 0.
use lib.Ieee.{of_bits, of_int}
use Rattle.options.proofs.force.settings_under.Goals as goal

pub returns : goal.returns
unfolding of_bits of_int
returns c = rw (c.filter_of.ensures, c.unwrap_or.ensures, c.unwrap_or-2.ensures, c.in_force-force.ensures)
