-- `conditions::bits::bad_bit` meets its contract: the first of the two tests that holds decides.
use mathlib.Core.Path.{sym, ◌∙◌}
use Rattle.grouping.specs.Conditions.{bad_bit}
use Rattle.conditions.proofs.bits.bad_bit.Goals as goal

pub returns-then-bad_flags : goal.returns-then-bad_flags
unfolding bad_bit
returns-then-bad_flags c =
    let e = sym c.bad_flags.ensures ∙ c.if-bad_flags.true in
    λ b h. rw (h.module_count, h.entry_count, h.flag_bytes, h.entry_bits, e)

pub returns : goal.returns
unfolding bad_bit
returns c =
    let e = sym c.bad_flags.ensures ∙ c.if-bad_flags.false in
    λ b h. rw (h.module_count, h.entry_count, h.flag_bytes, h.entry_bits, e) c.any_bit_from.ensures
