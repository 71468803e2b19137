-- `records::any_bad_chain` meets its contract: the local table has a byte for each record, and none is marked.
use mathlib.Core.Path.{refl}
use native.Mathlib.Omega.{arith}
use Rattle.records.proofs.any_bad_chain.Goals as goal

pub bad_chain-requires-2 : goal.bad_chain-requires-2
bad_chain-requires-2 c =
    let p = c.requires in (p, record { room = omega (arith, p.few); clear = refl })
