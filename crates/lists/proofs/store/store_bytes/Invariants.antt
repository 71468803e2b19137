-- `lists::store::store_bytes` meets its contract. The loop's invariant: the byte is stored at the first places.
use mathlib.Core.Path.{◌≡◌}
use lib.ListN.{length, take}
use Rattle.lists.specs.Stored.{stored}
use Rattle.lists.proofs.store.store_bytes.Given as goal

abbrev pub invariant-loop-place : goal.invariant-loop-place
invariant-loop-place l =
    (l.area ≡ stored l.value (take l.place-index l.list) l.initial.area) × (length l.area ≡ length l.initial.area)
