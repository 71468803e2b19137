-- The invariant: the first i modules are counted, the kinds are on their chains, and the tables are as long as they were.
use Rattle.std.proofs.Common.{◌≡◌, ◌≤◌, length, take}
use Rattle.subgroups.specs.Buckets.{bucket_count, Chained}
use Rattle.subgroups.proofs.Counting.{Counted}
use Rattle.subgroups.proofs.kinds.find_kinds.Given as goal

abbrev pub invariant-loop-i : goal.invariant-loop-i
invariant-loop-i l =
    (l.i ≤ length l.set) × Counted l.bits l.sizes (take l.i l.set) l.count (take l.i l.kind_of) l.kind_sizes l.kind_bits
    × (length l.kind_of ≡ length l.initial.kind_of) × (length l.kind_sizes ≡ length l.initial.kind_sizes) × (length l.kind_bits ≡ length l.initial.kind_bits)
    × Chained l.kind_bits l.count l.heads l.chain × (length l.heads ≡ bucket_count) × (length l.chain ≡ length l.initial.chain)
