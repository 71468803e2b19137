-- Where the fewest of the block is above the best's distance, each of its numbers is farther than the best.
use Prim.Native.Nat.{◌+◌, ◌*◌, ◌-◌, ◌<◌}
use mathlib.Core.Path.{◌≡◌, subst}
use native.Mathlib.Nat.{lt_of_lt_of_le}
use native.Mathlib.Omega.{arith}
use lib.ListN.{get_or}
use Rattle.bitset.specs.Entries.{word_at}
use Rattle.bitset.proofs.Words.{held}
use Rattle.joins.specs.Candidate.{ones_apart}
use Rattle.seeking.specs.Listed.{fewest}
use Rattle.seeking.proofs.Beside.{fewest_each}
use Rattle.seeking.proofs.Targets.{nearer_passed}
use Rattle.seeking.proofs.nearest.or_block.Goals as goal

pub returns-then-best-few : goal.returns-then-best-few
returns-then-best-few c =
    let a = c.args in
    let first = word_at a.wanted 0 in
    let known = c.shared_slice_known-4-1 in
    let far : a.best.distance < fewest a.words.now first (16 * a.j) 16 = omega (arith, c.requires.3, c.if-best-few.true) in
    nearer_passed a.there.now a.words.now a.sizes.now a.bits.now c.requires.0 a.wanted (λ i h. (known.given i).fits) (search held)
    a.best (16 * a.j) (16 * a.j + 16) c.requires.2 c.requires.1
    (λ k g h.
    let at : 16 * a.j + (k - 16 * a.j) ≡ k = omega arith in
    subst (λ i. a.best.distance < ones_apart first (get_or a.words.now i 0)) at
    (lt_of_lt_of_le far (fewest_each a.words.now first (16 * a.j) 16 (k - 16 * a.j) (omega arith))))
