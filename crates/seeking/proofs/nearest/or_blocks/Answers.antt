-- The invariant: the nearest so far, once the blocks up to j were looked at.
use Prim.Native.Nat.{◌+◌, ◌*◌}
use mathlib.Core.Path.{◌≡◌, ap, ◌∙◌, subst}
use native.Mathlib.Omega.{arith}
use lib.ListN.{length, get_or}
use Rattle.lists.proofs.Map.{get_or_map_range}
use Rattle.bitset.specs.Entries.{word_at}
use Rattle.seeking.specs.Listed.{fewest, fewest_of_blocks}
use Rattle.seeking.specs.Search.{Nearer}
use Rattle.seeking.proofs.Targets.{nearer_stays, nearer_then}
use Rattle.seeking.proofs.nearest.or_blocks.Goals as goal

pub loop-j-init : goal.loop-j-init
loop-j-init c =
    let a = c.args in (
      c.requires.2,
      nearer_stays a.there.now a.words.now a.sizes.now a.bits.now c.requires.0 a.wanted a.best (16 * a.from) (16 * a.from)
          c.requires.1 (λ k g h. absurd (omega arith)),
    )

pub overflow_cast-few : goal.overflow_cast-few
overflow_cast-few c = omega (arith, c.type_inv.few c.loop-j.j)

pub or_block-nearest-requires : goal.or_block-nearest-requires
unfolding fewest_of_blocks
or_block-nearest-requires c =
    let a = c.args in
    let l = c.loop-j in (
      c.requires.0,
      l.invariant.1.of_list,
      omega (arith, c.requires.3, c.requires.4),
      ap (λ t. get_or t l.j 0) c.requires.5
          ∙ get_or_map_range (λ j. fewest a.words.now (word_at a.wanted 0) (16 * j) 16) (length a.few.now) l.j 0 (omega (arith, c.requires.3)),
    )

pub loop-j-preserved : goal.loop-j-preserved
loop-j-preserved c =
    let l = c.loop-j in
    let a = c.args in
    let next : 16 * l.j + 16 ≡ 16 * (l.j + 1) = omega arith in (
      omega arith,
      subst (Nearer a.there.now a.sizes.now a.bits.now a.wanted a.best c.or_block-nearest.result (16 * a.from)) next
          (nearer_then a.there.now a.sizes.now a.bits.now a.wanted a.best l.nearest c.or_block-nearest.result
          (16 * a.from) (16 * l.j) (16 * l.j + 16) l.invariant.1 c.or_block-nearest.ensures),
    )

pub returns : goal.returns
returns c =
    let l = c.loop-j in
    let a = c.args in
    let all : l.j ≡ a.end = omega (arith, l.invariant.0) in
    subst (λ j. Nearer a.there.now a.sizes.now a.bits.now a.wanted a.best l.nearest (16 * a.from) (16 * j)) all l.invariant.1
