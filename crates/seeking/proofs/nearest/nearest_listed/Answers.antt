-- Three parts of the list are looked through, which together are all of it.
use Prim.Native.Nat.{◌*◌, ◌<◌}
use mathlib.Core.Path.{sym, ap, ◌∙◌}
use native.Mathlib.Omega.{arith}
use lib.ListN.{length, get_or}
use Rattle.bitset.specs.Entries.{word_at}
use Rattle.seeking.specs.Listed.{fewest_of_blocks}
use Rattle.seeking.proofs.Targets.{nearest_found}
use Rattle.seeking.proofs.nearest.nearest_listed.Goals as goal

pub overflow_cast-there : goal.overflow_cast-there
overflow_cast-there c = omega (arith, c.type_inv.there (16 * c.fill_fewest-first.result))

pub target_at-one-requires : goal.target_at-one-requires
target_at-one-requires c =
    let at_first : 16 * c.fill_fewest-first.result < length c.args.there.now =
    omega (arith, c.fill_fewest-first.ensures.1, c.requires.1, c.requires.2) in
    let r = c.requires.0.readable in
    let i = 16 * c.fill_fewest-first.result in
    let h = r.inside i (at_first) in
    record { has_size = h; has_bits = omega (arith, c.requires.0.rows); exact = r.exact (get_or c.args.there.now i 0) h }

pub or_blocks-later-requires : goal.or_blocks-later-requires
or_blocks-later-requires c =
    let at_first : 16 * c.fill_fewest-first.result < length c.args.there.now =
    omega (arith, c.fill_fewest-first.ensures.1, c.requires.1, c.requires.2) in
    let f = c.fill_fewest-first in
    let a = c.args in (
      c.requires.0,
      record { place = 16 * f.result; inside = at_first; is = c.target_at-one.ensures },
      omega (arith, f.ensures.1, f.auto.few),
      omega arith,
      omega (arith, c.requires.2, f.auto.few),
      f.ensures.0 ∙ ap (fewest_of_blocks a.words.now (word_at a.wanted 0)) (sym f.auto.few),
    )

pub or_blocks-earlier-requires : goal.or_blocks-earlier-requires
or_blocks-earlier-requires c =
    let f = c.fill_fewest-first in
    let a = c.args in (
      c.requires.0,
      c.or_blocks-later.ensures.of_list,
      omega arith,
      omega (arith, f.ensures.1, f.auto.few),
      omega (arith, c.requires.2, f.auto.few),
      f.ensures.0 ∙ ap (fewest_of_blocks a.words.now (word_at a.wanted 0)) (sym f.auto.few),
    )

pub overflow_mul-blocks : goal.overflow_mul-blocks
overflow_mul-blocks c = omega (arith, c.requires.2, c.fill_fewest-first.auto.few)

pub or_places-requires : goal.or_places-requires
or_places-requires c =
    (c.requires.0, c.or_blocks-earlier.ensures.of_list, omega (arith, c.requires.2, c.fill_fewest-first.auto.few), omega arith)

pub returns : goal.returns
returns c =
    let f = c.fill_fewest-first in
    let a = c.args in
    nearest_found a.there.now a.sizes.now a.bits.now a.wanted _ _ _ c.or_places.result (16 * f.result) (16 * length f.new.few)
    c.or_blocks-later.ensures c.or_blocks-earlier.ensures c.or_places.ensures
