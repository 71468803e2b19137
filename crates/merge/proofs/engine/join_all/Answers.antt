-- The invariant: from the present state the turns left give what all turns give from the start, the list has as many numbers as turns are left, the
-- first words stand beside it, and the heads stand for their blocks.
use Prim.Native.Nat.{suc, ◌-◌, ◌≤◌}
use mathlib.Core.Path.{◌≡◌, refl, sym, ap, ◌∙◌, subst}
use native.Mathlib.Omega.{arith}
use lib.ListN.{length, take, drop}
use lib.Seq.{take-length, length-take-le, length_front}
use Rattle.lists.specs.Range.{range}
use Rattle.lists.proofs.Range.{length_range}
use Rattle.seeking.proofs.Beside.{first_words_all, first_words_front, first_words_longer}
use Rattle.merge.specs.Merge.{merge_steps}
use Rattle.merge.specs.Engine.{listed, state_of, Turn}
use Rattle.merge.proofs.Listing.{listed_all}
use Rattle.merge.proofs.Turning.{sizes_fit_all, turn_more, turn_last, list_less}
use Rattle.merge.proofs.engine.join_all.Goals as goal

-- ---- the start
pub fill_range-requires : goal.fill_range-requires
fill_range-requires c =
    let long = ap length c.requires.1 ∙ length_range 0 (length c.args.there.now) in
    omega (arith, c.requires.0.tables.count)

pub fill_words-requires : goal.fill_words-requires
fill_words-requires c =
    let long = ap length c.requires.1 ∙ length_range 0 (length c.args.there.now) in
    omega (arith, c.requires.0.tables.bits_fit, c.requires.2)

pub fill_heads-requires : goal.fill_heads-requires
fill_heads-requires c =
    let fits = sizes_fit_all c.args.numbers.now c.args.sizes.now c.args.bits.now c.requires.0 in
    (fits.0, fits.1, c.requires.3, c.requires.4)

pub loop-left-init : goal.loop-left-init
loop-left-init c =
    let h = c.fill_heads in
    let w = c.fill_words in
    let f = c.fill_range in
    let a = c.args in
    let long = ap length c.requires.1 ∙ length_range 0 (length a.there.now) in
    let all = listed_all a.numbers.now (length a.there.now) c.requires.1 in (
      c.requires.0,
      ap (λ k. merge_steps k a.threshold (state_of a.numbers.now a.sizes.now a.bits.now)) (f.auto.area ∙ sym long),
      omega arith,
      take-length f.new.area ∙ f.ensures ∙ sym c.requires.1 ∙ sym all,
      h.ensures,
      first_words_all (listed a.numbers.now) w.new.words a.bits.now (length a.words.now)
          (all ∙ c.requires.1 ∙ ap (range 0) (sym c.requires.2)) w.ensures w.auto.words,
      refl,
      refl,
      refl,
      refl,
      w.auto.words ∙ c.requires.2 ∙ sym f.auto.area,
      refl,
    )

pub slice_bounds-join_next-end-in-loop-left : goal.slice_bounds-join_next-end-in-loop-left
slice_bounds-join_next-end-in-loop-left c =
    let l = c.loop-left in sym (length-take-le l.left l.there l.invariant.2)

pub slice_bounds-join_next-end-in-loop-left-2 : goal.slice_bounds-join_next-end-in-loop-left-2
slice_bounds-join_next-end-in-loop-left-2 c =
    let l = c.loop-left in omega (arith, l.invariant.2, l.invariant.10)

pub slice_bounds-join_next-end-in-loop-left-3 : goal.slice_bounds-join_next-end-in-loop-left-3
slice_bounds-join_next-end-in-loop-left-3 c =
    let l = c.loop-left in
    sym (length-take-le l.left l.words (omega (arith, l.invariant.2, l.invariant.10)))

pub join_next-requires : goal.join_next-requires
join_next-requires c =
    let l = c.loop-left in
    let room : l.left ≤ length l.words = omega (arith, l.invariant.2, l.invariant.10) in
    let few : length (take l.left l.there) ≡ l.left = length-take-le l.left l.there l.invariant.2 in
    let all : length (listed l.numbers) ≤ l.left = omega (arith, ap length l.invariant.3) in (
      l.invariant.0,
      l.invariant.3,
      l.invariant.4,
      first_words_front (listed l.numbers) l.words l.bits l.invariant.5 l.left room all,
      length-take-le l.left l.words room ∙ sym few,
    )

pub shape_of-numbers-then-not-join_next : goal.shape_of-numbers-then-not-join_next
shape_of-numbers-then-not-join_next c = c.join_next.auto.numbers ∙ c.loop-left.invariant.6

pub shape_of-sizes-then-not-join_next : goal.shape_of-sizes-then-not-join_next
shape_of-sizes-then-not-join_next c = c.join_next.auto.sizes ∙ c.loop-left.invariant.7

pub shape_of-bits-then-not-join_next : goal.shape_of-bits-then-not-join_next
shape_of-bits-then-not-join_next c = c.join_next.auto.bits ∙ c.loop-left.invariant.8

pub shape_of-there-then-not-join_next : goal.shape_of-there-then-not-join_next
shape_of-there-then-not-join_next c =
    let l = c.loop-left in
    length_front l.there c.join_next.new.there l.left c.join_next.auto.there ∙ l.invariant.9
    ∙ c.fill_range.auto.area

pub shape_of-words-then-not-join_next : goal.shape_of-words-then-not-join_next
shape_of-words-then-not-join_next c =
    let l = c.loop-left in
    length_front l.words c.join_next.new.words l.left c.join_next.auto.words ∙ l.invariant.10 ∙ l.invariant.9
    ∙ c.fill_range.auto.area ∙ sym c.requires.2

pub shape_of-heads-then-not-join_next : goal.shape_of-heads-then-not-join_next
shape_of-heads-then-not-join_next c =
    c.join_next.auto.heads ∙ c.loop-left.invariant.11 ∙ c.fill_heads.auto.heads

pub returns-then-not-join_next : goal.returns-then-not-join_next
returns-then-not-join_next c =
    let l = c.loop-left in
    let a = c.args in
    let turn = subst (λ m. Turn a.threshold m l.numbers l.sizes l.bits (take l.left l.there)
    c.join_next.new.numbers c.join_next.new.sizes c.join_next.new.bits
    c.join_next.new.there c.join_next.new.words c.join_next.new.heads)
    c.if-not-join_next.true c.join_next.ensures in
    record {
      state = turn_last a.threshold l.numbers l.sizes l.bits (take l.left l.there)
          c.join_next.new.numbers c.join_next.new.sizes c.join_next.new.bits
          c.join_next.new.there c.join_next.new.words c.join_next.new.heads
          turn l.left ∙ l.invariant.1;
      sound = turn.sound;
    }

pub loop-left-preserved : goal.loop-left-preserved
loop-left-preserved c =
    let l = c.loop-left in
    let a = c.args in
    let turn = subst (λ m. Turn a.threshold m l.numbers l.sizes l.bits (take l.left l.there)
    c.join_next.new.numbers c.join_next.new.sizes c.join_next.new.bits
    c.join_next.new.there c.join_next.new.words c.join_next.new.heads)
    c.if-not-join_next.false c.join_next.ensures in
    let back : suc (l.left - 1) ≡ l.left = omega arith in
    let there-long = length_front l.there c.join_next.new.there l.left c.join_next.auto.there in
    let words_long = length_front l.words c.join_next.new.words l.left c.join_next.auto.words in (
      turn.sound,
      turn_more a.threshold l.numbers l.sizes l.bits (take l.left l.there)
          c.join_next.new.numbers c.join_next.new.sizes c.join_next.new.bits
          c.join_next.new.there c.join_next.new.words c.join_next.new.heads
          turn (l.left - 1)
          ∙ ap (λ n. merge_steps n a.threshold (state_of l.numbers l.sizes l.bits)) back ∙ l.invariant.1,
      omega (arith, there-long),
      list_less l.there c.join_next.new.there c.join_next.new.numbers l.left l.invariant.2
          c.join_next.auto.there (turn.list refl),
      turn.heads refl,
      first_words_longer (listed c.join_next.new.numbers) c.join_next.new.words c.join_next.new.bits (turn.beside refl)
          (drop l.left l.words),
      c.join_next.auto.numbers ∙ l.invariant.6,
      c.join_next.auto.sizes ∙ l.invariant.7,
      c.join_next.auto.bits ∙ l.invariant.8,
      there-long ∙ l.invariant.9,
      words_long ∙ l.invariant.10 ∙ sym there-long,
      c.join_next.auto.heads ∙ l.invariant.11,
    )

-- ---- the end
pub shape_of-numbers : goal.shape_of-numbers
shape_of-numbers c = c.loop-left.invariant.6

pub shape_of-sizes : goal.shape_of-sizes
shape_of-sizes c = c.loop-left.invariant.7

pub shape_of-bits : goal.shape_of-bits
shape_of-bits c = c.loop-left.invariant.8

pub shape_of-there : goal.shape_of-there
shape_of-there c = c.loop-left.invariant.9 ∙ c.fill_range.auto.area

pub shape_of-words : goal.shape_of-words
shape_of-words c =
    let i = c.loop-left.invariant in i.10 ∙ i.9 ∙ c.fill_range.auto.area ∙ sym c.requires.2

pub shape_of-heads : goal.shape_of-heads
shape_of-heads c = c.loop-left.invariant.11 ∙ c.fill_heads.auto.heads

pub returns : goal.returns
unfolding merge_steps
returns c =
    let l = c.loop-left in
    let a = c.args in
    let none : 0 ≡ l.left = omega arith in
    record {
      state = ap (λ n. merge_steps n a.threshold (state_of l.numbers l.sizes l.bits)) none ∙ l.invariant.1;
      sound = l.invariant.0;
    }
