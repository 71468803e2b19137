-- `cut::pick_relevance_split_index` meets its contract: each return is one step of the ladder of refusals, and past it the modules are cut.
-- ---- the refusals
use Prim.Native.Nat.{ℕ}
use mathlib.Core.Bool.{false}
use mathlib.Core.Path.{◌≡◌, sym, ap, ◌∙◌}
use native.Mathlib.Omega.{arith}
use Rattle.refusal.specs.Outcome.{accepted}
use Rattle.ids.specs.Parts.{ids_of}
use Rattle.whole.specs.Total.{total_exceeds}
use Rattle.whole.proofs.Total.{accepted as accepted-total}
use Rattle.cut.specs.Cut.{cut_of}
use Rattle.cut.specs.Order.{GivenOrder}
use Rattle.cut.proofs.Refusals.{Passed, Accepted, too_many, offsets_missing, sizes_missing, ids_bad, total_too_large, minimum_nan, maximum_nan, accepts}
use Rattle.cut.proofs.pick_relevance_split_index.Goals as goal

pub returns-then-n-gt-MODULE_LIMIT : goal.returns-then-n-gt-MODULE_LIMIT
returns-then-n-gt-MODULE_LIMIT c = sym (too_many _ _ _ _ _ _ c.if-n-gt-MODULE_LIMIT.true)

pub returns-then-ids-n : goal.returns-then-ids-n
returns-then-ids-n c = sym (offsets_missing _ _ _ _ _ _ c.if-n-gt-MODULE_LIMIT.false c.if-ids-n.true)

pub returns-then-sizes-n : goal.returns-then-sizes-n
returns-then-sizes-n c = sym (sizes_missing _ _ _ _ _ _ c.if-n-gt-MODULE_LIMIT.false c.if-sizes-n.true)

pub returns-then-bad_offsets : goal.returns-then-bad_offsets
returns-then-bad_offsets c =
    let few = c.if-n-gt-MODULE_LIMIT.false in
    let bad = sym c.bad_offsets.ensures ∙ c.if-bad_offsets.true in
    sym (ids_bad _ _ _ _ _ _ few c.if-ids-n.false c.if-sizes-n.false bad)

pub returns-then-total_exceeds : goal.returns-then-total_exceeds
returns-then-total_exceeds c =
    let passed : let a = c.args in Passed a.n a.ids.now.bytes.now a.ids.now.offsets.now a.sizes.now =
    record {
      few = c.if-n-gt-MODULE_LIMIT.false;
      all_offsets = c.if-ids-n.false;
      all_sizes = c.if-sizes-n.false;
      good = sym c.bad_offsets.ensures ∙ c.if-bad_offsets.false;
    } in
    sym (total_too_large _ _ _ _ _ _ (passed) (sym c.total_exceeds.ensures ∙ c.if-total_exceeds.true))

pub returns-then-is_nan : goal.returns-then-is_nan
returns-then-is_nan c =
    let passed : let a = c.args in Passed a.n a.ids.now.bytes.now a.ids.now.offsets.now a.sizes.now =
    record {
      few = c.if-n-gt-MODULE_LIMIT.false;
      all_offsets = c.if-ids-n.false;
      all_sizes = c.if-sizes-n.false;
      good = sym c.bad_offsets.ensures ∙ c.if-bad_offsets.false;
    } in
    let small : total_exceeds c.args.sizes.now ≡ false =
    sym c.total_exceeds.ensures ∙ c.if-total_exceeds.false in
    sym (minimum_nan _ _ _ _ _ _ (passed) (small) (sym c.is_nan.ensures ∙ c.if-is_nan.true))

pub returns-then-is_nan-2 : goal.returns-then-is_nan-2
returns-then-is_nan-2 c =
    let passed : let a = c.args in Passed a.n a.ids.now.bytes.now a.ids.now.offsets.now a.sizes.now =
    record {
      few = c.if-n-gt-MODULE_LIMIT.false;
      all_offsets = c.if-ids-n.false;
      all_sizes = c.if-sizes-n.false;
      good = sym c.bad_offsets.ensures ∙ c.if-bad_offsets.false;
    } in
    let small : total_exceeds c.args.sizes.now ≡ false =
    sym c.total_exceeds.ensures ∙ c.if-total_exceeds.false in
    let nan = sym c.is_nan-2.ensures ∙ c.if-is_nan-2.true in
    sym (maximum_nan _ _ _ _ _ _ (passed) (small) nan)

pub pick_given-requires : goal.pick_given-requires
pick_given-requires c =
    let passed : let a = c.args in Passed a.n a.ids.now.bytes.now a.ids.now.offsets.now a.sizes.now =
    record {
      few = c.if-n-gt-MODULE_LIMIT.false;
      all_offsets = c.if-ids-n.false;
      all_sizes = c.if-sizes-n.false;
      good = sym c.bad_offsets.ensures ∙ c.if-bad_offsets.false;
    } in
    let small : total_exceeds c.args.sizes.now ≡ false =
    sym c.total_exceeds.ensures ∙ c.if-total_exceeds.false in
    let all-passed : let a = c.args in Accepted a.n a.ids.now.bytes.now a.ids.now.offsets.now a.sizes.now a.minimum a.maximum =
    record {
      tables = passed;
      small = small;
      minimum_given = sym c.is_nan.ensures ∙ c.if-is_nan.false;
      maximum_given = sym c.is_nan-2.ensures ∙ c.if-is_nan-2.false;
    } in
    let given : let a = c.args in GivenOrder a.ids.now.bytes.now a.ids.now.offsets.now a.sizes.now =
    let p = all-passed in
    record {
      few = omega (arith, p.tables.few, p.tables.all_sizes);
      all_offsets = omega (arith, p.tables.all_offsets, p.tables.all_sizes);
      good = p.tables.good;
      exact = accepted-total _ p.small;
    } in
    given

pub returns : goal.returns
returns c =
    let passed : let a = c.args in Passed a.n a.ids.now.bytes.now a.ids.now.offsets.now a.sizes.now =
    record {
      few = c.if-n-gt-MODULE_LIMIT.false;
      all_offsets = c.if-ids-n.false;
      all_sizes = c.if-sizes-n.false;
      good = sym c.bad_offsets.ensures ∙ c.if-bad_offsets.false;
    } in
    let small : total_exceeds c.args.sizes.now ≡ false =
    sym c.total_exceeds.ensures ∙ c.if-total_exceeds.false in
    let all-passed : let a = c.args in Accepted a.n a.ids.now.bytes.now a.ids.now.offsets.now a.sizes.now a.minimum a.maximum =
    record {
      tables = passed;
      small = small;
      minimum_given = sym c.is_nan.ensures ∙ c.if-is_nan.false;
      maximum_given = sym c.is_nan-2.ensures ∙ c.if-is_nan-2.false;
    } in
    let a = c.args in
    ap accepted
    (c.pick_given.ensures
    ∙ ap (λ (n : ℕ). cut_of (ids_of n a.ids.now.bytes.now a.ids.now.offsets.now) a.sizes.now a.minimum a.maximum) (all-passed).tables.all_sizes)
    ∙ sym (accepts _ _ _ _ _ _ (all-passed))
