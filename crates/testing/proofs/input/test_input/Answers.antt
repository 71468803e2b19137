-- `testing::input::test_input` meets its contract: 1 to 3 first, then 4 to 10.
use mathlib.Core.Path.{◌≡◌}
use Rattle.std.proofs.lemmas.Result.{err_from_is_err_and}
use Rattle.grouping.specs.Given.{Shared, Variant}
use Rattle.conditions.specs.Ladder.{shape_tests}
use Rattle.refusal.specs.Outcome.{first_number}
use Rattle.testing.proofs.Handing.{build, hands_itself, hands_shape, hands_order, hands_content, content_ready, order_ready}
use Rattle.testing.proofs.InputLadder.{shape_refuses, order_decides}
use Rattle.testing.proofs.input.test_input.Goals as goal

pub returns-in_err-shape_number : goal.returns-in_err-shape_number
returns-in_err-shape_number c =
    let p = err_from_is_err_and c.from_residual.result c.from_residual.ensures.1 in
    λ b h.
    rw (p.1, p.2)
    (shape_refuses _
    (c.in_err-shape_number.ensures b
    (hands_shape _ _ _ _ _ c.module_lengths-by_module.ensures c.record_lengths-by_record.ensures c.group_lengths-by_group.ensures h)))

pub test_order-requires : goal.test_order-requires
test_order-requires c =
    let a = c.args in
    let s : Shared = record {
      n = a.n;
      e = a.e;
      k = a.k;
      d = a.d;
      sizes = a.sizes.now;
      orders = a.orders.now;
      shares = a.shares.now;
      tags = a.tags.now;
      bits = a.bits.now;
      bytes = a.ids.now.bytes.now;
      offsets = a.ids.now.offsets.now;
      first = a.records.now.first.now;
      dependency = a.records.now.dependency.now;
      next = a.records.now.next.now;
      options = a.options;
    } in
    let v : Variant = record {
      flags = a.flags.now;
      g = a.g;
      groups = record {
        given = a.groups.now.given.now;
        min_size = a.groups.now.min_size.now;
        max_size = a.groups.now.max_size.now;
        min_module_size = a.groups.now.min_module_size.now;
        max_module_size = a.groups.now.max_module_size.now;
        min_share_count = a.groups.now.min_share_count.now;
        tags = a.groups.now.tags.now;
        priority = a.groups.now.priority.now;
        threshold = a.groups.now.threshold.now;
      };
      answers = a.answers.now;
    } in
    let z : 0 ≡ first_number (shape_tests (build s v)) =
    c.in_ok-shape_number.ensures (build s v)
    (hands_shape s v _ _ _ c.module_lengths-by_module.ensures c.record_lengths-by_record.ensures c.group_lengths-by_group.ensures (hands_itself s v)) in
    (order_ready s v z _ _ c.requires.0 c.requires.1, content_ready s v z)

pub returns : goal.returns
returns c =
    let a = c.args in
    let s : Shared = record {
      n = a.n;
      e = a.e;
      k = a.k;
      d = a.d;
      sizes = a.sizes.now;
      orders = a.orders.now;
      shares = a.shares.now;
      tags = a.tags.now;
      bits = a.bits.now;
      bytes = a.ids.now.bytes.now;
      offsets = a.ids.now.offsets.now;
      first = a.records.now.first.now;
      dependency = a.records.now.dependency.now;
      next = a.records.now.next.now;
      options = a.options;
    } in
    let v : Variant = record {
      flags = a.flags.now;
      g = a.g;
      groups = record {
        given = a.groups.now.given.now;
        min_size = a.groups.now.min_size.now;
        max_size = a.groups.now.max_size.now;
        min_module_size = a.groups.now.min_module_size.now;
        max_module_size = a.groups.now.max_module_size.now;
        min_share_count = a.groups.now.min_share_count.now;
        tags = a.groups.now.tags.now;
        priority = a.groups.now.priority.now;
        threshold = a.groups.now.threshold.now;
      };
      answers = a.answers.now;
    } in
    let z : 0 ≡ first_number (shape_tests (build s v)) =
    c.in_ok-shape_number.ensures (build s v)
    (hands_shape s v _ _ _ c.module_lengths-by_module.ensures c.record_lengths-by_record.ensures c.group_lengths-by_group.ensures (hands_itself s v)) in
    λ b h.
    order_decides
    (c.in_ok-shape_number.ensures b
    (hands_shape s v _ _ _ c.module_lengths-by_module.ensures c.record_lengths-by_record.ensures c.group_lengths-by_group.ensures h))
    (c.test_order.ensures b (hands_order s v z h) (hands_content s v z h))
