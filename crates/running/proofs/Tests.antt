-- What the tests of the input leave of a build: how many modules there are, how long the tables are, that sizes add exactly, and that orders differ.
use Prim.Native.Nat.{◌+◌, ◌^◌, ◌≤◌}
use mathlib.Core.List.{map}
use mathlib.Core.Path.{◌≡◌}
use borrow.Author.Tests.{ltb-false}
use lib.ListN.{length, get_or}
use Rattle.lists.specs.Keep.{keep}
use Rattle.lists.specs.Range.{range}
use Rattle.lists.specs.Sum.{sum}
use Rattle.lists.proofs.Below.{neither}
use Rattle.refusal.specs.Counts.{module_limit}
use Rattle.refusal.proofs.Lengths.{first_length as next}
use Rattle.whole.specs.Total.{total_limit, total_exceeds}
use Rattle.grouping.specs.Given.{Given, is_listed}
use Rattle.grouping.specs.Conditions.{count_above, bad_module_table, bad_record_table, bad_table, bad_total}
use Rattle.grouping_laws.proofs.Accepted.{Sound, tests_sound}
use Rattle.settling.specs.Modules.{Passed}

-- one length more that is right, and the tests after it
module _ (b : Given) (passed : Passed b) where
  pub few_modules : b.shared.n ≤ 4096
  unfolding count_above
  few_modules = ltb-false module_limit b.shared.n (neither _ _ passed.counts).0

  -- ---- lengths

  pub sizes_length : length b.shared.sizes ≡ b.shared.n
  unfolding bad_table bad_module_table
  sizes_length =
      let flags = next (length b.variant.flags) b.shared.n _ (neither (bad_module_table b) _ passed.tables).0 in
      (next (length b.shared.sizes) b.shared.n _ flags.1).0

  pub offsets_length : length b.shared.offsets ≡ b.shared.n + 1
  unfolding bad_table bad_record_table
  offsets_length =
      let tests = neither (bad_module_table b) _ passed.tables in
      (next (length b.shared.offsets) (b.shared.n + 1) _ (neither (bad_record_table b) _ tests.1).0).0

  -- ---- normal included modules

  pub total_exact : sum (map (λ m. get_or b.shared.sizes m 0) (keep (is_listed b) (range 0 b.shared.n))) ≤ 2 ^ 53
  unfolding bad_total total_exceeds
  total_exact = ltb-false total_limit _ passed.total

  -- ---- what the laws of the definition ask

  pub passed_sound : Sound b
  passed_sound = tests_sound b passed.tables passed.orders_apart passed.records
