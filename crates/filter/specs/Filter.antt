-- Filter (`passes_static_filters`).
use Rattle.std.specs.Prelude.{ℕ, Bool, true, ◌&&◌, ◌||◌, List, [], ◌∷◌, leb, eqb, Option, None, Some, is_none}
use Rattle.refusal.specs.Outcome.{Outcome, Test, test, outcome}
use Rattle.whole.specs.Double.{to_f64}
use Rattle.whole.specs.Total.{total_exceeds}
use Rattle.limit.specs.Limits.{is_nan_limit, at_least, at_most}
use Rattle.bitset.specs.Word.{contains}
use Rattle.filter.specs.declared.StaticFilter.{StaticFilter}

-- "share count at least the minimum"; none asks nothing
unfoldable pub shared_enough : Option ℕ → ℕ → Bool
shared_enough None count = true
shared_enough (Some minimum) count = leb minimum count

-- "Tags contain the mask; size within both module limits, inclusive; share count at least the minimum"
unfoldable pub passes : StaticFilter → ℕ → ℕ → ℕ → Bool
unfolding contains shared_enough
passes f tags size shares =
    contains tags f.tags
    && (at_least f.min_module_size (to_f64 size)
    && (at_most f.max_module_size (to_f64 size) && shared_enough f.min_share_count shares))

-- a filter without tags, limits and minimum, which every module passes
unfoldable pub asks_nothing : StaticFilter → Bool
asks_nothing f = ((eqb f.tags 0 && is_none f.min_module_size) && is_none f.max_module_size) && is_none f.min_share_count

abbrev pub no_filter : StaticFilter
no_filter = record { tags = 0; min_module_size = None; max_module_size = None; min_share_count = None }

-- the conditions that Filter tests, in its order
unfoldable pub filter_tests : StaticFilter → ℕ → List Test
unfolding total_exceeds
filter_tests f size = test 6 (total_exceeds (size ∷ [])) ∷ test 8 (is_nan_limit f.min_module_size || is_nan_limit f.max_module_size) ∷ []

-- the call, refusals included
unfoldable pub filter_call : StaticFilter → ℕ → ℕ → ℕ → Outcome Bool
unfolding filter_tests outcome passes
filter_call f tags size shares = outcome (filter_tests f size) (passes f tags size shares)
