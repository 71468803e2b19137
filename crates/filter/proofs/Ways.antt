-- The ways out of the call: what each refusal says of it, and what is left where none applies.
use Prim.Native.Nat.{ℕ, ◌≤◌, ◌<◌}
use mathlib.Core.Bool.{Bool, true, false, or-true}
use mathlib.Core.List.{[], ◌∷◌}
use mathlib.Core.Path.{◌≡◌}
use native.Mathlib.Nat.{add-zero}
use borrow.Author.Tests.{lt-ltb, le-ltb}
use Rattle.lists.specs.Sum.{sum}
use Rattle.refusal.specs.Outcome.{Outcome, refused, accepted}
use Rattle.refusal.proofs.Ladder as ladder
use Rattle.refusal.proofs.Ladder.{Row}
use Rattle.whole.specs.Total.{total_limit, total_exceeds}
use Rattle.limit.specs.Limits.{is_nan_limit}
use Rattle.filter.specs.Filter.{passes, filter_tests, filter_call}
use Rattle.filter.specs.declared.StaticFilter.{StaticFilter}

module _ (f : StaticFilter) (tags size shares : ℕ) where
  by : {o : Outcome Bool} → Row (passes f tags size shares) (filter_tests f size) o → filter_call f tags size shares ≡ o
  unfolding filter_call
  by r = ladder.row r

  pub size_refused : total_limit < size → filter_call f tags size shares ≡ refused 6
  unfolding filter_tests total_exceeds sum
  size_refused h = by (ladder.applies (rw (add-zero, lt-ltb total_limit size h)))

  module _ (h : size ≤ total_limit) where
    size_passes : total_exceeds (size ∷ []) ≡ false
    unfolding total_exceeds sum
    size_passes = rw (add-zero, le-ltb total_limit size h)

    pub min_refused : is_nan_limit f.min_module_size ≡ true → filter_call f tags size shares ≡ refused 8
    unfolding filter_tests
    min_refused e = by (ladder.passes size_passes (ladder.applies (rw e)))

    pub max_refused : is_nan_limit f.max_module_size ≡ true → filter_call f tags size shares ≡ refused 8
    unfolding filter_tests
    max_refused e = by (ladder.passes size_passes (ladder.applies (rw (e, or-true))))

    pub none_refused : is_nan_limit f.min_module_size ≡ false
        → is_nan_limit f.max_module_size ≡ false
        → filter_call f tags size shares ≡ accepted (passes f tags size shares)
    unfolding filter_tests
    none_refused p q = by (ladder.passes size_passes (ladder.passes (rw (p, q)) ladder.none_applies))
