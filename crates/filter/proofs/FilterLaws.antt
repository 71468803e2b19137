-- Filter tests in ascending order, so that the first number that applies is the lowest. On sizes up to 2^53 a limit that is a whole
-- number asks of the doubles what it asks of the numbers. Every module passes a filter that asks nothing.
use Prim.Native.Nat.{ℕ, ◌^◌, ◌≤◌}
use mathlib.Core.Bool.{true, not, ◌&&◌, ◌||◌, false≢true}
use mathlib.Core.Path.{◌≡◌, refl}
use native.Mathlib.Nat.{zero-div}
use borrow.Author.Tests.{eqb-true}
use lib.Dec.{leb, eqb}
use lib.Ieee.{Float}
use Rattle.std.specs.Prelude.{Option, None, Some, is_none}
use Rattle.lists.proofs.Below.{both, all_every}
use Rattle.refusal.specs.Outcome.{ascending}
use Rattle.whole.specs.Double.{to_f64}
use Rattle.whole.proofs.Compare.{le_exact}
use Rattle.limit.specs.Limits.{at_least, at_most}
use Rattle.bitset.specs.Word.{bit, contains}
use Rattle.filter.specs.Filter.{shared_enough, passes, asks_nothing, filter_tests}
use Rattle.filter.specs.declared.StaticFilter.{StaticFilter}

pub tests_ascend : (f : StaticFilter) (size : ℕ) → ascending (filter_tests f size) ≡ true
unfolding ascending filter_tests
tests_ascend f size = refl

module _ (bound size : ℕ) (h : bound ≤ 2 ^ 53) (k : size ≤ 2 ^ 53) where
  pub at_least_exact : at_least (Some (to_f64 bound)) (to_f64 size) ≡ leb bound size
  at_least_exact = le_exact bound size h k

  pub at_most_exact : at_most (Some (to_f64 bound)) (to_f64 size) ≡ leb size bound
  at_most_exact = le_exact size bound k h

-- ---- a filter that asks nothing

no_least : (l : Option Float) (x : Float) → is_none l ≡ true → at_least l x ≡ true
no_least None x e = refl
no_least (Some y) x e = absurd (false≢true e)

no_most : (l : Option Float) (x : Float) → is_none l ≡ true → at_most l x ≡ true
no_most None x e = refl
no_most (Some y) x e = absurd (false≢true e)

no_minimum : (m : Option ℕ) (count : ℕ) → is_none m ≡ true → shared_enough m count ≡ true
unfolding shared_enough
no_minimum None count e = refl
no_minimum (Some y) count e = absurd (false≢true e)

no_tags : (tags : ℕ) → contains tags 0 ≡ true
unfolding contains bit
no_tags tags = all_every (λ k. not (bit 0 k) || bit tags k) 64 (λ k h. rw (zero-div (2 ^ k)))

-- every module passes
pub all_pass : (f : StaticFilter) → asks_nothing f ≡ true → (tags size shares : ℕ) → passes f tags size shares ≡ true
unfolding asks_nothing passes
all_pass f e tags size shares =
    let m = f.min_module_size in
    let n = f.max_module_size in
    let a = both ((eqb f.tags 0 && is_none m) && is_none n) (is_none f.min_share_count) e in
    let b = both (eqb f.tags 0 && is_none m) (is_none n) a.0 in
    let c = both (eqb f.tags 0) (is_none m) b.0 in
    rw (eqb-true f.tags 0 c.0, no_tags tags, no_least m (to_f64 size) c.1, no_most n (to_f64 size) b.1, no_minimum _ shares a.1)
