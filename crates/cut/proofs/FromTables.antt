-- Cuts that are read off the tables of modules in an order of their own are the definition's.
use Prim.Native.Nat.{ℕ, ◌+◌, ◌-◌, ◌≤◌, ◌<◌}
use mathlib.Core.List.{List, map}
use mathlib.Core.Path.{◌≡◌, sym, ap, ap₂, ◌∙◌}
use native.Mathlib.Omega.{arith}
use lib.Ieee.{Float, nan, binary64, sub}
use lib.ListN.{length, get_or, take, drop}
use Rattle.lists.specs.Range.{range}
use Rattle.lists.specs.Sum.{sum}
use Rattle.lists.proofs.Range.{map_range}
use Rattle.lists.proofs.Sum.{sum_take_le}
use Rattle.whole.specs.Double.{to_f64, sum_f64}
use Rattle.whole.proofs.Exact.{sub_exact, sum_exact, total_less_part}
use Rattle.cut.specs.Candidate.{candidate_at}
use Rattle.cut.specs.Tables.{Tabled}
use Rattle.cut.specs.declared.candidate.Candidate.{Candidate}

module _ (similar : List ℕ) (sums : List Float) (total : Float) where
  -- the cut at place i: what lies before it, less what lies before the first module, and what that leaves of the total
  unfoldable pub candidate_from : ℕ → Candidate
  candidate_from i =
      record {
        index = i;
        similarity = get_or similar i 0;
        left = sub binary64 (get_or sums i nan) (get_or sums 0 nan);
        right = sub binary64 total (sub binary64 (get_or sums i nan) (get_or sums 0 nan));
      }

  module _ (m : Tabled similar sums total) where
    module _ (i : ℕ) (from : 1 ≤ i) (inside : i < length similar) where
      on_left : sub binary64 (get_or sums i nan) (get_or sums 0 nan) ≡ sum_f64 (take i m.sizes)
      unfolding sum
      on_left =
          let part = sum (take i m.sizes) in
          let small = sum_take_le i m.sizes in
          let rest : m.before + part - (m.before + 0) ≡ part = omega arith in
          ap₂ (sub binary64) (m.summed i inside) (m.summed 0 (omega arith))
          ∙ sub_exact (m.before + part) (m.before + 0) (omega arith) (omega (arith, m.exact))
          ∙ ap to_f64 rest
          ∙ sym (sum_exact (take i m.sizes) (omega (arith, m.exact)))

      on_right : sub binary64 total (sub binary64 (get_or sums i nan) (get_or sums 0 nan)) ≡ sum_f64 (drop i m.sizes)
      on_right = ap₂ (sub binary64) m.whole on_left ∙ total_less_part m.sizes i (omega (arith, m.exact))

      place_tabled : candidate_from i ≡ candidate_at m.ids m.sizes i
      unfolding candidate_from candidate_at
      place_tabled =
          let place : ℕ → Float → Float → Candidate = λ s l r. record { index = i; similarity = s; left = l; right = r } in
          let left : Float = sub binary64 (get_or sums i nan) (get_or sums 0 nan) in
          ap (λ (s : ℕ). place s left (sub binary64 total left)) (m.alike i from inside)
          ∙ ap₂ (place _) on_left on_right

    -- all places
    pub places_tabled : (k : ℕ) → k ≡ length similar - 1 → map candidate_from (range 1 k) ≡ map (candidate_at m.ids m.sizes) (range 1 k)
    places_tabled k e = map_range candidate_from (candidate_at m.ids m.sizes) 1 k (λ j h. place_tabled (1 + j) (omega arith) (omega arith))
