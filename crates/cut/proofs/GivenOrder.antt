-- Modules in the order given: each has an id and a size that a double holds, and the cut at a place is the definition's.
use Prim.Native.Nat.{ℕ, ◌-◌, ◌≤◌, ◌<◌}
use mathlib.Core.List.{List, []}
use mathlib.Core.Path.{◌≡◌, sym, ap, ap₂, ◌∙◌}
use native.Mathlib.Omega.{arith}
use lib.Ieee.{Float}
use lib.ListN.{length, get_or, take, drop}
use Rattle.whole.specs.Double.{sum_f64}
use Rattle.ids.specs.Parts.{ids_of}
use Rattle.ids.proofs.IdParts.{ids_at}
use Rattle.similarity.specs.Similarity.{similarity}
use Rattle.cut.specs.Candidate.{candidate_at}
use Rattle.cut.specs.Order.{alike, NamedPair, GivenOrder}
use Rattle.cut.specs.declared.candidate.Candidate.{Candidate}

module _ (bytes offsets sizes : List ℕ) (i : ℕ) (from : 1 ≤ i) (inside : i < length sizes) where
  pub pair_given : GivenOrder bytes offsets sizes → NamedPair bytes offsets (i - 1) i
  pair_given t = record { good = t.good; has_before = omega (arith, t.all_offsets); has_after = omega (arith, t.all_offsets) }

  -- a place whose sides have the sizes of the two parts is the definition's
  pub place_given : (left right : Float) → left ≡ sum_f64 (take i sizes) → right ≡ sum_f64 (drop i sizes)
      → record { index = i; similarity = alike bytes offsets (i - 1) i; left = left; right = right }
      ≡ candidate_at (ids_of (length sizes) bytes offsets) sizes i
  unfolding candidate_at
  place_given left right p q =
      let place : ℕ → Float → Float → Candidate = λ s l r. record { index = i; similarity = s; left = l; right = r } in
      let last = ids_at (length sizes) bytes offsets (i - 1) (omega arith) in
      let first = ids_at (length sizes) bytes offsets i inside in
      ap (λ (s : ℕ). place s left right) (sym (ap₂ similarity last first))
      ∙ ap₂ (place (similarity (get_or (ids_of (length sizes) bytes offsets) (i - 1) []) (get_or (ids_of (length sizes) bytes offsets) i []))) p q
