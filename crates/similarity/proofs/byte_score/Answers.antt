-- `similarity::byte_score` meets its contract: one bit chooses the higher and the lower byte, another the gap or 10.
use Prim.Native.Nat.{ℕ, ◌+◌, ◌-◌, ◌*◌}
use mathlib.Core.Path.{◌≡◌}
use native.Mathlib.Omega.{arith}
use mir.Syntax.{w8}
use mir.Val.{Fits}
use Rattle.similarity.specs.Similarity.{gap}
use Rattle.similarity.proofs.SignBits.{Compared, above, compared, by_bit, bit_le, chosen_fits}
use Rattle.similarity.proofs.SimilarityLaws.{byte_score_clamped}
use Rattle.similarity.proofs.byte_score.Goals as goal

-- two bytes, which of them is above the other, and whether their gap is above 10
module _ {a b : ℕ} (p : Fits w8 a) (q : Fits w8 b) where
  bytes : Compared a b
  bytes = compared a b (omega arith) (omega arith)

  gap_is : above a b * a + (1 - above a b) * b - (above a b * b + (1 - above a b) * a) ≡ gap a b
  gap_is = by_bit bytes.bit (λ h e. rw e (omega arith)) (λ h e. rw e (omega arith))

  gap-and-10 : Compared (gap a b) 10
  gap-and-10 = compared (gap a b) 10 (omega arith) (omega arith)

pub overflow_sub-above : goal.overflow_sub-above
overflow_sub-above c = (bytes c.ranges.a c.ranges.b).difference_fits

pub overflow_sub-above-2 : goal.overflow_sub-above-2
overflow_sub-above-2 c = (bytes c.ranges.a c.ranges.b).negated_fits

pub overflow_cast-above-3 : goal.overflow_cast-above-3
overflow_cast-above-3 c = (bytes c.ranges.a c.ranges.b).above_fits

pub overflow_mul-high : goal.overflow_mul-high
overflow_mul-high c = chosen_fits (bit_le (bytes c.ranges.a c.ranges.b).bit) c.ranges.a

pub overflow_sub-high : goal.overflow_sub-high
overflow_sub-high c = bit_le (bytes c.ranges.a c.ranges.b).bit

pub overflow_mul-high-2 : goal.overflow_mul-high-2
overflow_mul-high-2 c = chosen_fits (omega arith) c.ranges.b

pub overflow_add-high : goal.overflow_add-high
overflow_add-high c = by_bit (bytes c.ranges.a c.ranges.b).bit (λ h e. rw e (record { fits = omega arith })) (λ h e. rw e (record { fits = omega arith }))

pub overflow_mul-low : goal.overflow_mul-low
overflow_mul-low c = chosen_fits (bit_le (bytes c.ranges.a c.ranges.b).bit) c.ranges.b

pub overflow_sub-low : goal.overflow_sub-low
overflow_sub-low c = bit_le (bytes c.ranges.a c.ranges.b).bit

pub overflow_mul-low-2 : goal.overflow_mul-low-2
overflow_mul-low-2 c = chosen_fits (omega arith) c.ranges.a

pub overflow_add-low : goal.overflow_add-low
overflow_add-low c = by_bit (bytes c.ranges.a c.ranges.b).bit (λ h e. rw e (record { fits = omega arith })) (λ h e. rw e (record { fits = omega arith }))

pub overflow_sub-gap : goal.overflow_sub-gap
overflow_sub-gap c = by_bit (bytes c.ranges.a c.ranges.b).bit (λ h e. rw e (omega arith)) (λ h e. rw e (omega arith))

pub overflow_cast-far : goal.overflow_cast-far
overflow_cast-far c = rw (gap_is c.ranges.a c.ranges.b) (record { sfits = omega arith })

pub overflow_sub-far : goal.overflow_sub-far
overflow_sub-far c = rw (gap_is c.ranges.a c.ranges.b) (gap-and-10 c.ranges.a c.ranges.b).difference_fits

pub overflow_sub-far-2 : goal.overflow_sub-far-2
overflow_sub-far-2 c = rw (gap_is c.ranges.a c.ranges.b) (gap-and-10 c.ranges.a c.ranges.b).negated_fits

pub overflow_cast-far-2 : goal.overflow_cast-far-2
overflow_cast-far-2 c = rw (gap_is c.ranges.a c.ranges.b) (gap-and-10 c.ranges.a c.ranges.b).above_fits

pub overflow_mul-counted : goal.overflow_mul-counted
overflow_mul-counted c = rw (gap_is c.ranges.a c.ranges.b) (chosen_fits (bit_le (gap-and-10 c.ranges.a c.ranges.b).bit) (record { fits = omega arith }))

pub overflow_sub-counted : goal.overflow_sub-counted
overflow_sub-counted c = rw (gap_is c.ranges.a c.ranges.b) (bit_le (gap-and-10 c.ranges.a c.ranges.b).bit)

pub overflow_mul-counted-2 : goal.overflow_mul-counted-2
overflow_mul-counted-2 c = rw (gap_is c.ranges.a c.ranges.b) (chosen_fits (omega arith) (record { fits = omega arith }))

pub overflow_add-counted : goal.overflow_add-counted
overflow_add-counted c =
    rw (gap_is c.ranges.a c.ranges.b)
    (by_bit (gap-and-10 c.ranges.a c.ranges.b).bit (λ h e. rw e (record { fits = omega arith })) (λ h e. rw e (record { fits = omega arith })))

pub overflow_sub-result : goal.overflow_sub-result
overflow_sub-result c =
    rw (gap_is c.ranges.a c.ranges.b)
    (by_bit (gap-and-10 c.ranges.a c.ranges.b).bit (λ h e. rw e (omega arith)) (λ h e. rw e (omega arith)))

pub returns : goal.returns
returns c =
    let score = byte_score_clamped c.args.a c.args.b in
    rw (gap_is c.ranges.a c.ranges.b)
    (by_bit (gap-and-10 c.ranges.a c.ranges.b).bit (λ h e. rw e (omega (arith, score))) (λ h e. rw e (omega (arith, score))))
