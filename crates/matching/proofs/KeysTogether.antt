-- Numbers whose keys rise by some order stand together by key.
use Rattle.std.proofs.Common.{◌≡◌, ℕ, ◌<◌, ◌≤◌, List, length, get_or, ap, ⊎_elim, eq-or-lt_of_le, arith}
use mathlib.Core.List.{Memᴰ}
use Rattle.lists.specs.Packed.{key_of}
use Rattle.lists.proofs.Pairs.{pairs_at}
use Rattle.lists.proofs.Position.{get_or_mem}
use Rattle.lists.proofs.Runs.{Ascending}
use Rattle.matching.specs.Matched.{Together}

-- `by` gives each key its place in that order: it ascends along the list, and keys with one place are one key
pub keys_together : (by : ℕ → ℕ) (l : List ℕ) → Ascending (λ x. by (key_of x)) l
    → ((x y : ℕ) → Memᴰ x l → Memᴰ y l → by (key_of x) ≡ by (key_of y) → key_of x ≡ key_of y) → Together l
keys_together by l up apart i j k h u b e =
    let at : ℕ → ℕ = λ n. by (key_of (get_or l n 0)) in
    let rises : (m n : ℕ) → m ≤ n → n < length l → at m ≤ at n =
    λ m n p q. ⊎_elim (λ s. rw s (omega arith)) (λ t. pairs_at up m n 0 t q) (eq-or-lt_of_le p) in
    let low = rises i j h (omega arith) in
    let high = rises j k u b in
    apart (get_or l j 0) (get_or l i 0) (get_or_mem l j 0 (omega arith)) (get_or_mem l i 0 (omega arith)) (omega (arith, ap by e))
