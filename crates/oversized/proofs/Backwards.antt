-- The first n entries of an area, read from the last to the first: a stack that grows towards the front of the area.
use Prim.Native.Nat.{ℕ, ◌-◌, ◌≤◌, ◌<◌}
use mathlib.Core.List.{List, map}
use mathlib.Core.Path.{◌≡◌, sym, ap, ◌∙◌}
use native.Mathlib.Decide.{ℕ_discrete}
use native.Mathlib.Nat.{zero-add}
use native.Mathlib.Omega.{arith}
use lib.ListN.{length, get_or, set, length-map, length-set}
use lib.Seq.{get_or-set_same, get_or-set_other, ext_get_or}
use Rattle.lists.specs.Range.{range}
use Rattle.lists.proofs.Map.{get_or_map_below}
use Rattle.lists.proofs.Range.{length_range, get_or_range}

module _ {A : Type 0} (d : A) (n : ℕ) where
  unfoldable pub backwards : List A → List A
  backwards l = map (λ k. get_or l (n - 1 - k) d) (range 0 n)

  pub length_backwards : (l : List A) → length (backwards l) ≡ n
  unfolding backwards
  length_backwards l = length-map (range 0 n) (λ k. get_or l (n - 1 - k) d) ∙ length_range 0 n

  pub at_backwards : (l : List A) (k : ℕ) → k < n → get_or (backwards l) k d ≡ get_or l (n - 1 - k) d
  unfolding backwards
  at_backwards l k h =
      let within : k < length (range 0 n) = rw length_range h in
      get_or_map_below (λ k. get_or l (n - 1 - k) d) (range 0 n) k d 0 within ∙ ap (λ (m : ℕ). get_or l (n - 1 - m) d) (get_or_range 0 n k 0 h ∙ zero-add k)

  -- a store to the area is one to the stack
  module _ (l : List A) (j : ℕ) (v : A) (inside : j < n) (room : n ≤ length l) where
    at_store : (k : ℕ) → k < n → Dec (k ≡ n - 1 - j) → get_or (backwards (set l j v)) k d ≡ get_or (set (backwards l) (n - 1 - j) v) k d
    at_store k h (yes e) =
        let back : n - 1 - k ≡ j = omega arith in
        at_backwards (set l j v) k h
        ∙ ap (λ (m : ℕ). get_or (set l j v) m d) back
        ∙ get_or-set_same l j v d (omega arith)
        ∙ sym (ap (λ (m : ℕ). get_or (set (backwards l) (n - 1 - j) v) m d) e ∙ get_or-set_same (backwards l) (n - 1 - j) v d (omega (arith, length_backwards l)))
    at_store k h (no e) =
        at_backwards (set l j v) k h
        ∙ get_or-set_other l j (n - 1 - k) v d (λ z. e (omega arith))
        ∙ sym (get_or-set_other (backwards l) (n - 1 - j) k v d e ∙ at_backwards l k h)

    pub set_backwards : backwards (set l j v) ≡ set (backwards l) (n - 1 - j) v
    set_backwards =
        let long = length_backwards (set l j v) in
        ext_get_or d (backwards (set l j v)) (set (backwards l) (n - 1 - j) v)
        (long ∙ sym (length-set (backwards l) (n - 1 - j) v ∙ length_backwards l))
        (λ k h. at_store k (omega arith) (ℕ_discrete k (n - 1 - j)))
