-- Areas of which a part is cleared: an entry for each module, and records from a place on.
use Prim.Native.Nat.{ℕ, zero, suc, ◌+◌, ◌-◌, ◌≤◌}
use mathlib.Core.List.{List, ◌∷◌, ◌++◌, map}
use mathlib.Core.Path.{◌≡◌, refl, sym, ap, ap₂, ◌∙◌}
use native.Mathlib.Omega.{arith}
use borrow.Rule.Slice.PartMut.{put_mid, mid_of, mid_len, Post-is}
use lib.ListN.{length, take, drop, replicate, length-replicate}
use lib.Seq.{length-take-le}
use Rattle.lists.specs.Range.{range}
use Rattle.grouping.specs.Written.{per_module}
use Rattle.lists.specs.Area.{placed}
use Rattle.linking.specs.Links.{Links}
use Rattle.run.specs.Finished.{unlinked}

zeros : (a n : ℕ) → map (λ m. 0) (range a n) ≡ replicate {A = ℕ} n 0
unfolding range
zeros a zero = refl
zeros a (suc n) = ap (λ (l : List ℕ). 0 ∷ l) (zeros (suc a) n)

-- the first n entries
pub cleared_modules : (n : ℕ) (l part : List ℕ) → n ≤ length l → part ≡ replicate (length (take n l)) 0 → part ++ drop n l ≡ per_module n (λ m. 0) l
cleared_modules n l part h e =
    ap (λ (x : List ℕ). x ++ drop n l) (e ∙ ap (λ (k : ℕ). replicate k 0) (length-take-le n l h) ∙ sym (zeros 0 n))

-- `count` records
pub cleared_records : (at count : ℕ) (l part : List ℕ) → at + count ≤ length l → part ≡ replicate (length (mid_of at (at + count - at) l)) 0
    → put_mid at (at + count - at) l part ≡ placed at (replicate count 0) l
cleared_records at count l part h e =
    let long : length (mid_of at (at + count - at) l) ≡ count = mid_len at (at + count) l h ∙ less at count in
    ap₂ (λ (x y : List ℕ). take at l ++ (x ++ y)) (e ∙ ap (λ (k : ℕ). replicate k 0) long)
    (Post-is at (at + count) l (omega arith) ∙ ap (λ (k : ℕ). drop (at + k) l) (sym (length-replicate count 0)))
  where
    less : (a k : ℕ) → a + k - a ≡ k
    less a k = omega arith

-- both
pub unlinked_is : (n at count : ℕ) (l : Links) (nexts firsts : List ℕ) → n ≤ length l.next_of → at + count ≤ length l.first_of
    → nexts ≡ replicate (length (take n l.next_of)) 0 → firsts ≡ replicate (length (mid_of at (at + count - at) l.first_of)) 0
    → unlinked n at count l ≡ record { next_of = nexts ++ drop n l.next_of; first_of = put_mid at (at + count - at) l.first_of firsts }
unfolding unlinked
unlinked_is n at count l nexts firsts u v e f =
    λ i. record {
      next_of = sym (cleared_modules n l.next_of nexts u e) i;
      first_of = sym (cleared_records at count l.first_of firsts v f) i;
    }
