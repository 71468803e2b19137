-- A number of a list that ascends is found where it is searched for.
use Prim.Native.Nat.{ℕ, ◌≤◌, ◌<◌}
use mathlib.Core.Bool.{Bool, true, false}
use mathlib.Core.List.{List, Memᴰ}
use mathlib.Core.Path.{◌≡◌, refl, ap}
use native.Mathlib.Omega.{arith}
use borrow.Author.Tests.{ltb-true, ltb-false}
use lib.Dec.{ltb}
use lib.ListN.{length, get_or}
use Rattle.std.specs.Prelude.{Result, Ok, Err, MatchResult}
use Rattle.std.specs.Ordering.{nat_cmp}
use Rattle.std.specs.List.Sorted.{IsBinarySearchResult}
use Rattle.std.proofs.lemmas.List.Sorted.{searched}
use Rattle.lists.proofs.Position.{mem_get_or}
use Rattle.seeking.specs.Listed.{Ascends, StandsAt}

rises : (l : List ℕ) → Ascends l → (i j : ℕ) → i ≤ j → j < length l → get_or l i 0 ≤ get_or l j 0
rises l up i j h inside = go (ltb i j) refl
  where
    go : (t : Bool) → ltb i j ≡ t → get_or l i 0 ≤ get_or l j 0
    go true e = omega (arith, up i j (ltb-true i j e) inside)
    go false e =
        let below : j ≤ i = ltb-false i j e in
        let same : i ≡ j = omega arith in
        omega (arith, ap (λ k. get_or l k 0) same)

pub found_place : (l : List ℕ) (number : ℕ) → Ascends l → Memᴰ number l → (r : Result ℕ ℕ) → IsBinarySearchResult (λ y. nat_cmp y number) l r
    → MatchResult r (λ i. StandsAt l number i) (λ i. ⊥)
found_place l number up m (Ok i) s =
    let t = searched l number (Ok i) s (rises l up) in record { inside = t.0; its = t.1 }
found_place l number up m (Err i) s = go (ltb p.0 i) refl
  where
    p : (k : ℕ) × (k < length l) × (get_or l k 0 ≡ number)
    p = mem_get_or 0 m

    go : (t : Bool) → ltb p.0 i ≡ t → ⊥
    go true e = omega (arith, (searched l number (Err i) s (rises l up)).1 p.0 (ltb-true p.0 i e), p.2)
    go false e = omega (arith, (searched l number (Err i) s (rises l up)).2 p.0 (ltb-false p.0 i e) p.1, p.2)
