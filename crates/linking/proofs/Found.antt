-- A place among the chunks: in one of them, or in none. What the module there changes once it is pushed.
use Prim.Native.Nat.{ℕ, zero, suc, ◌+◌, ◌<◌}
use mathlib.Core.Bool.{Bool, true, false, true≢false}
use mathlib.Core.List.Memᴰ
use mathlib.Core.List.{List, [], ◌∷◌, map, Memᴰ}
use mathlib.Core.Logic.{◌⊎◌, inl, inr}
use mathlib.Core.Path.{◌≡◌, refl, sym, ap, ◌∙◌}
use native.Mathlib.Numerals.{add-one}
use native.Mathlib.Omega.{arith}
use borrow.Author.Tests.{eq-eqb, ne_eqb}
use lib.ListN.{length, get_or, set}
use Rattle.lists.specs.Elem.{elem}
use Rattle.lists.specs.Keep.{keep_head}
use Rattle.lists.proofs.Elem.{elem_mem, mem_elem, not_elem}
use Rattle.lists.proofs.Members.{map_same}
use Rattle.lists.proofs.Sort.{Pairs, none, more}
use Rattle.grouping.specs.Written.{modules_from, chunk_number, after, next_module, first_module}
use Rattle.linking.proofs.Modules.{modules_mem, elem_other}

-- the modules of each chunk, chunks given by their places
abbrev pub each_from : ℕ → List (List ℕ) → List ℕ → List (List ℕ)
each_from p chunks modules = map (λ c. modules_from p c modules) chunks

-- no place is in both
abbrev pub ApartPlaces : List ℕ → List ℕ → Type 0
ApartPlaces c d = (p : ℕ) → Memᴰ p c → Memᴰ p d → ⊥

-- no chunk has the place
abbrev pub InNone : ℕ → List (List ℕ) → Type 0
InNone p chunks = (c : List ℕ) → Memᴰ c chunks → elem p c ≡ false

-- chunk j has the place, and no other chunk has it
pub data Found (p : ℕ) : List (List ℕ) → ℕ → Type 0 where
  here : {c : List ℕ} {chunks : List (List ℕ)} → elem p c ≡ true → InNone p chunks → Found p (c ∷ chunks) zero
  later : {c : List ℕ} {chunks : List (List ℕ)} {j : ℕ} → elem p c ≡ false → Found p chunks j → Found p (c ∷ chunks) (suc j)

none_more : (p : ℕ) {c : List ℕ} {chunks : List (List ℕ)} → elem p c ≡ false → InNone p chunks → InNone p (c ∷ chunks)
none_more p e h d (Memᴰ.head q) = rw q e
none_more p e h d (Memᴰ.tail m) = h d m

pub find : (p : ℕ) {chunks : List (List ℕ)} → Pairs ApartPlaces chunks → InNone p chunks ⊎ ((j : ℕ) × Found p chunks j)
find p none = inl (λ c m. absurd (Memᴰ.not-nil m))
find p (more {x = c} {l = chunks} apart rest) = go (elem p c) refl (find p rest)
  where
    go : (t : Bool) → elem p c ≡ t → InNone p chunks ⊎ ((j : ℕ) × Found p chunks j)
        → InNone p (c ∷ chunks) ⊎ ((j : ℕ) × Found p (c ∷ chunks) j)
    go true e s = inr (zero, here e (λ d m. not_elem p d (apart d m p (elem_mem p c e))))
    go false e (inl h) = inl (none_more p e h)
    go false e (inr s) = inr (suc s.0, later e s.1)

-- ---- its number

pub none_number : (base p : ℕ) (chunks : List (List ℕ)) → InNone p chunks → chunk_number base p chunks ≡ 0
unfolding chunk_number
none_number base p [] h = refl
none_number base p (c ∷ chunks) h = rw (h c (Memᴰ.head refl)) (none_number (suc base) p chunks (λ d m. h d (Memᴰ.tail m)))

pub found_number : {p : ℕ} (base : ℕ) {j : ℕ} {chunks : List (List ℕ)} → Found p chunks j → chunk_number base p chunks ≡ base + j + 1
unfolding chunk_number
found_number base (here e h) = rw e (omega arith)
found_number base (later {j = j} e f) = let shift : suc base + j + 1 ≡ base + suc j + 1 = omega arith in rw e (found_number (suc base) f ∙ shift)

pub found_below : {p j : ℕ} {chunks : List (List ℕ)} → Found p chunks j → j < length chunks
found_below (here e h) = omega arith
found_below (later e f) = omega (arith, found_below f)

-- ---- the chunks once the module at the place is pushed

after_head : (m : ℕ) (l : List ℕ) → after m (m ∷ l) ≡ first_module l
unfolding after
after_head m [] = refl
after_head m (x ∷ l) = rw (eq-eqb m m refl)

after_other : (t : Bool) (x m : ℕ) (l : List ℕ) → (x ≡ m → ⊥) → after x (keep_head t m l) ≡ after x l
unfolding after keep_head
after_other true x m [] h = refl
after_other true x m (y ∷ l) h = rw (ne_eqb m x (λ e. h (sym e)))
after_other false x m l h = refl

module _ (p m : ℕ) (modules : List ℕ) where
  elsewhere : elem m modules ≡ false → (c : List ℕ) → elem m (modules_from (suc p) c modules) ≡ false
  elsewhere h c =
      not_elem m (modules_from (suc p) c modules) (λ i. true≢false (sym (mem_elem m (modules_mem (suc p) c modules i)) ∙ h))

  pub none_each : (chunks : List (List ℕ)) → InNone p chunks → each_from p chunks (m ∷ modules) ≡ each_from (suc p) chunks modules
  unfolding modules_from keep_head
  none_each chunks h =
      map_same (λ c. modules_from p c (m ∷ modules)) (λ c. modules_from (suc p) c modules) chunks
      (λ c i. ap (λ t. keep_head t m (modules_from (suc p) c modules)) (h c i))

  pub found_first : {j : ℕ} {chunks : List (List ℕ)} → Found p chunks j
      → map first_module (each_from p chunks (m ∷ modules)) ≡ set (map first_module (each_from (suc p) chunks modules)) j (m + 1)
  unfolding modules_from keep_head
  found_first (here {chunks = chunks} e h) = rw (e, none_each chunks h, add-one m)
  found_first (later {c = c} e f) = rw e (ap (λ l. first_module (modules_from (suc p) c modules) ∷ l) (found_first f))

  -- the pushed module's next is what was first in its chunk
  pub found_next : elem m modules ≡ false → {j : ℕ} {chunks : List (List ℕ)} → Found p chunks j
      → next_module m (each_from p chunks (m ∷ modules)) ≡ get_or (map first_module (each_from (suc p) chunks modules)) j 0
  unfolding next_module modules_from keep_head elem
  found_next h (here {c = c} e k) = rw (e, eq-eqb m m refl) (after_head m (modules_from (suc p) c modules))
  found_next h (later {c = c} e f) = rw (e, elsewhere h c) (found_next h f)

  -- and all others have the next that they had
  pub other_next : (x : ℕ) → (x ≡ m → ⊥) → (chunks : List (List ℕ))
      → next_module x (each_from p chunks (m ∷ modules)) ≡ next_module x (each_from (suc p) chunks modules)
  unfolding next_module modules_from
  other_next x h [] = refl
  other_next x h (c ∷ chunks) =
      let l = modules_from (suc p) c modules in
      rw (elem_other (elem p c) x m l h, after_other (elem p c) x m l h, other_next x h chunks)
