-- Some chunks and then more: a module's chunk number, and the emissions that match chunks.
use Prim.Native.Nat.{ℕ, suc, ◌+◌}
use mathlib.Core.Bool.{Bool, true, false, cond}
use mathlib.Core.List.{List, [], ◌∷◌, ◌++◌, map, Memᴰ}
use mathlib.Core.Logic.{◌⊎◌, inl, inr}
use mathlib.Core.Path.{◌≡◌, refl, sym, ap, ap₂, ◌∙◌}
use native.Mathlib.Nat.{add-zero}
use native.Mathlib.Omega.{arith}
use borrow.Author.Tests.{eqb-true, ne_eqb}
use lib.Dec.{eqb}
use lib.ListN.{length}
use Rattle.lists.specs.Elem.{elem}
use Rattle.lists.proofs.Elem.{elem_mem, elem_same}
use Rattle.grouping.specs.Given.{Given}
use Rattle.grouping.specs.ChunkList.{Chunk}
use Rattle.grouping.specs.Written.{chunk_number, bit_words}
use Rattle.emitting.specs.Emitted.{Emission}
use Rattle.bitset.specs.Rows.{words_of}
use Rattle.emitting.specs.Areas.{number_of, chunk_words}
use Rattle.bitset.proofs.Rows.{four_words}
use Rattle.linking.specs.Made.{modules_of, modules_of_each, Matches, AllMatch, none, more}

-- ---- chunk numbers

pub number_append : (base m : ℕ) (l r : List (List ℕ))
    → chunk_number base m (l ++ r) ≡ cond (eqb (chunk_number base m l) 0) (chunk_number (base + length l) m r) (chunk_number base m l)
unfolding chunk_number
number_append base m [] r = rw (add-zero base)
number_append base m (x ∷ l) r = go (elem m x) refl (number_append (suc base) m l r)
  where
    go : (t : Bool) → elem m x ≡ t
        → chunk_number (suc base) m (l ++ r)
        ≡ cond (eqb (chunk_number (suc base) m l) 0) (chunk_number (suc base + length l) m r) (chunk_number (suc base) m l)
        → chunk_number base m ((x ∷ l) ++ r)
        ≡ cond (eqb (chunk_number base m (x ∷ l)) 0) (chunk_number (base + length (x ∷ l)) m r) (chunk_number base m (x ∷ l))
    go true e later = rw (e, ne_eqb (suc base) 0 (λ q. omega arith))
    go false e later = let next : base + suc (length l) ≡ suc base + length l = omega arith in rw (e, next) later

-- a module is in no chunk, or in one
pub number_or : (base m : ℕ) (l : List (List ℕ)) → (chunk_number base m l ≡ 0) ⊎ ((x : List ℕ) × Memᴰ x l × Memᴰ m x)
unfolding chunk_number
number_or base m [] = inl refl
number_or base m (x ∷ l) = go (elem m x) refl (number_or (suc base) m l)
  where
    go : (t : Bool) → elem m x ≡ t → (chunk_number (suc base) m l ≡ 0) ⊎ ((y : List ℕ) × Memᴰ y l × Memᴰ m y)
        → (chunk_number base m (x ∷ l) ≡ 0) ⊎ ((y : List ℕ) × Memᴰ y (x ∷ l) × Memᴰ m y)
    go true e later = inr (x, Memᴰ.head refl, elem_mem m x e)
    go false e (inl z) = inl (rw e z)
    go false e (inr s) = inr (s.0, Memᴰ.tail s.1, s.2)

-- where one of two numbers is 0, the other is the one that counts
pub other_number : (a b : ℕ) → (a ≡ 0) ⊎ (b ≡ 0) → cond (eqb b 0) a b ≡ cond (eqb a 0) b a
other_number a b (inl z) = rw z (go (eqb b 0) refl)
  where
    go : (t : Bool) → eqb b 0 ≡ t → cond (eqb b 0) 0 b ≡ b
    go true e = rw e (sym (eqb-true b 0 e))
    go false e = rw e
other_number a b (inr z) = rw z (go (eqb a 0) refl)
  where
    go : (t : Bool) → eqb a 0 ≡ t → a ≡ cond (eqb a 0) 0 a
    go true e = rw e (eqb-true a 0 e)
    go false e = rw e

-- ---- emissions

module _ (b : Given) where
  pub matched_numbers : {es : List Emission} {chunks : List Chunk} (base m : ℕ) → AllMatch b es chunks
      → number_of base m (map (λ e. e.modules) es) ≡ chunk_number base m (modules_of_each b chunks)
  unfolding number_of chunk_number
  matched_numbers base m none = refl
  matched_numbers base m (more {e = e} {c = c} h rest) =
      rw (elem_same m m e.modules (modules_of b c) (h.there m) (h.back m), matched_numbers (suc base) m rest)

  pub matched_map : {A : Type 0} (of : Emission → A) (value : Chunk → A) → ((e : Emission) (c : Chunk) → Matches b e c → of e ≡ value c)
      → {es : List Emission} {chunks : List Chunk} → AllMatch b es chunks → map of es ≡ map value chunks
  matched_map of value same none = refl
  matched_map of value same (more {e = e} {c = c} h rest) = rw (same e c h, matched_map of value same rest)

  pub matched_count : {es : List Emission} {chunks : List Chunk} → AllMatch b es chunks → length es ≡ length chunks
  matched_count none = refl
  matched_count (more h rest) = ap suc (matched_count rest)

  pub matched_words : {es : List Emission} {chunks : List Chunk} → AllMatch b es chunks → chunk_words b.shared.bits es ≡ bit_words chunks
  unfolding chunk_words bit_words
  matched_words none = refl
  matched_words (more {c = c} h rest) = ap₂ ◌++◌ (ap words_of h.bits ∙ four_words c.bits h.four_words) (matched_words rest)

  pub matched_of_lem : {es : List Emission} {chunks : List Chunk} → AllMatch b es chunks → (e : Emission) → Memᴰ e es
      → (c : Chunk) × Memᴰ c chunks × Matches b e c
  matched_of_lem none e x4 = elim x4 [ ]
  matched_of_lem (more {c = c} h rest) e (Memᴰ.head q) = (c, Memᴰ.head refl, rw q h)
  matched_of_lem (more h rest) e (Memᴰ.tail i) = let s = matched_of_lem rest e i in (s.0, Memᴰ.tail s.1, s.2)

  pub matched_four : {es : List Emission} {chunks : List Chunk} → AllMatch b es chunks
      → (c : Chunk) → Memᴰ c chunks → length c.bits.words ≡ 4
  matched_four none c x4 = elim x4 [ ]
  matched_four (more h rest) c (Memᴰ.head q) = rw q h.four_words
  matched_four (more h rest) c (Memᴰ.tail i) = matched_four rest c i
