-- The chunk numbers of the modules, read module by module.
use Prim.Native.Nat.{ℕ, suc, ◌<◌}
use mathlib.Core.Bool.{Bool, true, false, cond}
use mathlib.Core.List.{List, [], ◌∷◌, map, Memᴰ}
use mathlib.Core.Path.{◌≡◌, refl, sym, ap, ◌∙◌}
use native.Mathlib.Omega.{arith}
use borrow.Author.Tests.{eqb-true, eqb-false, ne_eqb}
use lib.Dec.{eqb}
use lib.ListN.{length, get_or, set, length-set}
use lib.Seq.{get_or-set_same, get_or-set_other}
use Rattle.lists.specs.Elem.{elem}
use Rattle.lists.proofs.Elem.{elem_mem, not_elem}
use Rattle.lists.proofs.Sort.{Pairs, none, more}
use Rattle.emitting.specs.Emitted.{Work, Emission, with_number, with_chunk, with_chunks}
use Rattle.emitting.specs.Areas.{number_of}
use Rattle.emitting.proofs.Chunk.{number_length}

-- the modules have the number, and all others what they had
pub number_read : (modules : List ℕ) (number : ℕ) (l : List ℕ) (m : ℕ) → m < length l
    → get_or (with_number modules number l) m 0 ≡ cond (elem m modules) number (get_or l m 0)
unfolding with_number elem
number_read [] number l m h = refl
number_read (x ∷ modules) number l m h = number_read modules number (set l x number) m (rw (length-set l x number) h) ∙ go (eqb m x) refl
  where
    same : (b : Bool) → cond b number number ≡ number
    same true = refl
    same false = refl

    go : (b : Bool) → eqb m x ≡ b → cond (elem m modules) number (get_or (set l x number) m 0) ≡ cond (elem m (x ∷ modules)) number (get_or l m 0)
    go true e =
        rw (e, sym (eqb-true m x e), get_or-set_same l m number 0 h) (same (elem m modules))
    go false e = rw (e, get_or-set_other l x m number 0 (eqb-false m x e))

-- no module is in two chunks
abbrev pub Apart : Emission → Emission → Type 0
Apart e f = (m : ℕ) → Memᴰ m e.modules → Memᴰ m f.modules → ⊥

abbrev modules_of : List Emission → List (List ℕ)
modules_of es = map (λ e. e.modules) es

number_none : (number m : ℕ) (es : List Emission) → ((e : Emission) → Memᴰ e es → elem m e.modules ≡ false) → number_of number m (modules_of es) ≡ 0
unfolding number_of
number_none number m [] h = refl
number_none number m (e ∷ es) h =
    rw (h e (Memᴰ.head refl)) (number_none (suc number) m es (λ f i. h f (Memᴰ.tail i)))

-- a module that a chunk has gets the chunk's number plus 1, and all others keep what they had
pub chunks_numbers : (bits : List ℕ) (number at : ℕ) {es : List Emission} (w : Work) (m : ℕ) → Pairs Apart es → m < length w.chunk_of
    → get_or (with_chunks bits number at es w).chunk_of m 0
    ≡ cond (eqb (number_of number m (modules_of es)) 0) (get_or w.chunk_of m 0) (number_of number m (modules_of es))
unfolding with_chunks with_chunk number_of
chunks_numbers bits number at w m none h = refl
chunks_numbers bits number at w m (more {x = e} {l = es} apart rest) h =
    chunks_numbers bits (suc number) (suc at) (with_chunk bits number at e w) m rest (rw (number_length e.modules (suc number) w.chunk_of) h)
    ∙ ap (λ old. cond (eqb (number_of (suc number) m (modules_of es)) 0) old (number_of (suc number) m (modules_of es)))
    (number_read e.modules (suc number) w.chunk_of m h)
    ∙ go (elem m e.modules) refl
  where
    go : (b : Bool) → elem m e.modules ≡ b
        → cond (eqb (number_of (suc number) m (modules_of es)) 0) (cond (elem m e.modules) (suc number) (get_or w.chunk_of m 0))
        (number_of (suc number) m (modules_of es))
        ≡ cond (eqb (number_of number m (modules_of (e ∷ es))) 0) (get_or w.chunk_of m 0) (number_of number m (modules_of (e ∷ es)))
    go true i =
        let away : (f : Emission) → Memᴰ f es → elem m f.modules ≡ false = λ f k. not_elem m f.modules (apart f k m (elem_mem m e.modules i)) in
        rw (i, number_none (suc number) m es away, ne_eqb (suc number) 0 (λ q. omega arith))
    go false i = rw i
