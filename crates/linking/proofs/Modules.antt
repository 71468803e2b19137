-- The modules at chosen places: a module of an order without repeats is among them exactly when its place is chosen.
use Prim.Native.Nat.{ℕ, zero, suc, ◌+◌, ◌<◌}
use mathlib.Core.Bool.{Bool, true, false}
use mathlib.Core.List.Memᴰ
use mathlib.Core.List.{List, [], ◌∷◌, Memᴰ}
use mathlib.Core.Logic.{⊎_elim}
use mathlib.Core.Path.{◌≡◌, refl, sym, ap, ◌∙◌}
use native.Mathlib.Nat.{add-zero}
use native.Mathlib.Omega.{arith}
use borrow.Author.Tests.{eq-eqb, ne_eqb}
use lib.ListN.{length, get_or}
use Rattle.lists.specs.Elem.{elem}
use Rattle.lists.specs.Keep.{keep_head}
use Rattle.lists.proofs.Distinct.{Distinct}
use Rattle.lists.proofs.Elem.{elem_mem, mem_elem, not_elem}
use Rattle.lists.proofs.Position.{get_or_mem, mem_get_or}
use Rattle.lists.proofs.Sort.{none, more}
use Rattle.grouping.specs.Written.{modules_from}

head_mem : {x : ℕ} (t : Bool) (m : ℕ) (l ms : List ℕ) → (Memᴰ x l → Memᴰ x ms)
    → Memᴰ x (keep_head t m l) → Memᴰ x (m ∷ ms)
unfolding keep_head
head_mem true m l ms f i = ⊎_elim (λ e. Memᴰ.head e) (λ k. Memᴰ.tail (f k)) (Memᴰ.cases_cons i)
head_mem false m l ms f i = Memᴰ.tail (f i)

pub modules_mem : {x : ℕ} (p : ℕ) (chosen modules : List ℕ) → Memᴰ x (modules_from p chosen modules) → Memᴰ x modules
unfolding modules_from
modules_mem p chosen [] i = i
modules_mem p chosen (m ∷ modules) i =
    head_mem (elem p chosen) m (modules_from (suc p) chosen modules) modules (modules_mem (suc p) chosen modules) i

-- a head that stands in no later place, and a number other than the head
elem_head : (t : Bool) (m : ℕ) (l : List ℕ) → elem m l ≡ false → elem m (keep_head t m l) ≡ t
unfolding keep_head elem
elem_head true m l e = rw (eq-eqb m m refl)
elem_head false m l e = e

pub elem_other : (t : Bool) (x m : ℕ) (l : List ℕ) → (x ≡ m → ⊥) → elem x (keep_head t m l) ≡ elem x l
unfolding keep_head elem
elem_other true x m l h = rw (ne_eqb x m h)
elem_other false x m l h = refl

pub elem_place : (p : ℕ) (chosen : List ℕ) {modules : List ℕ} → Distinct modules → (i : ℕ) → i < length modules
    → elem (get_or modules i 0) (modules_from p chosen modules) ≡ elem (p + i) chosen
unfolding modules_from
elem_place p chosen none i h = absurd (omega arith)
elem_place p chosen (more {x = m} {l = modules} apart rest) zero h =
    elem_head (elem p chosen) m (modules_from (suc p) chosen modules)
    (not_elem m (modules_from (suc p) chosen modules) (λ k. apart m (modules_mem (suc p) chosen modules k) refl))
    ∙ ap (λ q. elem q chosen) (sym (add-zero p))
elem_place p chosen (more {x = m} {l = modules} apart rest) (suc i) h =
    let inside : i < length modules = omega arith in
    let next : suc p + i ≡ p + suc i = omega arith in
    elem_other (elem p chosen) (get_or modules i 0) m (modules_from (suc p) chosen modules) (λ e. apart (get_or modules i 0) (get_or_mem modules i 0 inside) (sym e))
    ∙ elem_place (suc p) chosen rest i inside
    ∙ ap (λ q. elem q chosen) next

-- modules in two lists of places have their place in both
pub both_places : {modules : List ℕ} → Distinct modules → (c d : List ℕ) (m : ℕ)
    → Memᴰ m (modules_from 0 c modules) → Memᴰ m (modules_from 0 d modules)
    → (p : ℕ) × Memᴰ p c × Memᴰ p d
both_places {modules} distinct c d m i j =
    let o = mem_get_or 0 (modules_mem 0 c modules i) in
    (o.0, chosen_mem o c i, chosen_mem o d j)
  where
    chosen_mem : (o : (k : ℕ) × (k < length modules) × (get_or modules k 0 ≡ m)) (e : List ℕ)
        → Memᴰ m (modules_from 0 e modules) → Memᴰ o.0 e
    chosen_mem o e u =
        let zero-less : 0 + o.0 ≡ o.0 = omega arith in
        elem_mem o.0 e
        (sym (ap (λ q. elem q e) zero-less)
        ∙ sym (elem_place 0 e distinct o.0 o.1)
        ∙ ap (λ x. elem x (modules_from 0 e modules)) o.2
        ∙ mem_elem m u)
