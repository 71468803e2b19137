-- What stands at a place is taken off a list: each place from it on takes over what stands one further.
use Prim.Native.Nat.{ℕ, zero, suc, ◌+◌, ◌-◌, ◌≤◌, ◌<◌}
use mathlib.Core.Bool.{not}
use mathlib.Core.List.{List, [], ◌∷◌, ◌++◌}
use mathlib.Core.Path.{◌≡◌, refl, sym, ap, ◌∙◌}
use native.Mathlib.Nat.{not-suc-le-zero, le_of_suc-le-suc}
use native.Mathlib.Omega.{arith}
use borrow.Author.Tests.{eq-eqb, ne_eqb}
use lib.Dec.{eqb}
use lib.ListN.{length, get_or, set, take, drop, length-set, length-append, length-take, length-drop}
use lib.Seq.{length-take-le, take-suc, take_at, take_all, take-suc-set, get_or-set_other, get_or-append-add, get_or-drop, get_or-take}
use Rattle.lists.specs.Keep.{keep, keep_head}
use Rattle.lists.proofs.Sort.{more}
use Rattle.lists.proofs.Distinct.{Distinct}
use Rattle.lists.proofs.KeepTests.{keep_all}
use Rattle.lists.proofs.Position.{get_or_mem}
use Rattle.seeking.specs.Listed.{without, StandsAt}

-- all but the number n
abbrev pub but_one : ℕ → List ℕ → List ℕ
but_one n l = keep (λ m. not (eqb m n)) l

-- ---- what a list without one place has

module _ (l : List ℕ) (place : ℕ) (h : place < length l) where
  pub length_without : length (without place l) ≡ length l - 1
  unfolding without
  length_without = simp (length-append, length-take, length-drop) (omega arith)

  pub without_before : (i : ℕ) → i < place → get_or (without place l) i 0 ≡ get_or l i 0
  unfolding without
  without_before i b =
      sym (get_or-take place (take place l ++ drop (suc place) l) i 0 b)
      ∙ ap (λ t. get_or t i 0) (take_at (take place l) (drop (suc place) l) place (length-take-le place l (omega arith)))
      ∙ get_or-take place l i 0 b

  pub without_after : (i : ℕ) → place ≤ i → get_or (without place l) i 0 ≡ get_or l (suc i) 0
  unfolding without
  without_after i b =
      let front : length (take place l) ≡ place = length-take-le place l (omega arith) in
      let at : i ≡ length (take place l) + (i - place) = omega arith in
      let next : suc place + (i - place) ≡ suc i = omega arith in
      ap (get_or_in (take place l ++ drop (suc place) l)) at
      ∙ get_or-append-add (take place l) (drop (suc place) l) (i - place) 0
      ∙ get_or-drop (suc place) l (i - place) 0
      ∙ ap (get_or_in l) next
    where
      get_or_in : List ℕ → ℕ → ℕ
      get_or_in t n = get_or t n 0

-- what is left of a list of different numbers without the one at a place
but_one_lem : (l : List ℕ) → Distinct l → (i : ℕ) → i < length l → but_one (get_or l i 0) l ≡ without i l
unfolding keep keep_head without
but_one_lem [] d i h = absurd (not-suc-le-zero h)
but_one_lem (x ∷ l) (more f r) zero h =
    ap (λ b. keep_head (not b) x (but_one x l)) (eq-eqb x x refl)
    ∙ keep_all (λ m. not (eqb m x)) l (λ y m. ap not (ne_eqb y x (λ e. f y m (sym e))))
but_one_lem (x ∷ l) (more f r) (suc i) h =
    let g = le_of_suc-le-suc h in
    ap (λ b. keep_head (not b) x (but_one (get_or l i 0) l)) (ne_eqb x (get_or l i 0) (λ e. f (get_or l i 0) (get_or_mem l i 0 g) e))
    ∙ ap (λ t. x ∷ t) (but_one_lem l r i g)

pub without_number : (l : List ℕ) (number place : ℕ) → Distinct l → StandsAt l number place → without place l ≡ but_one number l
without_number l number place d at = sym (but_one_lem l d place at.inside) ∙ ap (λ n. but_one n l) at.its

-- ---- while the places take over: those from the first up to i have, the others hold what they had

pub record Closing (l : List ℕ) (place : ℕ) (list : List ℕ) (i : ℕ) : Type 0 where
  pub from : place ≤ i
  pub most : i < length l
  pub same_length : length list ≡ length l
  pub closed : take i list ≡ take i (without place l)
  pub rest : (k : ℕ) → i ≤ k → get_or list k 0 ≡ get_or l k 0

module _ (l : List ℕ) (place : ℕ) (h : place < length l) where
  pub closing_starts : Closing l place l place
  unfolding without
  closing_starts =
      let front : length (take place l) ≡ place = length-take-le place l (omega arith) in
      record {
        from = omega arith;
        most = h;
        same_length = refl;
        closed = sym (take_at (take place l) (drop (suc place) l) place front);
        rest = λ k b. refl;
      }

  module _ (list : List ℕ) (i : ℕ) (c : Closing l place list i) where
    pub closing_on : i < length l - 1 → Closing l place (set list i (get_or list (i + 1) 0)) (i + 1)
    closing_on b =
        let next : i + 1 ≡ suc i = omega arith in
        let v = get_or list (i + 1) 0 in
        let is-v : v ≡ get_or (without place l) i 0 =
        c.rest (i + 1) (omega arith) ∙ ap (λ n. get_or l n 0) next ∙ sym (without_after l place h i c.from) in
        record {
          from = omega (arith, c.from);
          most = omega arith;
          same_length = length-set list i v ∙ c.same_length;
          closed =
              ap (λ n. take n (set list i v)) next
              ∙ take-suc-set list i v (omega (arith, c.same_length))
              ∙ ap (λ t. t ++ (v ∷ [])) c.closed
              ∙ ap (λ x. take i (without place l) ++ (x ∷ [])) is-v
              ∙ sym (take-suc (without place l) i 0 (omega (arith, length_without l place h)))
              ∙ ap (λ n. take n (without place l)) (sym next);
          rest = λ k g. get_or-set_other list i k v 0 (λ e. omega arith) ∙ c.rest k (omega arith);
        }

    pub closing_ends : length l - 1 ≤ i → take (length l - 1) list ≡ without place l
    closing_ends b =
        let last : length l - 1 ≡ i = omega (arith, c.most) in
        ap (λ n. take n list) last
        ∙ c.closed
        ∙ take_all i (without place l) (omega (arith, length_without l place h))
