-- A relation between each element of a list and every later one: of what is kept of the list, across the two parts of it, and by position.
use Prim.Native.Nat.{ℕ, zero, suc, ◌<◌, suc-le-suc}
use mathlib.Core.Bool.{Bool, true, false}
use mathlib.Core.List.Memᴰ
use mathlib.Core.List.{List, [], ◌∷◌, ◌++◌, Memᴰ}
use mathlib.Core.Logic.{⊎_elim}
use mathlib.Core.Path.{sym, subst}
use native.Mathlib.Nat.{not-suc-le-zero, le_of_suc-le-suc, zero-lt-suc}
use lib.ListN.{length, get_or}
use Rattle.lists.specs.Keep.{keep, keep_head}
use Rattle.lists.proofs.Members.{keep_mem}
use Rattle.lists.proofs.Position.{mem_get_or, get_or_mem}
use Rattle.lists.proofs.Sort.{Pairs, none, more}

module _ {A : Type 0} {R : A → A → Type 0} where
  pub pairs_keep : (p : A → Bool) {l : List A} → Pairs R l → Pairs R (keep p l)
  unfolding keep keep_head
  pairs_keep p none = none
  pairs_keep p (more {x} {l} h r) = go (p x) (pairs_keep p r)
    where
      go : (b : Bool) → Pairs R (keep p l) → Pairs R (keep_head b x (keep p l))
      go true s = more (λ y m. h y (keep_mem p l y m).0) s
      go false s = s

  pub pairs_across : (s : List A) {t : List A} → Pairs R (s ++ t) → (x y : A) → Memᴰ x s → Memᴰ y t → R x y
  pairs_across [] p x y i j = absurd (Memᴰ.not-nil i)
  pairs_across (z ∷ s) (more h r) x y i j =
      ⊎_elim
      (λ e. subst (λ (v : A). R v y) (sym e) (h y (Memᴰ.append_right s j)))
      (λ k. pairs_across s r x y k j)
      (Memᴰ.cases_cons i)

  -- by position
  pub pairs_at : {l : List A} → Pairs R l → (i j : ℕ) (d : A) → i < j → j < length l → R (get_or l i d) (get_or l j d)
  pairs_at none i j d h k = absurd (not-suc-le-zero k)
  pairs_at (more f r) i zero d h k = absurd (not-suc-le-zero h)
  pairs_at (more {l} f r) zero (suc j) d h k = f (get_or l j d) (get_or_mem l j d (le_of_suc-le-suc k))
  pairs_at (more f r) (suc i) (suc j) d h k = pairs_at r i j d (le_of_suc-le-suc h) (le_of_suc-le-suc k)

  pub at_pairs : (l : List A) (d : A) → ((i j : ℕ) → i < j → j < length l → R (get_or l i d) (get_or l j d)) → Pairs R l
  at_pairs [] d h = none
  at_pairs (x ∷ l) d h =
      more
      (λ y m. let s = mem_get_or d m in subst (λ (v : A). R x v) s.2 (h zero (suc s.0) (zero-lt-suc s.0) (suc-le-suc s.1)))
      (at_pairs l d (λ i j u v. h (suc i) (suc j) (suc-le-suc u) (suc-le-suc v)))

  pub pairs_always : ((x y : A) → R x y) → (l : List A) → Pairs R l
  pairs_always h [] = none
  pairs_always h (x ∷ l) = more (λ y m. h x y) (pairs_always h l)
