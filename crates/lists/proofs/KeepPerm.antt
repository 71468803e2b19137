-- What is kept of a list in another order, and the two parts that a test makes of a list, which are together the list in another order.
use mathlib.Core.Bool.{Bool, true, false, not, true≢false, false≢true}
use mathlib.Core.List.{List, [], ◌∷◌, ◌++◌}
use mathlib.Core.List.Permᴰ
use mathlib.Core.List.{Permᴰ}
use mathlib.Core.Path.{◌≡◌, refl, ap}
use Rattle.lists.specs.Keep.{keep, keep_head}

module _ {A : Type 0} where
  head_perm : (t u : Bool) {x y : A} {l m : List A} → t ≡ u → x ≡ y → Permᴰ l m → Permᴰ (keep_head t x l) (keep_head u y m)
  unfolding keep_head
  head_perm true true e q d = Permᴰ.cons q d
  head_perm false false e q d = d
  head_perm true false e q d = absurd (true≢false e)
  head_perm false true e q d = absurd (false≢true e)

  heads_swap : (t u : Bool) (x y : A) (l : List A) → Permᴰ (keep_head t x (keep_head u y l)) (keep_head u y (keep_head t x l))
  unfolding keep_head
  heads_swap true true x y l = Permᴰ.swap refl refl
  heads_swap true false x y l = Permᴰ.refl (x ∷ l)
  heads_swap false true x y l = Permᴰ.refl (y ∷ l)
  heads_swap false false x y l = Permᴰ.refl l

  pub keep_perm : (p : A → Bool) {l m : List A} → Permᴰ l m → Permᴰ (keep p l) (keep p m)
  unfolding keep
  keep_perm p Permᴰ.nil = Permᴰ.nil
  keep_perm p (Permᴰ.cons {a} {b} e d) = head_perm (p a) (p b) (ap p e) e (keep_perm p d)
  keep_perm p (Permᴰ.swap {a} {b} {a'} {b'} {l} e q) =
      Permᴰ.trans
      (heads_swap (p a) (p b) a b (keep p l))
      (head_perm (p b) (p a') (ap p q) q (head_perm (p a) (p b') (ap p e) e (Permᴰ.refl (keep p l))))
  keep_perm p (Permᴰ.trans d e) = Permᴰ.trans (keep_perm p d) (keep_perm p e)

  pub keep_both : (p : A → Bool) (l : List A) → Permᴰ l (keep p l ++ keep (λ x. not (p x)) l)
  unfolding keep keep_head
  keep_both p [] = Permᴰ.nil
  keep_both p (x ∷ l) = go (p x) (keep_both p l)
    where
      go : (b : Bool) → Permᴰ l (keep p l ++ keep (λ x. not (p x)) l)
          → Permᴰ (x ∷ l) (keep_head b x (keep p l) ++ keep_head (not b) x (keep (λ x. not (p x)) l))
      go true d = Permᴰ.cons refl d
      go false d = Permᴰ.trans (Permᴰ.cons refl d) (Permᴰ.symm (Permᴰ.middle x (keep p l) (keep (λ x. not (p x)) l)))
