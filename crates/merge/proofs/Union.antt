-- The union of all rows of a table, and that it stays where one row takes over another's entries, which is left with none.
use Prim.Native.Nat.{ℕ, zero, suc, ◌+◌, ◌≤◌, ◌<◌}
use mathlib.Core.Bool.{cond}
use mathlib.Core.List.{foldr}
use mathlib.Core.Path.{◌≡◌, refl, sym, ap, ap₂, ◌∙◌, subst}
use native.Mathlib.Omega.{arith}
use borrow.Author.Tests.{eq-eqb, ne_eqb}
use lib.Dec.{eqb}
use Rattle.lists.specs.Range.{range}
use Rattle.bitset.specs.Entries.{union_of, empty}
use Rattle.bitset.specs.declared.entries.BitSet.{BitSet}
use Rattle.bitset.proofs.Words.{Words, empty_words, union_words}
use Rattle.seeking.proofs.Kept.{by_number}
use Rattle.bitset.proofs.Sets.{union_comm, union_assoc, empty_union}

-- the union of the k sets from number a on
unfoldable pub union_from : (ℕ → BitSet) → ℕ → ℕ → BitSet
union_from f a k = foldr (λ i rest. union_of (f i) rest) empty (range a k)

-- each of them is made of u64 words
abbrev pub WordsFrom : (ℕ → BitSet) → ℕ → ℕ → Type 0
WordsFrom f a k = (i : ℕ) → a ≤ i → i < a + k → Words (f i)

pub union_words_from : (f : ℕ → BitSet) (a k : ℕ) → WordsFrom f a k → Words (union_from f a k)
unfolding union_from range
union_words_from f a zero w = empty_words
union_words_from f a (suc k) w = union_words (w a (omega arith) (omega arith)) (union_words_from f (suc a) k (λ i l u. w i (omega arith) (omega arith)))

pub union_same : (f g : ℕ → BitSet) (a k : ℕ) → ((i : ℕ) → a ≤ i → i < a + k → f i ≡ g i) → union_from f a k ≡ union_from g a k
unfolding union_from range
union_same f g a zero h = refl
union_same f g a (suc k) h = ap₂ union_of (h a (omega arith) (omega arith)) (union_same f g (suc a) k (λ i l u. h i (omega arith) (omega arith)))

left_comm : {a b c : BitSet} → Words a → Words b → Words c → union_of a (union_of b c) ≡ union_of b (union_of a c)
left_comm {a} {b} {c} p q r = sym (union_assoc p q r) ∙ ap (λ x. union_of x c) (union_comm p q) ∙ union_assoc q p r

-- ---- one set apart from the others

-- all but that of number s
but : (ℕ → BitSet) → ℕ → ℕ → BitSet
but f s i = cond (eqb i s) empty (f i)

but_at : (f : ℕ → BitSet) (s : ℕ) → but f s s ≡ empty
unfolding but
but_at f s = ap (λ b. cond b empty (f s)) (eq-eqb s s refl)

but_away : (f : ℕ → BitSet) (s i : ℕ) → (i ≡ s → ⊥) → but f s i ≡ f i
unfolding but
but_away f s i n = ap (λ b. cond b empty (f i)) (ne_eqb i s n)

but_words : (f : ℕ → BitSet) (s a k : ℕ) → WordsFrom f a k → WordsFrom (but f s) a k
but_words f s a k w i l u =
    by_number i s
    (λ e. subst Words (sym (ap (but f s) e ∙ but_at f s)) empty_words)
    (λ n. subst Words (sym (but_away f s i n)) (w i l u))

pull : (f : ℕ → BitSet) (s a k : ℕ) → a ≤ s → s < a + k → WordsFrom f a k → union_from f a k ≡ union_of (f s) (union_from (but f s) a k)
unfolding union_from range
pull f s a zero l u w = absurd (omega arith)
pull f s a (suc k) l u w = by_number a s here (later (pull f s (suc a) k))
  where
    rest : WordsFrom f (suc a) k
    rest i l' u' = w i (omega arith) (omega arith)

    here : a ≡ s → union_of (f a) (union_from f (suc a) k) ≡ union_of (f s) (union_of (but f s a) (union_from (but f s) (suc a) k))
    here e =
        ap₂ union_of (ap f e)
        (union_same f (but f s) (suc a) k (λ i l' u'. sym (but_away f s i (λ q. omega arith)))
        ∙ sym (ap (λ x. union_of x (union_from (but f s) (suc a) k)) (ap (but f s) e ∙ but_at f s)
        ∙ empty_union (union_words_from (but f s) (suc a) k (but_words f s (suc a) k rest))))

    later : (suc a ≤ s → s < suc a + k → WordsFrom f (suc a) k → union_from f (suc a) k ≡ union_of (f s) (union_from (but f s) (suc a) k))
        → (a ≡ s → ⊥) → union_of (f a) (union_from f (suc a) k) ≡ union_of (f s) (union_of (but f s a) (union_from (but f s) (suc a) k))
    later again n =
        ap (union_of (f a)) (again (omega arith) (omega arith) rest)
        ∙ left_comm (w a (omega arith) (omega arith)) (w s l u) (union_words_from (but f s) (suc a) k (but_words f s (suc a) k rest))
        ∙ ap (λ x. union_of (f s) (union_of x (union_from (but f s) (suc a) k))) (sym (but_away f s a n))

-- ---- t takes over the entries of s

module _ (f g : ℕ → BitSet) (k s t : ℕ) (s_in : s < k) (t_in : t < k) (apart : t ≡ s → ⊥) (w : WordsFrom f 0 k)
    (at-s : g s ≡ empty) (at-t : g t ≡ union_of (f t) (f s)) (away : (i : ℕ) → i < k → (i ≡ s → ⊥) → (i ≡ t → ⊥) → g i ≡ f i) where
  words_f : (i : ℕ) → i < k → Words (f i)
  words_f i h = w i (omega arith) (omega arith)

  pub words_moved : WordsFrom g 0 k
  words_moved i l u =
      by_number i s
      (λ e. subst Words (sym (ap g e ∙ at-s)) empty_words)
      (λ n. by_number i t
      (λ e. subst Words (sym (ap g e ∙ at-t)) (union_words (words_f t t_in) (words_f s s_in)))
      (λ m. subst Words (sym (away i (omega arith) n m)) (words_f i (omega arith))))

  -- what is neither of s nor of t
  others_same : (i : ℕ) → i < k → but g t i ≡ but (but f s) t i
  others_same i h =
      by_number i t
      (λ e. ap (but g t) e ∙ but_at g t ∙ sym (ap (but (but f s) t) e ∙ but_at (but f s) t))
      (λ m. but_away g t i m
      ∙ by_number i s
      (λ e. ap g e ∙ at-s ∙ sym (ap (but f s) e ∙ but_at f s))
      (λ n. away i h n m ∙ sym (but_away f s i n))
      ∙ sym (but_away (but f s) t i m))

  pub union_moved : union_from g 0 k ≡ union_from f 0 k
  union_moved =
      let w' = but_words f s 0 k w in
      let r = union_words_from (but (but f s) t) 0 k (but_words (but f s) t 0 k w') in
      pull g t 0 k (omega arith) (omega arith) words_moved
      ∙ ap₂ union_of at-t (union_same (but g t) (but (but f s) t) 0 k (λ i l u. others_same i (omega arith)))
      ∙ union_assoc (words_f t t_in) (words_f s s_in) r
      ∙ left_comm (words_f t t_in) (words_f s s_in) r
      ∙ sym (pull f s 0 k (omega arith) (omega arith) w
      ∙ ap (union_of (f s)) (pull (but f s) t 0 k (omega arith) (omega arith) w' ∙ ap (λ x. union_of x (union_from (but (but f s) t) 0 k)) (but_away f s t apart)))
