-- Candidates looked at in any order: what comes before the best so far takes its place, and the best of all places is the nearest of the list.
use Prim.Native.Nat.{ℕ, ◌+◌, ◌^◌, ◌≤◌, ◌<◌}
use mathlib.Core.Bool.{Bool, true, false, cond, true≢false}
use mathlib.Core.List.Memᴰ
use mathlib.Core.List.{List, [], ◌∷◌, map, foldl, Memᴰ}
use mathlib.Core.Logic.{◌⊎◌, inl, inr, ⊎_elim}
use mathlib.Core.Option
use mathlib.Core.Option.{some}
use mathlib.Core.Path.{◌≡◌, refl, sym, ap, ap₂, ◌∙◌, subst}
use native.Mathlib.Nat.{lt_of_lt_of_le}
use native.Mathlib.Omega.{arith}
use borrow.Author.Tests.{ltb-true, ltb-false}
use lib.Dec.{ltb}
use lib.Ieee.{lt}
use lib.ListN.{length, get_or}
use Rattle.lists.specs.Least.{earlier, least}
use Rattle.lists.proofs.Least.{cond_holds}
use Rattle.lists.proofs.Orders.{then_by, key_order, number_order, then_order}
use Rattle.lists.proofs.Position.{mem_get_or, get_or_mem}
use Rattle.lists.proofs.Sort.{lower}
use Rattle.lists.proofs.Sorted.{WeakOrder}
use Rattle.whole.proofs.Compare.{lt_exact}
use Rattle.bitset.specs.Entries.{word_at, row_of, differing}
use Rattle.bitset.specs.declared.entries.BitSet.{BitSet}
use Rattle.bitset.proofs.Words.{Words}
use Rattle.joins.specs.Candidate.{comes_first, target_at, ones_apart, Exact}
use Rattle.joins.specs.declared.candidate.Candidate.{Candidate}
use Rattle.joins.proofs.Nearest.{farther}
use Rattle.seeking.specs.Search.{nearer_than, OfList, Nearer, Searchable}
use Rattle.seeking.proofs.Blocks.{size_fits}
use Rattle.seeking.proofs.Least.{least_map}
use Rattle.seeking.proofs.Looking.{beside_at_most}

-- ---- the first of a list: one of it that none of it comes before, where any two differ in the order

module _ (before : ℕ → ℕ → Bool) (apart : (i j : ℕ) → before i j ≡ false → before j i ≡ false → i ≡ j) where
  fold_is : (n x : ℕ) (l : List ℕ) → (n ≡ x) ⊎ Memᴰ n l → before x n ≡ false → ((m : ℕ) → Memᴰ m l → before m n ≡ false)
      → foldl (earlier before) x l ≡ n
  fold_is n x [] m h none = ⊎_elim (λ e. sym e) (λ t. absurd (Memᴰ.not-nil t)) m
  fold_is n x (y ∷ l) m h none =
      fold_is n (earlier before x y) l (stays (before y x) refl m)
      (cond_holds (λ z. before z n ≡ false) (before y x) y x (none y (Memᴰ.head refl)) h) (λ z t. none z (Memᴰ.tail t))
    where
      stays : (b : Bool) → before y x ≡ b → (n ≡ x) ⊎ Memᴰ n (y ∷ l) → (n ≡ cond b y x) ⊎ Memᴰ n l
      stays true e (inl q) = absurd (true≢false (sym e ∙ ap (before y) (sym q) ∙ none y (Memᴰ.head refl)))
      stays true e (inr t) = Memᴰ.cases_cons t
      stays false e (inl q) = inl q
      stays false e (inr t) = ⊎_elim (λ q. inl (apart n x (ap (λ z. before z x) q ∙ e) h)) (λ s. inr s) (Memᴰ.cases_cons t)

  least_is : (n : ℕ) (l : List ℕ) → Memᴰ n l → ((m : ℕ) → Memᴰ m l → before m n ≡ false) → some n ≡ least before l
  unfolding least
  least_is n [] m none = absurd (Memᴰ.not-nil m)
  least_is n (x ∷ l) m none =
      ap some (sym (fold_is n x l (Memᴰ.cases_cons m) (none x (Memᴰ.head refl)) (λ z t. none z (Memᴰ.tail t))))

-- ---- the order of targets

-- where neither of two comes before the other, the last test of the order says so too
last_test : (a b c d g h : Bool) → cond a true (cond b false (cond c true (cond d false g))) ≡ false
    → cond b true (cond a false (cond d true (cond c false h))) ≡ false → (g ≡ false) × (h ≡ false)
last_test true b c d g h e f = absurd (true≢false e)
last_test false true c d g h e f = absurd (true≢false f)
last_test false false true d g h e f = absurd (true≢false e)
last_test false false false true g h e f = absurd (true≢false f)
last_test false false false false g h e f = (e, f)

module _ (sizes bits : List ℕ) (wanted : BitSet) where
  before : ℕ → ℕ → Bool
  before i j = comes_first (target_at sizes bits wanted i) (target_at sizes bits wanted j)

  far : ℕ → ℕ
  far i = differing wanted (row_of bits i)

  apart : (i j : ℕ) → before i j ≡ false → before j i ≡ false → i ≡ j
  unfolding before comes_first target_at
  apart i j e f =
      let x = target_at sizes bits wanted i in
      let y = target_at sizes bits wanted j in
      let t = last_test (ltb x.distance y.distance) (ltb y.distance x.distance) (lt x.size y.size) (lt y.size x.size)
      (ltb i j) (ltb j i) e f in
      omega (arith, ltb-false i j t.0, ltb-false j i t.1)

  module _ (exact : Exact sizes) where
    by_keys : (i j : ℕ) → before i j ≡ then_by (lower far) (then_by (lower (λ n. get_or sizes n 0)) ltb) i j
    unfolding before far comes_first target_at
    by_keys i j =
        ap₂ (λ p q. cond (ltb (far i) (far j)) true (cond (ltb (far j) (far i)) false (cond p true (cond q false (ltb i j)))))
        (lt_exact (get_or sizes i 0) (get_or sizes j 0) (size_fits sizes exact i) (size_fits sizes exact j))
        (lt_exact (get_or sizes j 0) (get_or sizes i 0) (size_fits sizes exact j) (size_fits sizes exact i))

    target_order : WeakOrder before
    target_order =
        let same : ◌≡◌ {A = ℕ → ℕ → Bool} before (then_by (lower far) (then_by (lower (λ n. get_or sizes n 0)) ltb)) = λ k i j. by_keys i j k in
        subst WeakOrder (sym same) (then_order (key_order far) (then_order (key_order (λ n. get_or sizes n 0)) number_order))

-- ---- the best so far, and places that are looked at

module _ (there words sizes bits : List ℕ) (s : Searchable there words sizes bits) (wanted : BitSet) where
  pub nearer_stays : (best : Candidate) (from end : ℕ) → OfList there sizes bits wanted best
      → ((k : ℕ) → from ≤ k → k < end → nearer_than sizes bits wanted (get_or there k 0) best ≡ false) → Nearer there sizes bits wanted best best from end
  nearer_stays best from end of none = record { of_list = of; not_after = λ i h. h; none_before = none }

  -- places that the words beside them rule out
  pub nearer_passed : ((i : ℕ) → i < length bits → get_or bits i 0 < 2 ^ 64) → Words wanted → (best : Candidate) (from end : ℕ) → end ≤ length there
      → OfList there sizes bits wanted best → ((k : ℕ) → from ≤ k → k < end → best.distance < ones_apart (word_at wanted 0) (get_or words k 0))
      → Nearer there sizes bits wanted best best from end
  unfolding target_at
  nearer_passed small is best from end room of out =
      nearer_stays best from end of
      (λ k g h. farther best (target_at sizes bits wanted (get_or there k 0))
      (lt_of_lt_of_le (out k g h) (beside_at_most there words sizes bits s small wanted is k (omega arith))))

  -- one more place that is compared
  pub nearer_one : (best r : Candidate) (i : ℕ) → i < length there → OfList there sizes bits wanted best
      → r ≡ earlier comes_first best (target_at sizes bits wanted (get_or there i 0)) → Nearer there sizes bits wanted best r i (i + 1)
  unfolding before
  nearer_one best r i h of is = go (nearer_than sizes bits wanted n best) refl
    where
      n : ℕ
      n = get_or there i 0

      order : WeakOrder (before sizes bits wanted)
      order = target_order sizes bits wanted s.readable.exact

      only : (k : ℕ) → i ≤ k → k < i + 1 → i ≡ k
      only k p q = omega arith

      takes : nearer_than sizes bits wanted n best ≡ true → (m : ℕ) → nearer_than sizes bits wanted m best ≡ false → (b : Bool)
          → nearer_than sizes bits wanted m (target_at sizes bits wanted n) ≡ b → nearer_than sizes bits wanted m (target_at sizes bits wanted n) ≡ false
      takes e m q false f = f
      takes e m q true f =
          let b = get_or there of.place 0 in
          let first : before sizes bits wanted n b ≡ true = ap (comes_first (target_at sizes bits wanted n)) (sym of.is) ∙ e in
          let both = order.transitive m n b f first in
          absurd (true≢false (sym both ∙ ap (comes_first (target_at sizes bits wanted m)) (sym of.is) ∙ q))

      new : nearer_than sizes bits wanted n best ≡ true → Nearer there sizes bits wanted best (target_at sizes bits wanted n) i (i + 1)
      new e = record {
        of_list = record { place = i; inside = h; is = refl };
        not_after = λ m q. takes e m q (nearer_than sizes bits wanted m (target_at sizes bits wanted n)) refl;
        none_before = λ k p q. subst (λ j. nearer_than sizes bits wanted (get_or there j 0) (target_at sizes bits wanted n) ≡ false) (only k p q)
            (order.irreflexive n);
      }

      go : (b : Bool) → nearer_than sizes bits wanted n best ≡ b → Nearer there sizes bits wanted best r i (i + 1)
      go true e =
          subst (λ c. Nearer there sizes bits wanted best c i (i + 1)) (sym (is ∙ ap (λ b. cond b (target_at sizes bits wanted n) best) e)) (new e)
      go false e =
          subst (λ c. Nearer there sizes bits wanted best c i (i + 1)) (sym (is ∙ ap (λ b. cond b (target_at sizes bits wanted n) best) e))
          (nearer_stays best i (i + 1) of (λ k p q. subst (λ j. nearer_than sizes bits wanted (get_or there j 0) best ≡ false) (only k p q) e))

module _ (there sizes bits : List ℕ) (wanted : BitSet) where
  -- places one after the other
  pub nearer_then : (best r r' : Candidate) (from middle end : ℕ) → Nearer there sizes bits wanted best r from middle
      → Nearer there sizes bits wanted r r' middle end → Nearer there sizes bits wanted best r' from end
  nearer_then best r r' from middle end p q = record {
    of_list = q.of_list;
    not_after = λ i h. q.not_after i (p.not_after i h);
    none_before = λ k g h. go k g h (ltb k middle) refl;
  }
    where
      go : (k : ℕ) → from ≤ k → k < end → (b : Bool) → ltb k middle ≡ b → nearer_than sizes bits wanted (get_or there k 0) r' ≡ false
      go k g h true e = q.not_after (get_or there k 0) (p.none_before k g (ltb-true k middle e))
      go k g h false e = q.none_before k (ltb-false k middle e) h

  -- the best of all places is the nearest of the list
  nearest_of_all : (r : Candidate) → OfList there sizes bits wanted r
      → ((k : ℕ) → k < length there → nearer_than sizes bits wanted (get_or there k 0) r ≡ false)
      → some r ≡ least comes_first (map (target_at sizes bits wanted) there)
  unfolding before
  nearest_of_all r of none =
      let n = get_or there of.place 0 in
      ap some of.is
      ∙ ap (Option.map (target_at sizes bits wanted)) (least_is (before sizes bits wanted) (apart sizes bits wanted) n there
      (get_or_mem there of.place 0 of.inside) (λ m t. at m (mem_get_or 0 t)))
      ∙ sym (least_map (before sizes bits wanted) comes_first (target_at sizes bits wanted) (λ x y. refl) there)
    where
      at : (m : ℕ) → (k : ℕ) × (k < length there) × (get_or there k 0 ≡ m) → before sizes bits wanted m (get_or there of.place 0) ≡ false
      at m p =
          ap (λ j. comes_first (target_at sizes bits wanted j) (target_at sizes bits wanted (get_or there of.place 0))) (sym p.2)
          ∙ ap (comes_first (target_at sizes bits wanted (get_or there p.0 0))) (sym of.is)
          ∙ none p.0 p.1

  -- the places from one on, then those before it, then the rest
  pub nearest_found : (best r r' r'' : Candidate) (first middle : ℕ) → Nearer there sizes bits wanted best r first middle
      → Nearer there sizes bits wanted r r' 0 first → Nearer there sizes bits wanted r' r'' middle (length there)
      → some r'' ≡ least comes_first (map (target_at sizes bits wanted) there)
  nearest_found best r r' r'' first middle p q t = nearest_of_all r'' t.of_list (λ k h. go k h (ltb k first) (ltb k middle) refl refl)
    where
      go : (k : ℕ) → k < length there → (b c : Bool) → ltb k first ≡ b → ltb k middle ≡ c → nearer_than sizes bits wanted (get_or there k 0) r'' ≡ false
      go k h true c e f = t.not_after (get_or there k 0) (q.none_before k (omega arith) (ltb-true k first e))
      go k h false true e f =
          t.not_after (get_or there k 0) (q.not_after (get_or there k 0) (p.none_before k (ltb-false k first e) (ltb-true k middle f)))
      go k h false false e f = t.none_before k (ltb-false k middle f) h
