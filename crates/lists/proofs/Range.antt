-- Numbers in ascending order: how many there are, what stands at each place, one more at the end, and two parts of them.
use Prim.Native.Nat.{ℕ, zero, suc, ◌+◌, ◌<◌, suc-le-suc}
use mathlib.Core.List.{List, [], ◌∷◌, ◌++◌, map, append-nil, append_assoc}
use mathlib.Core.Path.{◌≡◌, refl, sym, ap, ap₂, ◌∙◌}
use native.Mathlib.Nat.{add-zero, add-suc, add_assoc, suc-add, not-suc-le-zero, le_of_suc-le-suc, zero-lt-suc}
use lib.ListN.{length, get_or}
use Rattle.lists.specs.Range.{range}

shift : (a i : ℕ) → suc a + i ≡ a + suc i
shift a i = suc-add a i ∙ sym (add-suc a i)

pub length_range : (a k : ℕ) → length (range a k) ≡ k
unfolding range
length_range a zero = refl
length_range a (suc k) = ap suc (length_range (suc a) k)

pub get_or_range : (a k i d : ℕ) → i < k → get_or (range a k) i d ≡ a + i
unfolding range
get_or_range a zero i d h = absurd (not-suc-le-zero h)
get_or_range a (suc k) zero d h = sym (add-zero a)
get_or_range a (suc k) (suc i) d h = get_or_range (suc a) k i d (le_of_suc-le-suc h) ∙ shift a i

pub range_snoc : (a k : ℕ) → range a (suc k) ≡ range a k ++ ((a + k) ∷ [])
unfolding range
range_snoc a zero = ap (λ (n : ℕ). n ∷ []) (sym (add-zero a))
range_snoc a (suc k) = ap (λ (l : List ℕ). a ∷ l) (range_snoc (suc a) k ∙ ap (λ (n : ℕ). range (suc a) k ++ (n ∷ [])) (shift a k))

-- in two parts
pub range_append : (a x y : ℕ) → range a (x + y) ≡ range a x ++ range (a + x) y
unfolding range
range_append a x zero = ap (range a) (add-zero x) ∙ sym (append-nil (range a x))
range_append a x (suc y) =
    ap (range a) (add-suc x y)
    ∙ range_snoc a (x + y)
    ∙ ap (λ l. l ++ ((a + (x + y)) ∷ [])) (range_append a x y)
    ∙ append_assoc (range a x) (range (a + x) y) ((a + (x + y)) ∷ [])
    ∙ ap (λ n. range a x ++ (range (a + x) y ++ (n ∷ []))) (sym (add_assoc a x y))
    ∙ ap (λ l. range a x ++ l) (sym (range_snoc (a + x) y))

-- two functions that agree on the numbers have the same images
pub map_range : {A : Type 0} (f g : ℕ → A) (a k : ℕ) → ((i : ℕ) → i < k → f (a + i) ≡ g (a + i)) → map f (range a k) ≡ map g (range a k)
unfolding range
map_range f g a zero h = refl
map_range {A} f g a (suc k) h =
    let head : f a ≡ g a = ap f (sym (add-zero a)) ∙ h zero (zero-lt-suc k) ∙ ap g (add-zero a) in
    let tail : map f (range (suc a) k) ≡ map g (range (suc a) k) =
    map_range f g (suc a) k (λ i l. ap f (shift a i) ∙ h (suc i) (suc-le-suc l) ∙ ap g (sym (shift a i))) in
    ap₂ (λ (x : A) (l : List A). x ∷ l) head tail
