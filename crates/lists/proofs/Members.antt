-- What stands in a list: in a range, in what is kept of a list, at a place of a table; and images that agree on what stands in a list.
use Prim.Native.Nat.{ℕ, zero, suc, ◌+◌, ◌≤◌, ◌<◌}
use mathlib.Core.Bool.{Bool, true, false}
use mathlib.Core.List.Memᴰ
use mathlib.Core.List.{List, [], ◌∷◌, map, Memᴰ}
use mathlib.Core.Logic.{⊎_elim}
use mathlib.Core.Path.{◌≡◌, refl, sym, ap, ap₂, ◌∙◌}
use native.Mathlib.Nat.{eq-or-lt_of_le}
use native.Mathlib.Omega.{arith}
use lib.ListN.{get_or}
use Rattle.lists.specs.Keep.{keep, keep_head}
use Rattle.lists.specs.Range.{range}

-- ---- a range

pub range_mem : (a k x : ℕ) → Memᴰ x (range a k) → (a ≤ x) × (x < a + k)
unfolding range
range_mem a zero x m = absurd (Memᴰ.not-nil m)
range_mem a (suc k) x m =
    ⊎_elim (λ e. (omega arith, omega arith)) (λ t. let s = range_mem (suc a) k x t in (omega arith, omega arith)) (Memᴰ.cases_cons m)

pub mem_range : (a k x : ℕ) → a ≤ x → x < a + k → Memᴰ x (range a k)
unfolding range
mem_range a zero x h l = absurd (omega arith)
mem_range a (suc k) x h l =
    ⊎_elim (λ e. Memᴰ.head (sym e)) (λ g. Memᴰ.tail (mem_range (suc a) k x g (omega arith))) (eq-or-lt_of_le h)

-- ---- what is kept

pub keep_mem : {A : Type 0} (p : A → Bool) (l : List A) (x : A) → Memᴰ x (keep p l) → Memᴰ x l × (p x ≡ true)
unfolding keep keep_head
keep_mem p [] x m = absurd (Memᴰ.not-nil m)
keep_mem {A} p (y ∷ l) x m = go (p y) refl m (keep_mem p l x)
  where
    go : (b : Bool) → p y ≡ b → Memᴰ x (keep_head b y (keep p l)) → (Memᴰ x (keep p l) → Memᴰ x l × (p x ≡ true))
        → Memᴰ x (y ∷ l) × (p x ≡ true)
    go true e m rest = ⊎_elim (λ q. (Memᴰ.head q, ap p q ∙ e)) (λ t. let s = rest t in (Memᴰ.tail s.0, s.1)) (Memᴰ.cases_cons m)
    go false e m rest = let s = rest m in (Memᴰ.tail s.0, s.1)

pub mem_keep : {A : Type 0} (p : A → Bool) (x : A) {l : List A} → Memᴰ x l → p x ≡ true → Memᴰ x (keep p l)
unfolding keep keep_head
mem_keep p x (Memᴰ.head {x = y} {xs = l} q) e = let t : p y ≡ true = ap p (sym q) ∙ e in rw t (Memᴰ.head q)
mem_keep {A} p x (Memᴰ.tail {x = y} {xs = l} m) e = go (p y) (mem_keep p x m e)
  where
    go : (b : Bool) → Memᴰ x (keep p l) → Memᴰ x (keep_head b y (keep p l))
    go true t = Memᴰ.tail t
    go false t = t

-- ---- a table

-- what holds of each element and of the default holds of what stands at a place
pub get_or_holds : {A : Type 0} (P : A → Type 0) (l : List A) (d : A) → P d → ((x : A) → Memᴰ x l → P x) → (i : ℕ) → P (get_or l i d)
get_or_holds P [] d h all i = h
get_or_holds P (x ∷ l) d h all zero = all x (Memᴰ.head refl)
get_or_holds P (x ∷ l) d h all (suc i) = get_or_holds P l d h (λ y m. all y (Memᴰ.tail m)) i

-- ---- images

pub map_same : {A B : Type 0} (f g : A → B) (l : List A) → ((x : A) → Memᴰ x l → f x ≡ g x) → map f l ≡ map g l
map_same f g [] h = refl
map_same {A} {B} f g (x ∷ l) h =
    ap₂ (λ (y : B) (r : List B). y ∷ r) (h x (Memᴰ.head refl)) (map_same f g l (λ y m. h y (Memᴰ.tail m)))
