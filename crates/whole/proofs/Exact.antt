-- Sums and differences of whole numbers as doubles are exact as long as they stay at or below 2^53: two doubles that are whole numbers
-- are added over one denominator, and the rounding of a whole number changes nothing.
use Prim.Native.Nat.{ℕ, suc, ◌+◌, ◌-◌, ◌*◌, ◌^◌, ◌≤◌, ◌<◌}
use native.Mathlib.Nat.{add-zero, zero-add, add_assoc, add-mul, mul-sub, mul-one, mul_comm, mul-pos, mul-le-mul_right, zero-lt-suc}
use native.Mathlib.Omega.{arith}
use mathlib.Core.Path.{◌≡◌, sym, ap, ap₂, ◌∙◌}
use mathlib.Core.Bool.{true, false, cond}
use mathlib.Core.List.{List, [], ◌∷◌, ◌++◌, foldl, foldl-append, Perm}
use borrow.Author.Tests.{le-ltb}
use lib.IntN.{ℤ}
use lib.Dec.{ltb}
use lib.ListN.{length, get_or, take, drop}
use lib.Seq.{take-suc}
use lib.Ieee.{fin, binary64, up, down, round, of_int, add, sub, neg}
use lib.Ieee.Fits.{down_pos}
use lib.Ieee.Scale.{round_same}
use Rattle.lists.specs.Sum.{sum}
use Rattle.whole.specs.Double.{to_f64, sum_f64}
use Rattle.lists.proofs.Sum.{sum_append, sum_split, sum_perm}
use Rattle.whole.proofs.Value.{whole_double, left, right}

-- a and b, as the doubles m * 2 ^ e and n * 2 ^ d
module _ (m : ℕ) (e : ℤ) (a : ℕ) (h : m * up e ≡ a * down e) (n : ℕ) (d : ℤ) (b : ℕ) (k : n * up d ≡ b * down d) where
  add_fin : add binary64 (fin false m e) (fin false n d) ≡ to_f64 (a + b)
  unfolding add of_int
  add_fin =
      let c = down e * down d in
      ap₂ (λ x y. round binary64 false (x + y) c) (left m e a d h) (right n d b e k)
      ∙ round_same binary64 false (a * c + b * c) c (a + b) 1 (mul-pos (down_pos e) (down_pos d)) (zero-lt-suc 0) (mul-one (a * c + b * c) ∙ sym (add-mul a b c))

  sub_fin : b ≤ a → sub binary64 (fin false m e) (fin false n d) ≡ to_f64 (a - b)
  unfolding sub add neg of_int
  sub_fin l =
      let c = down e * down d in
      ap₂ (λ x y. cond (ltb x y) (round binary64 true (y - x) c) (round binary64 false (x - y) c)) (left m e a d h) (right n d b e k)
      ∙ ap (λ t. cond t (round binary64 true (b * c - a * c) c) (round binary64 false (a * c - b * c) c)) (le-ltb (a * c) (b * c) (mul-le-mul_right c l))
      ∙ round_same binary64 false (a * c - b * c) c (a - b) 1 (mul-pos (down_pos e) (down_pos d)) (zero-lt-suc 0)
      (mul-one (a * c - b * c) ∙ ap₂ ◌-◌ (mul_comm a c) (mul_comm b c) ∙ sym (mul-sub c a b) ∙ mul_comm c (a - b))

-- ---- one sum, one difference
pub add_exact : (a b : ℕ) → a + b ≤ 2 ^ 53 → add binary64 (to_f64 a) (to_f64 b) ≡ to_f64 (a + b)
add_exact a b h =
    let x = whole_double a (omega arith) in
    let y = whole_double b (omega arith) in
    ap₂ (add binary64) x.is y.is ∙ add_fin x.digits x.exponent a x.value y.digits y.exponent b y.value

pub sub_exact : (a b : ℕ) → b ≤ a → a ≤ 2 ^ 53 → sub binary64 (to_f64 a) (to_f64 b) ≡ to_f64 (a - b)
sub_exact a b l h =
    let x = whole_double a (omega arith) in
    let y = whole_double b (omega arith) in
    ap₂ (sub binary64) x.is y.is ∙ sub_fin x.digits x.exponent a x.value y.digits y.exponent b y.value l

-- ---- sums of lists
-- from any total on
from_total : (t : ℕ) (l : List ℕ) → t + sum l ≤ 2 ^ 53 → foldl (λ total size. add binary64 total (to_f64 size)) (to_f64 t) l ≡ to_f64 (t + sum l)
unfolding sum
from_total t [] h = ap to_f64 (sym (add-zero t))
from_total t (x ∷ l) h =
    ap (λ start. foldl (λ total size. add binary64 total (to_f64 size)) start l) (add_exact t x (omega arith))
    ∙ from_total (t + x) l (omega arith)
    ∙ ap to_f64 (add_assoc t x (sum l))

pub sum_exact : (l : List ℕ) → sum l ≤ 2 ^ 53 → sum_f64 l ≡ to_f64 (sum l)
unfolding sum_f64
sum_exact l h = from_total 0 l (omega arith) ∙ ap to_f64 (zero-add (sum l))

-- one more size: the definition's own step, with no bound
pub sum_f64_snoc : (l : List ℕ) (x : ℕ) → sum_f64 (l ++ (x ∷ [])) ≡ add binary64 (sum_f64 l) (to_f64 x)
unfolding sum_f64
sum_f64_snoc l x = foldl-append (λ total size. add binary64 total (to_f64 size)) (to_f64 0) l (x ∷ [])

pub sum_f64_take_suc : (l : List ℕ) (i : ℕ) → i < length l → sum_f64 (take (suc i) l) ≡ add binary64 (sum_f64 (take i l)) (to_f64 (get_or l i 0))
sum_f64_take_suc l i h = ap sum_f64 (take-suc l i 0 h) ∙ sum_f64_snoc (take i l) (get_or l i 0)

pub sum_any_order : {l l' : List ℕ} → Perm l l' → sum l ≤ 2 ^ 53 → sum_f64 l ≡ sum_f64 l'
sum_any_order {l} {l'} p h = sum_exact l h ∙ ap to_f64 (sum_perm p) ∙ sym (sum_exact l' (omega (arith, sum_perm p)))

-- two totals, added
pub sum_join : (a b : List ℕ) → sum a + sum b ≤ 2 ^ 53 → add binary64 (sum_f64 a) (sum_f64 b) ≡ sum_f64 (a ++ b)
sum_join a b h =
    ap₂ (add binary64) (sum_exact a (omega arith)) (sum_exact b (omega arith))
    ∙ add_exact (sum a) (sum b) h
    ∙ ap to_f64 (sym (sum_append a b))
    ∙ sym (sum_exact (a ++ b) (omega (arith, sum_append a b)))

-- a total less the total of a part is the total of the rest
pub total_less : (t p q : List ℕ) → sum t ≡ sum p + sum q → sum t ≤ 2 ^ 53 → sub binary64 (sum_f64 t) (sum_f64 p) ≡ sum_f64 q
total_less t p q e h =
    ap₂ (sub binary64) (sum_exact t h) (sum_exact p (omega arith))
    ∙ sub_exact (sum t) (sum p) (omega arith) h
    ∙ ap to_f64 (the_rest (sum t) (sum p) (sum q) e)
    ∙ sym (sum_exact q (omega arith))
  where
    the_rest : (a b c : ℕ) → a ≡ b + c → a - b ≡ c
    the_rest a b c r = omega arith

pub total_less_part : (l : List ℕ) (i : ℕ) → sum l ≤ 2 ^ 53 → sub binary64 (sum_f64 l) (sum_f64 (take i l)) ≡ sum_f64 (drop i l)
total_less_part l i h = total_less l (take i l) (drop i l) (sym (sum_split i l)) h
