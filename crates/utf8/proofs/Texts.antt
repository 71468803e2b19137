-- Texts: one after another they are text, and so are bytes below 128.
use Prim.Native.Nat.{ℕ, suc, ◌<◌, suc-le-suc}
use mathlib.Core.Bool.{Bool, true, false, ◌&&◌, false≢true}
use mathlib.Core.List.{List, [], ◌∷◌, ◌++◌}
use mathlib.Core.Path.{◌≡◌, refl}
use native.Mathlib.Omega.{arith}
use borrow.Author.Tests.{le-leb}
use lib.Dec.{leb-zero}
use lib.ListN.{length, get_or}
use Rattle.utf8.specs.Table.{Values, among, characters, begins, following}
use Rattle.utf8.specs.Utf8.{goes_on, utf8}

-- where a test holds, what comes after it may be put in place of another
pub after : (t : Bool) {r s : Bool} → (r ≡ true → s ≡ true) → t && r ≡ true → t && s ≡ true
after true f e = f e
after false f e = e

on_append : (due : List Values) (a b : List ℕ) → utf8 b ≡ true → goes_on due a ≡ true → goes_on due (a ++ b) ≡ true
unfolding goes_on utf8
on_append [] [] b q p = q
on_append (v ∷ due) [] b q p = absurd (false≢true p)
on_append [] (x ∷ a) b q p = after (begins characters x) (on_append (following characters x) a b q) p
on_append (v ∷ due) (x ∷ a) b q p = after (among v x) (on_append due a b q) p

-- two texts one after the other are text
pub utf8_append : (a b : List ℕ) → utf8 a ≡ true → utf8 b ≡ true → utf8 (a ++ b) ≡ true
unfolding utf8
utf8_append a b p q = on_append [] a b q p

-- bytes below 128 are text
pub utf8_ascii : (l : List ℕ) → ((i : ℕ) → i < length l → get_or l i 0 < 128) → utf8 l ≡ true
unfolding goes_on utf8 characters begins following
utf8_ascii [] h = refl
utf8_ascii (b ∷ l) h = rw (leb-zero b, le-leb b 127 (omega (arith, h 0 (omega arith)))) (utf8_ascii l (λ i p. h (suc i) (suc-le-suc p)))
