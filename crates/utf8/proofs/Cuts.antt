-- A text cut at the start of a character is two texts, and is so cut nowhere else.
use Prim.Native.Nat.{ℕ, zero, suc}
use mathlib.Core.Bool.{Bool, true, false, not, ◌&&◌, false≢true}
use mathlib.Core.List.{List, [], ◌∷◌}
use mathlib.Core.Path.{◌≡◌, refl, sym, ap, ◌∙◌}
use lib.ListN.{take, drop}
use Rattle.lists.proofs.Below.{both}
use Rattle.utf8.specs.Table.{Values, among, characters, begins, following}
use Rattle.utf8.specs.Utf8.{goes_on, utf8}
use Rattle.utf8.specs.Start.{starts_at}
use Rattle.utf8.proofs.TableLaws.{tails, none_due, due_tail, due_rest, first_apart, following_tails}

-- where a test holds, one thing after it gives two
both_after : (t : Bool) {r s : Bool} {A : Type 0} → (r ≡ true → (s ≡ true) × A) → t && r ≡ true → (t && s ≡ true) × A
both_after true f e = f e
both_after false f e = absurd (false≢true e)

on_cut : (due : List Values) (l : List ℕ) (i : ℕ) → tails due ≡ true → goes_on due l ≡ true → starts_at l i ≡ true
    → (goes_on due (take i l) ≡ true) × (utf8 (drop i l) ≡ true)
unfolding goes_on utf8 starts_at
on_cut [] l zero t e s = (refl, e)
on_cut (v ∷ due) [] zero t e s = absurd (false≢true e)
on_cut (v ∷ due) (b ∷ l) zero t e s = absurd (false≢true (sym (ap not (due_tail v due t b (both (among v b) (goes_on due l) e).0)) ∙ s))
on_cut [] [] (suc i) t e s = (refl, refl)
on_cut (v ∷ due) [] (suc i) t e s = absurd (false≢true e)
on_cut [] (b ∷ l) (suc i) t e s =
    both_after (begins characters b) (λ p. on_cut (following characters b) l i (following_tails b) p s) e
on_cut (v ∷ due) (b ∷ l) (suc i) t e s = both_after (among v b) (λ p. on_cut due l i (due_rest v due t) p s) e

-- a text cut at the start of a character is text on both sides
pub utf8_cut : (l : List ℕ) (i : ℕ) → utf8 l ≡ true → starts_at l i ≡ true → (utf8 (take i l) ≡ true) × (utf8 (drop i l) ≡ true)
unfolding utf8
utf8_cut l i e s = on_cut [] l i none_due e s

cut_on : (due : List Values) (l : List ℕ) (i : ℕ) → goes_on due l ≡ true → goes_on due (take i l) ≡ true → starts_at l i ≡ true
unfolding goes_on starts_at
cut_on (v ∷ due) l zero e c = absurd (false≢true c)
cut_on [] [] zero e c = refl
cut_on [] (b ∷ l) zero e c = ap not (first_apart b (both (begins characters b) (goes_on (following characters b) l) e).0)
cut_on due [] (suc i) e c = refl
cut_on [] (b ∷ l) (suc i) e c =
    cut_on (following characters b) l i (both (begins characters b) (goes_on (following characters b) l) e).1
    (both (begins characters b) (goes_on (following characters b) (take i l)) c).1
cut_on (v ∷ due) (b ∷ l) (suc i) e c =
    cut_on due l i (both (among v b) (goes_on due l) e).1 (both (among v b) (goes_on due (take i l)) c).1

-- a text whose front is text has the start of a character behind that front
pub cut_starts : (l : List ℕ) (i : ℕ) → utf8 l ≡ true → utf8 (take i l) ≡ true → starts_at l i ≡ true
unfolding utf8
cut_starts l i = cut_on [] l i
