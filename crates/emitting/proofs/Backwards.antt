-- A loop from the end of a list to its start: the number of a turn.
use Rattle.std.proofs.Common.{◌≡◌, ℕ, ◌-◌, ◌<◌, List, length, get_or, reverse, ◌∙◌, arith}
use Rattle.std.proofs.lemmas.Grind.{get_or_default_zero}
use Rattle.std.proofs.lemmas.List.{get_or-reverse, length-reverse}

-- after k turns it is the one before the last k
pub back_item : (l : List ℕ) (k x : ℕ) → (k < length (reverse l)) × (x ≡ get_or (reverse l) k x) → (k < length l) × (x ≡ get_or l (length l - 1 - k) 0)
back_item l k x t =
    let h : k < length l = omega (arith, t.0, length-reverse l) in
    (h, t.1 ∙ get_or-reverse l k x h ∙ get_or_default_zero l (length l - 1 - k) x (omega arith))
