-- Records that are followed by another than their neighbour.
use Rattle.std.specs.Prelude.{ℕ, suc, Bool, not, ◌&&◌, List, eqb, leb, get_or}
use Rattle.lists.specs.Below.{count_below}

-- record r, whose next is x, does not end its chain and is not followed by record r + 1
abbrev pub is_jump : ℕ → ℕ → Bool
is_jump r x = not (eqb x 0) && not (eqb x (suc r))

-- how many of the records from 1 to d
unfoldable pub jumps_of : List ℕ → ℕ → ℕ
unfolding count_below
jumps_of next d = count_below (λ k. is_jump (suc k) (get_or next (suc k) 0)) d

-- records that are laid anew for a run of g groups; no answer follows from this
unfoldable pub worth_laying : ℕ → List ℕ → ℕ → Bool
unfolding jumps_of
worth_laying g next d = leb 16 g && leb 4096 (jumps_of next d)
