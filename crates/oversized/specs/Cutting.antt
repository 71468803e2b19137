-- The pieces that modules in id order are cut into, in tables: where each begins, its size and its mark.
use Rattle.std.specs.Prelude.{ℕ, ◌-◌, ◌≤◌, cond, List, [], ◌∷◌, map, ◌≡◌, Float, length, get_or, take}
use Rattle.std.specs.Float.Ieee.{lt}
use Rattle.whole.specs.Double.{sum_f64}
use Rattle.ids.specs.Parts.{id_at}
use Rattle.cut.specs.Cut.{Chosen, none_allowed, cut_of}
use Rattle.cut.specs.Order.{sizes_in, Cuttable}
use Rattle.settling.specs.Pieces.{Cutting, mark_in}

-- modules are cut by what the tables say of them
abbrev pub cutting_of : List ℕ → List ℕ → List ℕ → Float → Float → Cutting
cutting_of bytes offsets sizes minimum maximum =
    record { id = id_at bytes offsets; size = λ m. get_or sizes m 0; minimum = minimum; maximum = maximum }

-- the cut of ids with sizes of a total: within the maximum none is allowed
abbrev pub cut_within : List (List ℕ) → List ℕ → Float → Float → Float → Chosen
cut_within ids sizes total minimum maximum = cond (lt maximum total) (cut_of ids sizes minimum maximum) none_allowed

-- where the pieces begin, which lie from the end of a list to its start
unfoldable pub starts_from : ℕ → List (List ℕ) → List ℕ
starts_from end [] = []
starts_from end (p ∷ ps) = (end - length p) ∷ starts_from (end - length p) ps

-- the size of each piece
unfoldable pub sizes_of : List ℕ → List (List ℕ) → List Float
unfolding sum_f64
sizes_of sizes ps = map (λ p. sum_f64 (sizes_in sizes p)) ps

-- what is asked of the modules: they can be cut, and their total size is handed over
pub record Pending (bytes offsets sizes order : List ℕ) (total : Float) : Type 0 where
  pub tables : Cuttable bytes offsets sizes order
  pub few : length order ≤ 4096
  pub some : 1 ≤ length order
  pub whole : total ≡ sum_f64 (sizes_in sizes order)

-- two areas as long as the modules are many, and three with room for as many pieces
pub record Lent (order similar : List ℕ) (sums : List Float) (starts : List ℕ) (totals : List Float) (marks : List ℕ) : Type 0 where
  pub similar_length : length similar ≡ length order
  pub sums_length : length sums ≡ length order
  pub starts_room : length order ≤ length starts
  pub totals_room : length order ≤ length totals
  pub marks_room : length order ≤ length marks

-- the pieces of modules in id order, in the first `count` entries of the three areas; what lies past them is free
pub record Cutted (c : Cutting) (ps : List (List ℕ)) (order sizes : List ℕ) (count : ℕ) (starts : List ℕ) (totals : List Float) (marks : List ℕ) : Type 0 where
  pub number : count ≡ length ps
  pub begins : take count starts ≡ starts_from (length order) ps
  pub sized : take count totals ≡ sizes_of sizes ps
  pub marked : take count marks ≡ map (mark_in c) ps
