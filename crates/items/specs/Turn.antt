-- What becomes of an item on its turn, as the tables say it: the chunks that the modules that no chunk has taken are emitted as.
use Rattle.std.specs.Prelude.{ℕ, ◌+◌, ◌^◌, ◌≤◌, ◌<◌, Bool, true, false, List, [], ◌∷◌, ◌≡◌, Float, length, Option, None, Some}
use Rattle.std.specs.Bool.{then_some}
use Rattle.std.specs.Float.Ieee.{lt}
use Rattle.whole.specs.Double.{sum_f64}
use Rattle.cut.specs.Order.{sizes_in, Cuttable}
use Rattle.settling.specs.Pieces.{pieces_of}
use Rattle.oversized.specs.InOrder.{by_rank, Ranked}
use Rattle.emitting.specs.declared.emit.Head.{Head}
use Rattle.emitting.specs.Emitted.{Work, Emission, Room}
use Rattle.pieces.specs.Chunks.{chunk_of, chunks_of}
use Rattle.items.specs.declared.convert.Limits.{Limits}

-- the tables that an item is read by: ids, sizes and ranks of the modules
pub record Tables : Type 0 where
  pub bytes : List ℕ
  pub offsets : List ℕ
  pub sizes : List ℕ
  pub rank : List ℕ

-- the pieces of modules above the maximum
unfoldable pub in_pieces : Tables → Head → Float → Float → List ℕ → List Emission
unfolding pieces_of by_rank sum_f64
in_pieces t head minimum maximum modules = chunks_of t.bytes t.offsets t.sizes head minimum maximum (by_rank t.rank modules)

-- the maximum, where a size is strictly above it
abbrev pub over_limit : Option Float → Float → Option Float
over_limit None size = None
over_limit (Some maximum) size = then_some (lt maximum size) maximum

-- "One strictly above max_size is … cut by these two limits if it can be"
abbrev pub emitted_over : Option Float → Tables → Head → Float → List ℕ → List Emission
emitted_over None t head minimum modules = chunk_of t.sizes head 0 modules ∷ []
emitted_over (Some maximum) t head minimum modules = in_pieces t head minimum maximum modules

abbrev pub emitted_within : Option Float → Tables → Head → Float → List ℕ → List Emission
emitted_within maximum t head minimum modules = emitted_over (over_limit maximum (sum_f64 (sizes_in t.sizes modules))) t head minimum modules

-- "One strictly below min_size is dropped"
abbrev pub emitted_unless : Bool → Tables → Head → Limits → List ℕ → List Emission
emitted_unless true t head l modules = []
emitted_unless false t head l modules = emitted_within l.maximum t head l.minimum modules

-- the chunks that modules in no chunk yet are emitted as; "An item emptied earlier is dropped."
unfoldable pub emitted_from : Tables → Head → Limits → List ℕ → List Emission
unfolding sum_f64 lt in_pieces
emitted_from t head l [] = []
emitted_from t head l (m ∷ modules) = emitted_unless (lt (sum_f64 (sizes_in t.sizes (m ∷ modules))) l.minimum) t head l (m ∷ modules)

-- What an item asks: its modules, at most 4,096, have entries in all tables, sizes that add exactly and ranks, and there are a number and room for
-- a record for each of them.
pub record ItemReady (t : Tables) (bits modules : List ℕ) (w : Work) (number at : ℕ) : Type 0 where
  pub few : length modules ≤ 4096
  pub tables : Cuttable t.bytes t.offsets t.sizes modules
  pub ranks : Ranked t.rank modules
  pub room : (j : ℕ) → j < length modules → Room bits modules w (at + j)
  pub numbers : number + length modules < 2 ^ 32

-- some modules, and the total of their sizes
pub record Totalled (sizes modules : List ℕ) (total : Float) : Type 0 where
  pub some : 1 ≤ length modules
  pub whole : total ≡ sum_f64 (sizes_in sizes modules)
