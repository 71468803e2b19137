-- An item above its maximum: its modules in id order can be emitted in pieces, and the chunks are those of its pieces.
use Prim.Native.Nat.{ℕ, ◌≤◌}
use mathlib.Core.List.{List, Permᴰ}
use mathlib.Core.Path.{◌≡◌, sym, ap, ◌∙◌, subst}
use native.Mathlib.Omega.{arith}
use lib.Ieee.{Float}
use lib.ListN.{length}
use Rattle.whole.specs.Double.{sum_f64}
use Rattle.cut.specs.Order.{sizes_in}
use Rattle.oversized.specs.InOrder.{by_rank}
use Rattle.emitting.specs.Emitted.{Work}
use Rattle.emitting.specs.declared.emit.Head.{Head}
use Rattle.pieces.specs.Chunks.{chunks_of, PiecesReady}
use Rattle.items.specs.Turn.{Tables, in_pieces, ItemReady}
use Rattle.items.proofs.RankOrder.{rank_perm, perm_cuttable, perm_total, perm_room, perm_long}

module _ {t : Tables} {bits modules : List ℕ} {w : Work} {number at : ℕ} (r : ItemReady t bits modules w number at) (some : 1 ≤ length modules)
    {order : List ℕ} (e : order ≡ by_rank t.rank modules) where
  ordered : Permᴰ modules order
  ordered = subst (λ (l : List ℕ). Permᴰ modules l) (sym e) (rank_perm t.rank modules r.ranks)

  long : length order ≡ length modules
  long = perm_long ordered

  pub order_ready : {total : Float} → total ≡ sum_f64 (sizes_in t.sizes modules)
      → PiecesReady t.bytes t.offsets t.sizes order total bits w number at
  order_ready whole =
      record {
        pending =
            record {
              tables = perm_cuttable ordered r.tables;
              few = omega (arith, long, r.few);
              some = omega (arith, long);
              whole = whole ∙ perm_total ordered r.tables;
            };
        room = λ j h. perm_room ordered (r.room j (omega (arith, long)));
        numbers = omega (arith, long, r.numbers);
      }

  pub order_chunks : (head : Head) (minimum maximum : Float)
      → in_pieces t head minimum maximum modules ≡ chunks_of t.bytes t.offsets t.sizes head minimum maximum order
  unfolding in_pieces
  order_chunks head minimum maximum = ap (chunks_of t.bytes t.offsets t.sizes head minimum maximum) (sym e)
