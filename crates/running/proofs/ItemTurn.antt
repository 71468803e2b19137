-- An item on its turn, as code meets it: the number of the next chunk and the place of its record are handed over, and the chunks so far are not.
use Prim.Native.Nat.{ℕ, ◌+◌, ◌≤◌}
use mathlib.Core.List.{List}
use mathlib.Core.Path.{◌≡◌, sym, ap, ap₂, ◌∙◌, subst}
use lib.ListN.{length}
use Rattle.grouping.specs.Given.{Given}
use Rattle.grouping.specs.Tree.{places_of, tree_of}
use Rattle.grouping.specs.Item.{Item}
use Rattle.grouping.specs.ChunkList.{Chunk}
use Rattle.grouping_laws.proofs.SetPlaces.{Placed}
use Rattle.settling.specs.Modules.{modules_at}
use Rattle.settling.specs.Settled.{settled}
use Rattle.emitting.specs.Emitted.{Work, Emission, HasEntry, with_chunks}
use Rattle.emitting.specs.declared.emit.Head.{Head}
use Rattle.items.specs.declared.convert.Limits.{Limits}
use Rattle.running.specs.Fits.{ItemFits, HeadOf, LimitsOf}
use Rattle.running.specs.State.{State, Advance, Begun}
use Rattle.left.specs.Untaken.{untaken}
use Rattle.pieces.specs.Chunks.{Converted}
use Rattle.items.specs.Turn.{Tables, emitted_from, ItemReady}
use Rattle.running.proofs.ItemReady.{item_entries, item_ready}
use Rattle.running.proofs.ItemStep.{item_step}

module _ (b : Given) (t : Tables) (bits : List ℕ) (fits : ItemFits b t bits) (start number at : ℕ) (now : Work) where
  -- ---- what the item asks

  module _ (begun : Begun b start number at now) (places list : List ℕ) (placed : Placed (length (places_of b)) places) (are : list ≡ modules_at b places) where
    pub turn_entries : HasEntry now.chunk_of list
    turn_entries = rw are (item_entries b t bits fits start begun.chunks begun.before now begun.state places placed)

    pub turn_ready : b.on_entry ≤ 69631 → ItemReady t bits (untaken now.chunk_of list) now number at
    turn_ready h =
        rw (are, begun.numbered, begun.placed) (item_ready b t bits fits start begun.chunks begun.before now begun.state places placed h)

  -- ---- what it leaves

  module _ (i : Item) (placed : Placed (length (places_of b)) i.places) (head : Head) (h : HeadOf i head)
      (limits : Limits) (l : LimitsOf i.settings limits) (list : List ℕ) (are : list ≡ modules_at b i.places) (count : ℕ) (after : Work)
      (c : Converted (emitted_from t head limits (untaken now.chunk_of list)) bits number at count now after) where
    pub turn_advances : Advance b start (λ chunks. settled (tree_of b) chunks i) number at count now after
    turn_advances = record { step = step }
      where
        step : (before : Work) (chunks : List Chunk) → State b start chunks before now → number ≡ b.on_entry + length chunks → at ≡ start + length chunks
            → State b start (settled (tree_of b) chunks i) before after × (length (settled (tree_of b) chunks i) ≡ length chunks + count)
        step before chunks state numbered from =
            let s = item_step b t bits fits start chunks before now state i placed head h limits l in
            let es : List ℕ → List Emission = λ k. emitted_from t head limits (untaken now.chunk_of k) in
            let same : after ≡ with_chunks bits (b.on_entry + length chunks) (start + length chunks) (es (modules_at b i.places)) now =
            c.areas ∙ ap₂ (λ (m a : ℕ). with_chunks bits m a (es list) now) numbered from
            ∙ ap (λ (k : List ℕ). with_chunks bits (b.on_entry + length chunks) (start + length chunks) (es k) now) are in (
              subst (λ (w : Work). State b start (settled (tree_of b) chunks i) before w) (sym same) s.0,
              s.1 ∙ ap (λ (k : ℕ). length chunks + k) (sym (c.made ∙ ap (λ (k : List ℕ). length (es k)) are)),
            )
