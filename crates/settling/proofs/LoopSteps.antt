-- One more turn of a loop over the items or the names: the fold of one element more.
use Prim.Native.Nat.{ℕ, suc, ◌<◌}
use mathlib.Core.List.{List, [], ◌∷◌, ◌++◌, foldl}
use mathlib.Core.Path.{◌≡◌, ap, ◌∙◌}
use lib.ListN.{length, take, get_or}
use lib.Seq.{take-suc}
use Rattle.lists.proofs.Fold.{foldl_append}
use Rattle.options.specs.declared.Settings.{Settings}
use Rattle.grouping.specs.Tree.{Tree}
use Rattle.grouping.specs.Item.{Item}
use Rattle.grouping.specs.ChunkList.{Chunk}
use Rattle.settling.specs.Settled.{settled}
use Rattle.settling.specs.Traversal.{after_name}

module _ {A B : Type 0} (f : B → A → B) (b : B) where
  pub foldl_more : (l : List A) (x : A) → foldl f b (l ++ (x ∷ [])) ≡ f (foldl f b l) x
  foldl_more l x = foldl_append f b l (x ∷ [])

  -- the elements before position i, and the one that stands there
  pub foldl_at : (l : List A) (i : ℕ) (d : A) → i < length l → foldl f b (take (suc i) l) ≡ f (foldl f b (take i l)) (get_or l i d)
  foldl_at l i d h = ap (foldl f b) (take-suc l i d h) ∙ foldl_more (take i l) (get_or l i d)

pub item_more : (tree : Tree) (chunks : List Chunk) (l : List Item) (i : Item)
    → foldl (settled tree) chunks (l ++ (i ∷ [])) ≡ settled tree (foldl (settled tree) chunks l) i
item_more tree chunks = foldl_more (settled tree) chunks

pub name_more : (r : Settings) (g : ℕ) (tree : Tree) (chunks : List Chunk) (l : List ℕ) (name : ℕ)
    → foldl (after_name r g tree) chunks (l ++ (name ∷ [])) ≡ after_name r g tree (foldl (after_name r g tree) chunks l) name
name_more r g tree chunks = foldl_more (after_name r g tree) chunks
