-- The size of the places of a side, in execution order, is that of the side in id order: up to 2^53 sizes add in any order.
use Prim.Native.Nat.{ℕ, ◌^◌, ◌≤◌}
use mathlib.Core.Bool.{Bool}
use mathlib.Core.List.Permᴰ
use mathlib.Core.List.{List}
use mathlib.Core.List.{Permᴰ}
use mathlib.Core.Path.{◌≡◌, sym}
use native.Mathlib.Omega.{arith}
use Rattle.lists.specs.Elem.{elem}
use Rattle.lists.specs.Keep.{keep}
use Rattle.lists.specs.Sum.{sum}
use Rattle.lists.proofs.Sum.{keep_sum}
use Rattle.whole.proofs.Exact.{sum_any_order}
use Rattle.options.specs.declared.Settings.{Settings}
use Rattle.grouping.specs.Tree.{Tree, member_at}
use Rattle.grouping.specs.Sizes.{size_in, sizes_at, item_size}
use Rattle.grouping.specs.Fate.{in_id_order, among}
use Rattle.grouping_laws.proofs.Pieces.{Ascending}
use Rattle.settling.proofs.Parts.{PartOf}
use Rattle.settling.proofs.SideOrder.{ordered_perm, side_perm}

-- the sizes at the places add to at most 2^53
abbrev pub Exact : Settings → Tree → List ℕ → Type 0
Exact r tree places = sum (sizes_at r tree places) ≤ 2 ^ 53

pub keep_exact : (r : Settings) (tree : Tree) (p : ℕ → Bool) (places : List ℕ) → Exact r tree places → Exact r tree (keep p places)
keep_exact r tree p places h = omega (arith, keep_sum (λ q. size_in r (member_at tree q)) p places)

size_any_order : (r : Settings) (tree : Tree) {l m : List ℕ} → Permᴰ l m → Exact r tree l → item_size r tree l ≡ item_size r tree m
unfolding item_size
size_any_order r tree d h = sum_any_order ∣ Permᴰ.map (λ p. size_in r (member_at tree p)) d ∣₁ h

pub ordered_size : (r : Settings) (tree : Tree) (places : List ℕ) → Exact r tree places → item_size r tree (in_id_order tree places) ≡ item_size r tree places
ordered_size r tree places h = sym (size_any_order r tree (ordered_perm tree places) h)

pub side_size : (r : Settings) (tree : Tree) (places : List ℕ) → Exact r tree places → Ascending places
    → (side : List ℕ) → PartOf side (in_id_order tree places) → item_size r tree (among side places) ≡ item_size r tree side
side_size r tree places h ascend side part =
    size_any_order r tree (side_perm tree places ascend side part) (keep_exact r tree (λ p. elem p side) places h)
