-- Document 02, note 2: subgroups of one (group, name) come by the smallest stable id that "they held when subgroups were finished, after
-- merging". An edit that changes only execution orders, and what it means that these items come in the same order before and after it.
use Rattle.std.specs.Prelude.{ℕ, ◌<◌, Bool, ◌&&◌, ◌≡◌, eqb, length, get_or}
use mathlib.Core.List.{List, Memᴰ}
use Rattle.lists.specs.Keep.{keep}
use Rattle.grouping.specs.Given.{Given}
use Rattle.grouping.specs.Settings.{all_settings}
use Rattle.grouping.specs.Tree.{tree_of}
use Rattle.grouping.specs.Item.{Item}
use Rattle.grouping.specs.WorkList.{work_list}
use Rattle.settling.specs.Modules.{modules_at}

-- the edit: the build with other execution orders, and nothing else changed
abbrev pub with_orders : List ℕ → Given → Given
with_orders orders a =
    let s = a.shared in
    record {
      shared =
          record {
            n = s.n;
            e = s.e;
            k = s.k;
            d = s.d;
            sizes = s.sizes;
            orders = orders;
            shares = s.shares;
            tags = s.tags;
            bits = s.bits;
            bytes = s.bytes;
            offsets = s.offsets;
            first = s.first;
            dependency = s.dependency;
            next = s.next;
            options = s.options;
          };
      variant = a.variant;
      on_entry = a.on_entry;
    }

-- an item is of this (group, name)
abbrev pub has_name : ℕ → ℕ → Item → Bool
has_name g name i = eqb i.group g && eqb i.name name

-- The items of one (group, name) in the order of the work list at its start: "when subgroups were finished, after merging", before any turn.
unfoldable pub items_named : Given → ℕ → ℕ → List Item
unfolding keep work_list all_settings tree_of
items_named b g name = keep (has_name g name) (work_list b.shared.k (all_settings b) (tree_of b))

-- An item of a and one of b hold the same modules, as sets: at which places these stand follows execution orders.
pub record SameModules (a b : Given) (i j : Item) : Type 0 where
  pub there : (m : ℕ) → Memᴰ m (modules_at a i.places) → Memᴰ m (modules_at b j.places)
  pub back : (m : ℕ) → Memᴰ m (modules_at b j.places) → Memᴰ m (modules_at a i.places)

-- each item of the first list has one in the second with the same modules, wherever it stands there
abbrev pub Matched : Given → Given → List Item → List Item → Type 0
Matched a b l r = (i : Item) → Memᴰ i l → (j : Item) × Memᴰ j r × SameModules a b i j

-- the same order: as many items, and those at one position hold the same modules
pub record InStep (a b : Given) (l r : List Item) : Type 0 where
  pub lengths : length l ≡ length r
  pub modules : (n : ℕ) (d : Item) → n < length l → SameModules a b (get_or l n d) (get_or r n d)
