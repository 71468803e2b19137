-- Every item of the work list has places that ascend and stand below the count of the members, and at least one.
use Prim.Native.Nat.{ℕ, suc, ◌≤◌}
use mathlib.Core.Bool.{Bool, true, false}
use mathlib.Core.List.Memᴰ
use mathlib.Core.List.{List, [], ◌∷◌, ◌++◌, Memᴰ}
use mathlib.Core.Logic.{⊎_elim}
use mathlib.Core.Path.{◌≡◌, refl, sym, subst}
use lib.ListN.{length}
use Rattle.lists.specs.Keep.{keep}
use Rattle.lists.specs.Range.{range}
use Rattle.lists.proofs.Members.{keep_mem}
use Rattle.lists.proofs.Sort.{sort_mem}
use Rattle.options.specs.declared.Settings.{Settings}
use Rattle.grouping.specs.Tree.{Tree}
use Rattle.grouping.specs.Item.{Item}
use Rattle.grouping.specs.Sets.{named, set_of}
use Rattle.grouping.specs.WorkList.{comes_first, items_of_set, items_of_names, items_from, work_list}
use Rattle.grouping_laws.proofs.SetPlaces.{Placed, set_placed, set_some}
use Rattle.grouping_laws.proofs.SubgroupPlaces.{divided_placed}

module _ (tree : Tree) where
  abbrev Started : Item → Type 0
  Started i = Placed (length tree) i.places × (1 ≤ length i.places)

  abbrev AllStarted : List Item → Type 0
  AllStarted items = (i : Item) → Memᴰ i items → Started i

  append_started : (l m : List Item) → AllStarted l → AllStarted m → AllStarted (l ++ m)
  append_started l m p q i t = ⊎_elim (p i) (q i) (Memᴰ.append_cases l t)

  set_started : (aware : Bool) (r : Settings) (g name : ℕ) (places : List ℕ)
      → Placed (length tree) places → 1 ≤ length places → AllStarted (items_of_set aware r g name tree places)
  set_started true r g name places h some i m = divided_placed tree places (length tree) r g name h i m
  set_started false r g name places h some i m = subst Started (sym (Memᴰ.eq_of_singleton m)) (h, some)

  names_started : (r : Settings) (g : ℕ) (names : List ℕ)
      → ((name : ℕ) → Memᴰ name names → named r g tree name ≡ true) → AllStarted (items_of_names r g tree names)
  unfolding items_of_names
  names_started r g [] h i m = absurd (Memᴰ.not-nil m)
  names_started r g (name ∷ names) h i m =
      append_started (items_of_set r.entries_aware r g name tree (set_of r g tree name)) (items_of_names r g tree names)
      (set_started r.entries_aware r g name (set_of r g tree name) (set_placed r g tree name) (set_some r g tree name (h name (Memᴰ.head refl))))
      (names_started r g names (λ n k. h n (Memᴰ.tail k))) i m

  items_started : (k g : ℕ) (settings : List Settings) → AllStarted (items_from k g settings tree)
  unfolding items_from
  items_started k g [] i m = absurd (Memᴰ.not-nil m)
  items_started k g (r ∷ settings) i m =
      append_started (items_of_names r g tree (keep (named r g tree) (range 0 k))) (items_from k (suc g) settings tree)
      (names_started r g (keep (named r g tree) (range 0 k)) (λ name n. (keep_mem (named r g tree) (range 0 k) name n).1))
      (items_started k (suc g) settings) i m

pub work_places : (k : ℕ) (settings : List Settings) (tree : Tree) (i : Item) → Memᴰ i (work_list k settings tree)
    → Placed (length tree) i.places × (1 ≤ length i.places)
unfolding work_list
work_places k settings tree i m = items_started tree k 0 settings i (sort_mem (comes_first tree) (items_from k 0 settings tree) i m)
