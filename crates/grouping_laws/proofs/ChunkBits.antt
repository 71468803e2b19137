-- What holds of no entry and of the bits of every place, and is kept when bits unite, holds of the bits of every chunk. So each chunk's
-- bits are four words.
use Prim.Native.Nat.{ℕ, zero, suc, ◌*◌, ◌<◌}
use mathlib.Core.Bool.{Bool, true, false}
use mathlib.Core.List.{List, [], ◌∷◌, ◌++◌, map}
use mathlib.Core.List.Memᴰ
use mathlib.Core.List.{Memᴰ}
use mathlib.Core.Logic.{⊎_elim}
use mathlib.Core.Option.{Option, none, some}
use mathlib.Core.Path.{◌≡◌, refl, sym, ap, subst}
use native.Mathlib.Omega.{arith}
use lib.ListN.{length, take, drop, length-take, length-drop}
use Rattle.lists.specs.Keep.{keep}
use Rattle.lists.specs.Range.{range}
use Rattle.lists.proofs.Least.{OfOption}
use Rattle.lists.proofs.Members.{get_or_holds}
use Rattle.lists.proofs.Sort.{sort_mem}
use Rattle.bitset.specs.Entries.{empty, union_of, row_of}
use Rattle.bitset.specs.declared.entries.BitSet.{BitSet}
use Rattle.joins.specs.Subgroup.{Subgroup}
use Rattle.grouping.specs.Given.{Given}
use Rattle.options.specs.declared.Settings.{Settings}
use Rattle.grouping.specs.Settings.{all_settings}
use Rattle.grouping.specs.Tree.{Member, Tree, places_of, member_of, tree_of, member_at}
use Rattle.grouping.specs.Item.{Item}
use Rattle.grouping.specs.Sets.{named, set_of}
use Rattle.grouping.specs.Subgroups.{kinds_of, subgroups_from, merged_subgroups, divided_items}
use Rattle.grouping.specs.WorkList.{comes_first, items_of_set, items_of_names, items_from, work_list}
use Rattle.grouping.specs.Fate.{Fate, emptied, dropped, parted, emitted, fate_of}
use Rattle.grouping.specs.ChunkList.{Turn, rest, without, turns, enough, Chunk, union_at, bits_or, chunk_from, emitted_by, chunks_of_turns, all_turns, chunks_of, chunk_list}
use Rattle.grouping_laws.proofs.BitKinds.{kind_in}
use Rattle.grouping_laws.proofs.Accepted.{Sound}
use Rattle.grouping_laws.proofs.Places.{places_mem}
use Rattle.merge.proofs.BitsHeld.{Held, merged_held}

module _ (P : BitSet → Type 0) (unite : (x y : BitSet) → P x → P y → P (union_of x y)) (nothing : P empty) (tree : Tree)
    (all : (m : Member) → Memᴰ m tree → P m.bits) where
  at : (p : ℕ) → P (member_at tree p).bits
  at = get_or_holds (λ m. P m.bits) tree (member_at [] 0) nothing all

  -- ---- the work list

  abbrev OfItem : Item → Type 0
  OfItem i = OfOption P i.bits

  abbrev OfItems : List Item → Type 0
  OfItems items = (i : Item) → Memᴰ i items → OfItem i

  append_held : (l m : List Item) → OfItems l → OfItems m → OfItems (l ++ m)
  append_held l m p q i t = ⊎_elim (p i) (q i) (Memᴰ.append_cases l t)

  subgroups_held : (i : ℕ) (r : Settings) (places : List ℕ) (kinds : List BitSet) → ((k : BitSet) → Memᴰ k kinds → P k) → Held P (subgroups_from i r tree places kinds)
  unfolding subgroups_from
  subgroups_held i r places [] h s m = absurd (Memᴰ.not-nil m)
  subgroups_held i r places (kind ∷ kinds) h s m =
      ⊎_elim
      (λ e. subst P (sym (ap (λ (u : Subgroup). u.bits) e)) (h kind (Memᴰ.head refl)))
      (λ t. subgroups_held (suc i) r places kinds (λ k n. h k (Memᴰ.tail n)) s t)
      (Memᴰ.cases_cons m)

  kind_held : (places : List ℕ) (k : BitSet) → Memᴰ k (map (λ p. (member_at tree p).bits) places) → P k
  kind_held places k n = let o = Memᴰ.of_map (λ p. (member_at tree p).bits) places n in subst P o.2 (at o.0)

  merge_held : (r : Settings) (places : List ℕ) (kinds : List BitSet) → ((k : BitSet) → Memᴰ k kinds → P k) → Held P (merged_subgroups r tree places kinds).there
  unfolding merged_subgroups
  merge_held r places kinds h =
      merged_held P unite r.threshold (record { there = subgroups_from 0 r tree places kinds; finals = range 0 (length kinds) }) (subgroups_held 0 r places kinds h)

  map_held : (f : Subgroup → Item) (l : List Subgroup) → ((s : Subgroup) → (f s).bits ≡ some s.bits) → Held P l → OfItems (map f l)
  map_held f l e h i m = let o = Memᴰ.of_map f l m in subst OfItem o.2 (subst (OfOption P) (sym (e o.0)) (h o.0 o.1))

  divided_held : (r : Settings) (g name : ℕ) (places : List ℕ) → OfItems (divided_items r g name tree places)
  unfolding divided_items
  divided_held r g name places =
      let bits = map (λ p. (member_at tree p).bits) places in
      let kinds = kinds_of (length places) bits in
      map_held _ (merged_subgroups r tree places kinds).there (λ s. refl) (merge_held r places kinds (λ k n. kind_held places k (kind_in (length places) bits k n)))

  set_held : (aware : Bool) (r : Settings) (g name : ℕ) (places : List ℕ) → OfItems (items_of_set aware r g name tree places)
  set_held true r g name places i m = divided_held r g name places i m
  set_held false r g name places i m = subst OfItem (sym (Memᴰ.eq_of_singleton m)) tt

  names_held : (r : Settings) (g : ℕ) (names : List ℕ) → OfItems (items_of_names r g tree names)
  unfolding items_of_names
  names_held r g [] i m = absurd (Memᴰ.not-nil m)
  names_held r g (name ∷ names) i m =
      append_held (items_of_set r.entries_aware r g name tree (set_of r g tree name)) (items_of_names r g tree names)
      (set_held r.entries_aware r g name (set_of r g tree name)) (names_held r g names) i m

  items_held : (k g : ℕ) (settings : List Settings) → OfItems (items_from k g settings tree)
  unfolding items_from
  items_held k g [] i m = absurd (Memᴰ.not-nil m)
  items_held k g (r ∷ settings) i m =
      append_held (items_of_names r g tree (keep (named r g tree) (range 0 k))) (items_from k (suc g) settings tree)
      (names_held r g (keep (named r g tree) (range 0 k))) (items_held k (suc g) settings) i m

  work_held : (k : ℕ) (settings : List Settings) → OfItems (work_list k settings tree)
  unfolding work_list
  work_held k settings i m = items_held k 0 settings i (sort_mem (comes_first tree) (items_from k 0 settings tree) i m)

  -- ---- the turns

  rest_held : (fate : Fate) (i : Item) (items : List Item) → OfItem i → OfItems items → OfItems (rest fate i items)
  rest_held emptied i items p q j m = q j m
  rest_held dropped i items p q j m = q j m
  rest_held (parted left right) i items p q j m =
      ⊎_elim (λ e. subst OfItem (sym e) p)
      (λ t. ⊎_elim (λ e. subst OfItem (sym e) p) (q j) (Memᴰ.cases_cons t))
      (Memᴰ.cases_cons m)
  rest_held emitted i items p q j m = let o = Memᴰ.of_map (without i.places) items m in subst OfItem o.2 (q o.0 o.1)

  turns_held : (most : ℕ) (items : List Item) → OfItems items → (t : Turn) → Memᴰ t (turns most tree items) → OfItem t.item
  unfolding turns
  turns_held zero items h t m = absurd (Memᴰ.not-nil m)
  turns_held (suc most) [] h t m = absurd (Memᴰ.not-nil m)
  turns_held (suc most) (i ∷ items) h t m =
      let here = h i (Memᴰ.head refl) in
      let fate = fate_of i.settings tree i.places in
      ⊎_elim
      (λ e. subst (λ (u : Turn). OfItem u.item) (sym e) here)
      (λ n. turns_held most (rest fate i items) (rest_held fate i items here (λ j l. h j (Memᴰ.tail l))) t n)
      (Memᴰ.cases_cons m)

  -- ---- the chunks

  union_held : (places : List ℕ) → P (union_at tree places)
  unfolding union_at
  union_held [] = nothing
  union_held (p ∷ places) = unite (member_at tree p).bits (union_at tree places) (at p) (union_held places)

  bits_held : (i : Item) (o : Option BitSet) → OfOption P o → P (bits_or o (union_at tree i.places))
  bits_held i none h = union_held i.places
  bits_held i (some bits) h = h

  abbrev OfChunks : List Chunk → Type 0
  OfChunks chunks = (c : Chunk) → Memᴰ c chunks → P c.bits

  emitted_held : (fate : Fate) (i : Item) (chunks : List Chunk) → OfItem i → OfChunks chunks → OfChunks (emitted_by tree fate i chunks)
  unfolding chunk_from
  emitted_held emptied i chunks p q c m = q c m
  emitted_held dropped i chunks p q c m = q c m
  emitted_held (parted left right) i chunks p q c m = q c m
  emitted_held emitted i chunks p q c m =
      ⊎_elim (λ e. subst P (sym (ap (λ (u : Chunk). u.bits) e)) (bits_held i i.bits p)) (q c) (Memᴰ.cases_cons m)

  chunks_held : (ts : List Turn) → ((t : Turn) → Memᴰ t ts → OfItem t.item) → OfChunks (chunks_of_turns tree ts)
  unfolding chunks_of_turns
  chunks_held [] h c m = absurd (Memᴰ.not-nil m)
  chunks_held (t ∷ ts) h c m =
      emitted_held t.fate t.item (chunks_of_turns tree ts) (h t (Memᴰ.head refl)) (chunks_held ts (λ u n. h u (Memᴰ.tail n))) c m

  tree_held : (k : ℕ) (settings : List Settings) → OfChunks (chunks_of k settings tree)
  unfolding chunks_of all_turns
  tree_held k settings =
      chunks_held (turns (enough (work_list k settings tree)) tree (work_list k settings tree))
      (turns_held (enough (work_list k settings tree)) (work_list k settings tree) (work_held k settings))

-- of a build
pub chunk_bits_lem : (P : BitSet → Type 0) → ((x y : BitSet) → P x → P y → P (union_of x y)) → P empty → (b : Given)
    → ((m : ℕ) → m < b.shared.n → P (row_of b.shared.bits m)) → (c : Chunk) → Memᴰ c (chunk_list b) → P c.bits
unfolding chunk_list tree_of member_of
chunk_bits_lem P unite nothing b rows = tree_held P unite nothing (tree_of b) members b.shared.k (all_settings b)
  where
    members : (m : Member) → Memᴰ m (tree_of b) → P m.bits
    members m i =
        let o = Memᴰ.of_map (member_of b (places_of b)) (places_of b) i in
        subst (λ (u : Member). P u.bits) o.2 (rows o.0 (places_mem b o.0 o.1).0)

-- four words
pub four_words : (b : Given) → Sound b → (c : Chunk) → Memᴰ c (chunk_list b) → length c.bits.words ≡ 4
unfolding union_of row_of
four_words b s = chunk_bits_lem (λ u. length u.words ≡ 4) (λ x y p q. refl) refl b row
  where
    row : (m : ℕ) → m < b.shared.n → length (take 4 (drop (4 * m) b.shared.bits)) ≡ 4
    row m h = simp (length-take, length-drop) (omega (arith, s.bits_length))
