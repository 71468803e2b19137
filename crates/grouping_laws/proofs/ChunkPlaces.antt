-- The places of the chunks ascend, and stand below the count of the members. No chunk is empty, and no two share a place, since an emitted
-- item's places leave all later items. So there are at most as many chunks as members.
use Prim.Native.Nat.{ℕ, zero, suc, ◌≤◌, ◌<◌}
use mathlib.Core.Bool.{Bool, true, not, false≢true}
use mathlib.Core.List.Memᴰ
use mathlib.Core.List.{List, [], ◌∷◌, map, Memᴰ}
use mathlib.Core.Logic.{⊎_elim}
use mathlib.Core.Path.{◌≡◌, refl, sym, ap, ◌∙◌, subst}
use native.Mathlib.Omega.{arith}
use lib.Dec.{ltb}
use lib.ListN.{length, get_or, length-map}
use Rattle.lists.specs.Elem.{elem}
use Rattle.lists.specs.Keep.{keep}
use Rattle.lists.specs.Range.{range}
use Rattle.lists.proofs.Distinct.{Distinct, distinct_count}
use Rattle.lists.proofs.Elem.{mem_elem}
use Rattle.lists.proofs.KeepLength.{keep_le}
use Rattle.lists.proofs.Members.{keep_mem}
use Rattle.lists.proofs.Position.{get_or_mem}
use Rattle.lists.proofs.Range.{length_range}
use Rattle.lists.proofs.Rearranged.{sort_perm, perm_length}
use Rattle.lists.proofs.Sort.{Pairs, none, more, pairs_map}
use Rattle.flags.specs.Flags.{eligible_at}
use Rattle.grouping.specs.Given.{Given}
use Rattle.options.specs.declared.Settings.{Settings}
use Rattle.grouping.specs.Settings.{all_settings}
use Rattle.grouping.specs.Tree.{Tree, places_of, member_of, tree_of}
use Rattle.grouping.specs.Item.{Item}
use Rattle.grouping.specs.WorkList.{work_list}
use Rattle.grouping.specs.Fate.{Fate, emptied, dropped, parted, emitted, fate_of}
use Rattle.grouping.specs.ChunkList.{rest, without, turns, enough, Chunk, chunk_from, emitted_by, chunks_of_turns, all_turns, chunks_of, chunk_list}
use Rattle.grouping_laws.proofs.Pieces.{Ascending, OfFate, fate_holds}
use Rattle.grouping_laws.proofs.SetPlaces.{Placed}
use Rattle.grouping_laws.proofs.WorkPlaces.{work_places}
use Rattle.grouping_laws.proofs.EnoughTurns.{AllAscend, rest_ascend, work_ascends}

-- no place is in both
abbrev pub Apart : Chunk → Chunk → Type 0
Apart c d = (p : ℕ) → Memᴰ p c.places → Memᴰ p d.places → ⊥

-- it holds of every place of every item
abbrev Over : (ℕ → Type 0) → List Item → Type 0
Over Q items = (i : Item) → Memᴰ i items → (p : ℕ) → Memᴰ p i.places → Q p

without_mem : (gone : List ℕ) (i : Item) (p : ℕ) → Memᴰ p (without gone i).places → Memᴰ p i.places × (not (elem p gone) ≡ true)
without_mem gone i p m = keep_mem (λ q. not (elem q gone)) i.places p m

rest_over : (Q : ℕ → Type 0) (fate : Fate) (i : Item) (items : List Item) → OfFate i.places fate → Over Q (i ∷ items) → Over Q (rest fate i items)
rest_over Q emptied i items h all j m p n = all j (Memᴰ.tail m) p n
rest_over Q dropped i items h all j m p n = all j (Memᴰ.tail m) p n
rest_over Q (parted left right) i items h all j m p n =
    let here = all i (Memᴰ.head refl) p in
    ⊎_elim
    (λ e. here (h.right_of p (subst (λ (u : Item). Memᴰ p u.places) e n)))
    (λ t. ⊎_elim
    (λ e. here (h.left_of_lem p (subst (λ (u : Item). Memᴰ p u.places) e n)))
    (λ u. all j (Memᴰ.tail u) p n)
    (Memᴰ.cases_cons t))
    (Memᴰ.cases_cons m)
rest_over Q emitted i items h all j m p n =
    let o = Memᴰ.of_map (without i.places) items m in
    all o.0 (Memᴰ.tail o.1) p (without_mem i.places o.0 p (subst (λ (u : Item). Memᴰ p u.places) (sym o.2) n)).0

-- the places of an emitted item have left
gone_over : (gone : List ℕ) (items : List Item) → Over (λ p. Memᴰ p gone → ⊥) (map (without gone) items)
gone_over gone items j m p n g =
    let o = Memᴰ.of_map (without gone) items m in
    let kept = (without_mem gone o.0 p (subst (λ (u : Item). Memᴰ p u.places) (sym o.2) n)).1 in
    false≢true (sym (ap not (mem_elem p g)) ∙ kept)

-- ---- the chunks of the turns

-- a chunk whose places all have a property
record Filled (Q : ℕ → Type 0) (c : Chunk) : Type 0 where
  ascend : Ascending c.places
  some : 1 ≤ length c.places
  every : (p : ℕ) → Memᴰ p c.places → Q p

module _ (tree : Tree) where
  abbrev made : ℕ → List Item → List Chunk
  made most items = chunks_of_turns tree (turns most tree items)

  emitted_filled : (Q : ℕ → Type 0) (fate : Fate) (i : Item) (chunks : List Chunk) → OfFate i.places fate → Ascending i.places
      → ((p : ℕ) → Memᴰ p i.places → Q p) → ((c : Chunk) → Memᴰ c chunks → Filled Q c)
      → (c : Chunk) → Memᴰ c (emitted_by tree fate i chunks) → Filled Q c
  unfolding chunk_from
  emitted_filled Q emptied i chunks h a q all c m = all c m
  emitted_filled Q dropped i chunks h a q all c m = all c m
  emitted_filled Q (parted left right) i chunks h a q all c m = all c m
  emitted_filled Q emitted i chunks h a q all c m =
      ⊎_elim (λ e. subst (Filled Q) (sym e) (record { ascend = a; some = h; every = q })) (all c) (Memᴰ.cases_cons m)

  made_filled : (Q : ℕ → Type 0) (most : ℕ) (items : List Item) → AllAscend items → Over Q items
      → (c : Chunk) → Memᴰ c (made most items) → Filled Q c
  unfolding turns chunks_of_turns
  made_filled Q zero items a q c m = absurd (Memᴰ.not-nil m)
  made_filled Q (suc most) [] a q c m = absurd (Memᴰ.not-nil m)
  made_filled Q (suc most) (i ∷ items) a q c m =
      let ascend = a i (Memᴰ.head refl) in
      let fate = fate_of i.settings tree i.places in
      let here = fate_holds i.settings tree i.places ascend in
      emitted_filled Q fate i (made most (rest fate i items)) here ascend (q i (Memᴰ.head refl))
      (made_filled Q most (rest fate i items) (rest_ascend fate i items here (λ j n. a j (Memᴰ.tail n))) (rest_over Q fate i items here q))
      c m

  emitted_apart : (most : ℕ) (fate : Fate) (i : Item) (items : List Item) → AllAscend (rest fate i items)
      → Pairs Apart (made most (rest fate i items)) → Pairs Apart (emitted_by tree fate i (made most (rest fate i items)))
  unfolding chunk_from
  emitted_apart most emptied i items a r = r
  emitted_apart most dropped i items a r = r
  emitted_apart most (parted left right) i items a r = r
  emitted_apart most emitted i items a r =
      more (λ d m p n k. (made_filled (λ p. Memᴰ p i.places → ⊥) most (rest emitted i items) a (gone_over i.places items) d m).every p k n) r

  made_apart : (most : ℕ) (items : List Item) → AllAscend items → Pairs Apart (made most items)
  unfolding turns chunks_of_turns
  made_apart zero items a = none
  made_apart (suc most) [] a = none
  made_apart (suc most) (i ∷ items) a =
      let fate = fate_of i.settings tree i.places in
      let here = fate_holds i.settings tree i.places (a i (Memᴰ.head refl)) in
      let later = rest_ascend fate i items here (λ j n. a j (Memᴰ.tail n)) in
      emitted_apart most fate i items later (made_apart most (rest fate i items) later)

-- ---- how many chunks there are

-- the first place of a chunk is that of no other
module _ (n : ℕ) (chunks : List Chunk) (filled : (c : Chunk) → Memᴰ c chunks → Placed n c.places × (1 ≤ length c.places))
    (apart : Pairs Apart chunks) where
  pub apart_count : length chunks ≤ n
  apart_count = omega (arith, distinct_count n (map first chunks) distinct below, length-map chunks first)
    where
      first : Chunk → ℕ
      first c = get_or c.places 0 0

      first_mem : (c : Chunk) → Memᴰ c chunks → Memᴰ (first c) c.places
      first_mem c m = get_or_mem c.places 0 0 (filled c m).1

      distinct : Distinct (map first chunks)
      distinct =
          pairs_map Apart (λ x y. x ≡ y → ⊥) first (λ c d m k a e. a (first c) (first_mem c m) (Memᴰ.cast e (first_mem d k))) apart

      below : (x : ℕ) → Memᴰ x (map first chunks) → x < n
      below x m =
          let o = Memᴰ.of_map first chunks m in
          subst (λ (y : ℕ). y < n) o.2 ((filled o.0 o.1).0.below (first o.0) (first_mem o.0 o.1))

-- ---- the chunk list of a tree

module _ (k : ℕ) (settings : List Settings) (tree : Tree) where
  pub chunk_places : (c : Chunk) → Memᴰ c (chunks_of k settings tree) → Placed (length tree) c.places × (1 ≤ length c.places)
  unfolding chunks_of all_turns
  chunk_places c m =
      let items = work_list k settings tree in
      let f = made_filled tree (λ p. p < length tree) (enough items) items (work_ascends k settings tree) (λ i n. (work_places k settings tree i n).0.below) c m in
      (record { ascend = f.ascend; below = f.every }, f.some)

  pub chunks_apart : Pairs Apart (chunks_of k settings tree)
  unfolding chunks_of all_turns
  chunks_apart = made_apart tree (enough (work_list k settings tree)) (work_list k settings tree) (work_ascends k settings tree)

  pub chunk_count : length (chunks_of k settings tree) ≤ length tree
  chunk_count = apart_count (length tree) (chunks_of k settings tree) chunk_places chunks_apart

-- ---- the chunk list of a build

places_within : (b : Given) → length (places_of b) ≤ b.shared.n
unfolding places_of
places_within b =
    let chosen : ℕ → Bool = λ m. eligible_at b.variant.flags m in
    omega (
      arith,
      perm_length (sort_perm (λ l m. ltb (get_or b.shared.orders l 0) (get_or b.shared.orders m 0)) (keep chosen (range 0 b.shared.n))),
      keep_le chosen (range 0 b.shared.n),
      length_range 0 b.shared.n,
    )

-- an area of n chunk records has room for the chunks of n modules
pub chunks_within : (b : Given) → length (chunk_list b) ≤ b.shared.n
unfolding chunk_list tree_of
chunks_within b =
    omega (arith, chunk_count b.shared.k (all_settings b) (tree_of b), length-map (places_of b) (member_of b (places_of b)), places_within b)
