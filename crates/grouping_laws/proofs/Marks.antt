-- The marks of the chunks are 0, 1 and 2: an item that could still be cut is not emitted. And a mark of 0 says that what has it is within its maximum.
use Prim.Native.Nat.{ℕ, zero, suc, ◌≤◌}
use mathlib.Core.Bool.{Bool, true, false, cond}
use mathlib.Core.List.Memᴰ
use mathlib.Core.List.{List, [], ◌∷◌, map, Memᴰ}
use mathlib.Core.Logic.{⊎_elim}
use mathlib.Core.Path.{◌≡◌, refl, sym, ap, ◌∙◌, subst}
use native.Mathlib.Omega.{arith}
use lib.Dec.{ltb}
use lib.Ieee.{Float, lt}
use lib.ListN.{length}
use Rattle.std.specs.Prelude.{Option, None, Some}
use Rattle.cut.specs.Cut.{allowed_cuts, pick, cut_of}
use Rattle.cut.specs.declared.candidate.Candidate.{Candidate}
use Rattle.options.specs.declared.Settings.{Settings}
use Rattle.grouping.specs.Given as goal
use Rattle.grouping.specs.Settings.{all_settings}
use Rattle.grouping.specs.Tree.{Tree, member_at, tree_of}
use Rattle.grouping.specs.Item.{Item}
use Rattle.grouping.specs.Sizes.{sizes_at, item_size}
use Rattle.grouping.specs.WorkList.{work_list}
use Rattle.grouping.specs.Fate.{Fate, emptied, dropped, parted, emitted, in_id_order, parted_by, cut_fate, cut_if, limited_to, unless, fate_of}
use Rattle.grouping.specs.Mark.{cuts_allowed, why_above, mark_under, mark_of}
use Rattle.grouping.specs.ChunkList.{rest, turns, enough, Chunk, chunk_from, emitted_by, chunks_of_turns, all_turns, chunks_of, chunk_list}

two_marks : (t : Bool) → cond t 1 2 ≤ 2
two_marks true = omega arith
two_marks false = omega arith

of_cuts : (count n : ℕ) (maximum : Float) (cuts : List Candidate) (places ordered : List ℕ)
    → parted_by places ordered (pick count maximum cuts) ≡ emitted → why_above n cuts ≤ 2
unfolding pick
of_cuts count n maximum [] places ordered e = two_marks (ltb n 2)
of_cuts count n maximum (c ∷ cuts) places ordered e = absurd (let z : ◌≡◌ {A = ℕ} 0 1 = cc in omega arith)

above : (t : Bool) (n : ℕ) (cuts : List Candidate) → cond t (why_above n cuts) 0 ≡ 0 → t ≡ false
above false n cuts e = refl
above true n [] e = go (ltb n 2) e
  where
    go : (t : Bool) → ◌≡◌ {A = ℕ} (cond t 1 2) 0 → true ≡ false
    go true e = absurd (omega arith)
    go false e = absurd (omega arith)
above true n (c ∷ cuts) e = absurd (omega arith)

module _ (r : Settings) (tree : Tree) where
  -- ---- what is emitted

  cut_mark : (maximum : Float) (places : List ℕ) → cut_fate r tree maximum places ≡ emitted → why_above (length places) (cuts_allowed r tree places) ≤ 2
  unfolding cut_fate cuts_allowed cut_of
  cut_mark maximum places e =
      let ordered = in_id_order tree places in
      let ids = map (λ p. (member_at tree p).id) ordered in
      of_cuts (length ids) (length places) maximum (allowed_cuts ids (sizes_at r tree ordered) r.min_size) places ordered e

  limit_mark : (limit : Option Float) (places : List ℕ) → limited_to limit r tree places ≡ emitted → mark_under limit r tree places ≤ 2
  limit_mark None places e = omega arith
  limit_mark (Some maximum) places e = go (lt maximum (item_size r tree places)) e
    where
      go : (t : Bool) → cut_if t r tree maximum places ≡ emitted → cond t (why_above (length places) (cuts_allowed r tree places)) 0 ≤ 2
      go true f = cut_mark maximum places f
      go false f = omega arith

  emitted_mark : (places : List ℕ) → fate_of r tree places ≡ emitted → mark_of r tree places ≤ 2
  unfolding fate_of mark_of
  emitted_mark [] e = absurd (let z : ◌≡◌ {A = ℕ} 0 1 = cc in omega arith)
  emitted_mark (p ∷ places) e = go (lt (item_size r tree (p ∷ places)) r.min_size) e
    where
      go : (t : Bool) → unless t r tree (p ∷ places) ≡ emitted → mark_under r.max_size r tree (p ∷ places) ≤ 2
      go true f = absurd (let z : ◌≡◌ {A = ℕ} 0 1 = cc in omega arith)
      go false f = limit_mark r.max_size (p ∷ places) f

  -- ---- a mark of 0

  pub zero_within : (maximum : Float) → r.max_size ≡ Some maximum → (places : List ℕ) → mark_of r tree places ≡ 0
      → lt maximum (item_size r tree places) ≡ false
  unfolding mark_of
  zero_within maximum limit places e =
      above (lt maximum (item_size r tree places)) (length places) (cuts_allowed r tree places)
      (sym (ap (λ (l : Option Float). mark_under l r tree places) limit) ∙ e)

-- ---- the chunks

module _ (tree : Tree) where
  turn_marks : (fate : Fate) (i : Item) (chunks : List Chunk) → fate_of i.settings tree i.places ≡ fate
      → ((c : Chunk) → Memᴰ c chunks → c.mark ≤ 2) → (c : Chunk) → Memᴰ c (emitted_by tree fate i chunks) → c.mark ≤ 2
  unfolding chunk_from
  turn_marks emptied i chunks e all c m = all c m
  turn_marks dropped i chunks e all c m = all c m
  turn_marks (parted left right) i chunks e all c m = all c m
  turn_marks emitted i chunks e all c m =
      ⊎_elim
      (λ q. subst (λ (d : Chunk). d.mark ≤ 2) (sym q) (emitted_mark i.settings tree i.places e))
      (λ t. all c t)
      (Memᴰ.cases_cons m)

  all_marks : (most : ℕ) (items : List Item) (c : Chunk) → Memᴰ c (chunks_of_turns tree (turns most tree items)) → c.mark ≤ 2
  unfolding turns chunks_of_turns
  all_marks zero items c m = absurd (Memᴰ.not-nil m)
  all_marks (suc most) [] c m = absurd (Memᴰ.not-nil m)
  all_marks (suc most) (i ∷ items) c m =
      let fate = fate_of i.settings tree i.places in
      turn_marks fate i (chunks_of_turns tree (turns most tree (rest fate i items))) refl (all_marks most (rest fate i items)) c m

pub marks_known : (b : goal.Given) (c : Chunk) → Memᴰ c (chunk_list b) → c.mark ≤ 2
unfolding chunk_list chunks_of all_turns
marks_known b c m =
    let items = work_list b.shared.k (all_settings b) (tree_of b) in
    all_marks (tree_of b) (enough items) items c m
