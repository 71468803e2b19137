-- Parts of one list that are still to be looked at, kept as a stack of the places at which they start: the top one ends at a place that the
-- loop knows, each other one where the one above it starts. `depth` is how many there are, and the top one stands last in the table.
use Prim.Native.Nat.{ℕ, zero, suc, ◌+◌, ◌-◌, ◌≤◌, ◌<◌}
use mathlib.Core.List.{List, [], ◌∷◌}
use mathlib.Core.Path.{◌≡◌, refl, sym, ap, ap₂, ◌∙◌}
use native.Mathlib.Numerals.{add-one}
use native.Mathlib.Omega.{arith}
use lib.ListN.{length, get_or, set, take, drop}
use lib.Seq.{slice, take-take, drop-drop, take-length, length-slice, get_or-set_same, get_or-set_other}
use Rattle.lists.proofs.Parts.{slice_part}
use Rattle.settling.proofs.PieceBound.{Inside}

-- the parts, the top one first
unfoldable pub pending : List ℕ → List ℕ → ℕ → ℕ → List (List ℕ)
pending l starts end zero = []
pending l starts end (suc depth) = slice (get_or starts depth 0) end l ∷ pending l starts (get_or starts depth 0) depth

-- no part is empty
unfoldable pub Rises : List ℕ → ℕ → ℕ → Type 0
Rises starts end zero = Unit {0}
Rises starts end (suc depth) = (get_or starts depth 0 < end) × Rises starts (get_or starts depth 0) depth

-- ---- what stands above the stack doesn't matter

module _ (v k : ℕ) where
  pub pending_set : (l starts : List ℕ) (end depth : ℕ) → depth ≤ k → pending l (set starts k v) end depth ≡ pending l starts end depth
  unfolding pending
  pending_set l starts end zero h = refl
  pending_set l starts end (suc depth) h =
      let same : get_or (set starts k v) depth 0 ≡ get_or starts depth 0 = get_or-set_other starts k depth v 0 (omega arith) in
      rw same (ap (λ (ps : List (List ℕ)). slice (get_or starts depth 0) end l ∷ ps) (pending_set l starts (get_or starts depth 0) depth (omega arith)))

  pub rises_set : (starts : List ℕ) (end depth : ℕ) → depth ≤ k → Rises starts end depth → Rises (set starts k v) end depth
  unfolding Rises
  rises_set starts end zero h r = tt
  rises_set starts end (suc depth) h r =
      let same : get_or (set starts k v) depth 0 ≡ get_or starts depth 0 = get_or-set_other starts k depth v 0 (omega arith) in
      rw same (r.0, rises_set starts (get_or starts depth 0) depth (omega arith) r.1)

-- there is room: a place of the list for each part
pub rises_depth : (starts : List ℕ) (end depth : ℕ) → Rises starts end depth → depth ≤ end
unfolding Rises
rises_depth starts end zero r = omega arith
rises_depth starts end (suc depth) r = omega (arith, r.0, rises_depth starts (get_or starts depth 0) depth r.1)

-- ---- the top one

-- where the top part starts
abbrev pub top_of : List ℕ → ℕ → ℕ
top_of starts depth = get_or starts (depth - 1) 0

pub pending_none : (l starts : List ℕ) (end : ℕ) → pending l starts end 0 ≡ []
unfolding pending
pending_none l starts end = refl

pub pending_start : (l starts : List ℕ) → get_or starts 0 0 ≡ 0 → pending l starts (length l) 1 ≡ l ∷ []
unfolding pending
pending_start l starts e = rw (e, take-length l)

pub rises_start : (l starts : List ℕ) → get_or starts 0 0 ≡ 0 → 1 ≤ length l → Rises starts (length l) 1
unfolding Rises
rises_start l starts e h = (rw e h, tt)

module _ (l starts : List ℕ) (end : ℕ) where
  pub pending_top : (depth : ℕ) → 1 ≤ depth
      → pending l starts end depth ≡ slice (top_of starts depth) end l ∷ pending l starts (top_of starts depth) (depth - 1)
  unfolding pending
  pending_top zero h = absurd (omega arith)
  pending_top (suc depth) h = let e : suc depth - 1 ≡ depth = omega arith in rw e

  pub rises_top : (depth : ℕ) → 1 ≤ depth → Rises starts end depth → (top_of starts depth < end) × Rises starts (top_of starts depth) (depth - 1)
  unfolding Rises
  rises_top zero h r = absurd (omega arith)
  rises_top (suc depth) h r = let e : suc depth - 1 ≡ depth = omega arith in rw e r

-- the two sides of a part, as parts of the whole list
right_side : (a b i : ℕ) (l : List ℕ) → drop i (slice a b l) ≡ slice (a + i) b l
right_side a b i l = drop-drop i a (take b l)

left_side : (a b i : ℕ) (l : List ℕ) → a + i ≤ b → take i (slice a b l) ≡ slice a (a + i) l
left_side a b i l h =
    let n : (a + i) - a ≡ i = omega arith in
    ap (take i) (slice_part a b l) ∙ take-take i (b - a) (drop a l) (omega arith) ∙ sym (slice_part a (a + i) l ∙ ap (λ (k : ℕ). take k (drop a l)) n)

-- ---- the top one cut at i: its left side stays, its right side is the new top

module _ (l starts : List ℕ) (end : ℕ) where
  pending_push : (depth v : ℕ) → suc depth < length starts
      → pending l (set starts (suc depth) v) end (suc (suc depth))
      ≡ slice v end l ∷ slice (get_or starts depth 0) v l ∷ pending l starts (get_or starts depth 0) depth
  unfolding pending
  pending_push depth v room =
      let new : get_or (set starts (suc depth) v) (suc depth) 0 ≡ v = get_or-set_same starts (suc depth) v 0 room in
      let old : get_or (set starts (suc depth) v) depth 0 ≡ get_or starts depth 0 = get_or-set_other starts (suc depth) depth v 0 (omega arith) in
      rw (new, old, pending_set v (suc depth) l starts (get_or starts depth 0) depth (omega arith))

  pub pending_cut : (depth i : ℕ) → 1 ≤ depth → depth < length starts → top_of starts depth + i ≤ end
      → pending l (set starts depth (top_of starts depth + i)) end (depth + 1)
      ≡ drop i (slice (top_of starts depth) end l) ∷ take i (slice (top_of starts depth) end l) ∷ pending l starts (top_of starts depth) (depth - 1)
  pending_cut zero i h room fits = absurd (omega arith)
  pending_cut (suc depth) i h room fits =
      let e : suc depth - 1 ≡ depth = omega arith in
      let below : get_or starts depth 0 + i ≤ end = rw e at fits in
      rw (e, add-one (suc depth))
      (pending_push depth (get_or starts depth 0 + i) room
      ∙ ap₂ (λ (u v : List ℕ). u ∷ v ∷ pending l starts (get_or starts depth 0) depth)
      (sym (right_side (get_or starts depth 0) end i l))
      (sym (left_side (get_or starts depth 0) end i l below)))

  pub rises_cut : (depth i : ℕ) → 1 ≤ depth → depth < length starts → end ≤ length l → Inside i (slice (top_of starts depth) end l)
      → Rises starts end depth → Rises (set starts depth (top_of starts depth + i)) end (depth + 1)
  unfolding Rises
  rises_cut zero i h room fits at r = absurd (omega arith)
  rises_cut (suc depth) i h room fits at r =
      let e : suc depth - 1 ≡ depth = omega arith in
      let start : ℕ = get_or starts depth 0 in
      let inside : i < end - start = rw (e, length-slice start end l fits) at at.inside in
      let new : get_or (set starts (suc depth) (start + i)) (suc depth) 0 ≡ start + i = get_or-set_same starts (suc depth) (start + i) 0 room in
      let old : get_or (set starts (suc depth) (start + i)) depth 0 ≡ start = get_or-set_other starts (suc depth) depth (start + i) 0 (omega arith) in
      rw (e, add-one (suc depth), new, old)
      (omega arith, (omega (arith, at.from_one), rises_set (start + i) (suc depth) starts start depth (omega arith) r.1))
