-- The size of each part that is still to be looked at, kept beside the stack of their starts.
use Prim.Native.Nat.{ℕ, zero, suc, ◌+◌, ◌-◌, ◌≤◌, ◌<◌}
use mathlib.Core.List.{List}
use mathlib.Core.Path.{◌≡◌, ◌∙◌}
use native.Mathlib.Numerals.{add-one}
use native.Mathlib.Omega.{arith}
use lib.Ieee.{Float}
use lib.ListN.{length, get_or, set, length-set}
use lib.Seq.{slice, take-length, get_or-set_same, get_or-set_other}
use Rattle.whole.specs.Double.{sum_f64}
use Rattle.cut.specs.Order.{sizes_in}
use Rattle.settling.proofs.RangeStack.{top_of}

module _ (sizes l : List ℕ) (d : Float) where
  -- the size of the part from a to b
  abbrev pub size_of : ℕ → ℕ → Float
  size_of a b = sum_f64 (sizes_in sizes (slice a b l))

  -- each of the parts has its size in the table; d is what a place past the table would read
  unfoldable pub Totalled : List ℕ → List Float → ℕ → ℕ → Type 0
  Totalled starts totals end zero = Unit {0}
  Totalled starts totals end (suc depth) = (get_or totals depth d ≡ size_of (get_or starts depth 0) end) × Totalled starts totals (get_or starts depth 0) depth

  -- ---- what stands above the stack doesn't matter

  pub starts_set : (v k : ℕ) (starts : List ℕ) (totals : List Float) (end depth : ℕ) → depth ≤ k → Totalled starts totals end depth
      → Totalled (set starts k v) totals end depth
  unfolding Totalled
  starts_set v k starts totals end zero h t = tt
  starts_set v k starts totals end (suc depth) h t =
      let same : get_or (set starts k v) depth 0 ≡ get_or starts depth 0 = get_or-set_other starts k depth v 0 (omega arith) in
      rw same (t.0, starts_set v k starts totals (get_or starts depth 0) depth (omega arith) t.1)

  pub totals_set : (v : Float) (k : ℕ) (starts : List ℕ) (totals : List Float) (end depth : ℕ) → depth ≤ k → Totalled starts totals end depth
      → Totalled starts (set totals k v) end depth
  unfolding Totalled
  totals_set v k starts totals end zero h t = tt
  totals_set v k starts totals end (suc depth) h t =
      (get_or-set_other totals k depth v d (omega arith) ∙ t.0, totals_set v k starts totals (get_or starts depth 0) depth (omega arith) t.1)

  -- ---- the start, and the top one

  pub totalled_start : (starts : List ℕ) (totals : List Float) → get_or starts 0 0 ≡ 0 → get_or totals 0 d ≡ sum_f64 (sizes_in sizes l)
      → Totalled starts totals (length l) 1
  unfolding Totalled
  totalled_start starts totals e t = (rw (e, take-length l) t, tt)

  module _ (starts : List ℕ) (totals : List Float) (end : ℕ) where
    pub totalled_top : (depth : ℕ) → 1 ≤ depth → Totalled starts totals end depth
        → (get_or totals (depth - 1) d ≡ size_of (top_of starts depth) end) × Totalled starts totals (top_of starts depth) (depth - 1)
    unfolding Totalled
    totalled_top zero h t = absurd (omega arith)
    totalled_top (suc depth) h t = let e : suc depth - 1 ≡ depth = omega arith in rw e t

    -- ---- the top one cut at a place: its left side stays, its right side is the new top

    totalled_push : (depth v : ℕ) (left right : Float) → suc depth < length starts → suc depth < length totals
        → left ≡ size_of (get_or starts depth 0) v → right ≡ size_of v end → Totalled starts totals end (suc depth)
        → Totalled (set starts (suc depth) v) (set (set totals depth left) (suc depth) right) end (suc (suc depth))
    unfolding Totalled
    totalled_push depth v left right room space on_left on_right t =
        let new : get_or (set starts (suc depth) v) (suc depth) 0 ≡ v = get_or-set_same starts (suc depth) v 0 room in
        let old : get_or (set starts (suc depth) v) depth 0 ≡ get_or starts depth 0 = get_or-set_other starts (suc depth) depth v 0 (omega arith) in
        let wide : suc depth < length (set totals depth left) = simp length-set space in
        let top : get_or (set (set totals depth left) (suc depth) right) (suc depth) d ≡ right = get_or-set_same (set totals depth left) (suc depth) right d wide in
        let below : get_or (set (set totals depth left) (suc depth) right) depth d ≡ left =
        get_or-set_other (set totals depth left) (suc depth) depth right d (omega arith) ∙ get_or-set_same totals depth left d (omega arith) in
        rw (new, old) (
          top ∙ on_right,
          (
            below ∙ on_left,
            totals_set right (suc depth) (set starts (suc depth) v) (set totals depth left) (get_or starts depth 0) depth (omega arith)
                (totals_set left depth (set starts (suc depth) v) totals (get_or starts depth 0) depth (omega arith)
                (starts_set v (suc depth) starts totals (get_or starts depth 0) depth (omega arith) t.1)),
          ),
        )

    pub totalled_cut : (depth v : ℕ) (left right : Float) → 1 ≤ depth → depth < length starts → depth < length totals
        → left ≡ size_of (top_of starts depth) v → right ≡ size_of v end → Totalled starts totals end depth
        → Totalled (set starts depth v) (set (set totals (depth - 1) left) depth right) end (depth + 1)
    totalled_cut zero v left right h room space on_left on_right t = absurd (omega arith)
    totalled_cut (suc depth) v left right h room space on_left on_right t =
        let e : suc depth - 1 ≡ depth = omega arith in
        let on : left ≡ size_of (get_or starts depth 0) v = rw e at on_left in
        rw (e, add-one (suc depth)) (totalled_push depth v left right room space on on_right t)
