-- Parts of the two tables of modules are the tables of a part of the modules.
use Prim.Native.Nat.{ℕ, ◌+◌, ◌-◌, ◌^◌, ◌≤◌, ◌<◌}
use mathlib.Core.List.{List, []}
use mathlib.Core.Path.{◌≡◌, sym, ap, ap₂, ◌∙◌}
use native.Mathlib.Omega.{arith}
use lib.Ieee.{Float, nan}
use lib.ListN.{length, get_or, take, drop, length-drop}
use lib.Seq.{length-take-le, get_or-take, get_or-drop, take-take, take-add}
use Rattle.lists.specs.Sum.{sum}
use Rattle.lists.proofs.Parts.{map_take, map_drop}
use Rattle.lists.proofs.Sum.{sum_append, sum_take_le}
use Rattle.whole.specs.Double.{to_f64, sum_f64}
use Rattle.whole.proofs.Exact.{sum_exact}
use Rattle.ids.specs.Parts.{id_at}
use Rattle.similarity.specs.Similarity.{similarity}
use Rattle.cut.specs.Cut.{Chosen}
use Rattle.cut.specs.Order.{sizes_in, ids_in}
use Rattle.cut.specs.Tables.{Tabled}
use Rattle.cut.proofs.InOrder.{id_in, length_ids}
use Rattle.oversized.specs.Neighbours.{Neighbours}
use Rattle.oversized.specs.Cutting.{cut_within}

-- what stands in a part stands in the whole
module _ {A : Type 0} (l : List A) (a n : ℕ) (fits : a + n ≤ length l) where
  part_length : length (take n (drop a l)) ≡ n
  part_length = length-take-le n (drop a l) (simp length-drop (omega arith))

  part_at : (d : A) (i : ℕ) → i < n → get_or (take n (drop a l)) i d ≡ get_or l (a + i) d
  part_at d i h = get_or-take n (drop a l) i d h ∙ get_or-drop a l i d

module _ {similar : List ℕ} {sums : List Float} {total : Float} (m : Neighbours similar sums total) (a n : ℕ) (fits : a + n ≤ length m.order) where
  abbrev part : List ℕ
  part = take n (drop a m.order)

  abbrev all : List ℕ
  all = sizes_in m.sizes m.order

  -- ---- ids

  id_at_part : (i : ℕ) → i < n → get_or (ids_in m.bytes m.offsets part) i [] ≡ id_at m.bytes m.offsets (get_or m.order (a + i) 0)
  id_at_part i h =
      let long = part_length m.order a n fits in
      id_in m.bytes m.offsets part i (omega arith) ∙ ap (id_at m.bytes m.offsets) (part_at m.order a n fits 0 i h)

  -- an entry of the part is how alike two of its ids are
  alike_at_part : (i : ℕ) → 1 ≤ i → i < n → get_or similar (a + i) 0
      ≡ similarity (get_or (ids_in m.bytes m.offsets part) (i - 1) []) (get_or (ids_in m.bytes m.offsets part) i [])
  alike_at_part i from h =
      let back : a + i - 1 ≡ a + (i - 1) = omega arith in
      m.compared.each (a + i) (omega arith) (omega arith)
      ∙ ap₂ similarity
      (ap (λ (k : ℕ). id_at m.bytes m.offsets (get_or m.order k 0)) back ∙ sym (id_at_part (i - 1) (omega arith)))
      (sym (id_at_part i h))

  -- ---- sizes

  part_sizes : sizes_in m.sizes part ≡ take n (drop a all)
  part_sizes =
      let size : ℕ → ℕ = λ k. get_or m.sizes k 0 in
      map_take size n (drop a m.order) ∙ ap (take n) (map_drop size a m.order)

  sum_before : (i : ℕ) → i ≤ n → sum (take (a + i) all) ≡ sum (take a all) + sum (take i (sizes_in m.sizes part))
  sum_before i h =
      ap sum (take-add a i all)
      ∙ sum_append (take a all) (take i (drop a all))
      ∙ ap (λ (l : List ℕ). sum (take a all) + sum l) (sym (ap (take i) part_sizes ∙ take-take i n (drop a all) h))

  small : sum (take a all) + sum (sizes_in m.sizes part) ≤ 2 ^ 53
  small =
      let joined : sum (take (a + n) all) ≡ sum (take a all) + sum (sizes_in m.sizes part) =
      ap sum (take-add a n all) ∙ sum_append (take a all) (take n (drop a all)) ∙ ap (λ (l : List ℕ). sum (take a all) + sum l) (sym part_sizes) in
      omega (arith, joined, sum_take_le (a + n) all, m.tables.sized.exact)

  sum_at_part : (i : ℕ) → i < n → get_or sums (a + i) nan ≡ to_f64 (sum (take a all) + sum (take i (sizes_in m.sizes part)))
  sum_at_part i h =
      m.summed.each (a + i) (omega arith)
      ∙ sum_exact (take (a + i) all) (omega (arith, sum_take_le (a + i) all, m.tables.sized.exact))
      ∙ ap to_f64 (sum_before i (omega arith))

  part_tabled : (size : Float) → size ≡ sum_f64 (sizes_in m.sizes part) → Tabled (take n (drop a similar)) (take n (drop a sums)) size
  part_tabled size is =
      let in-similar : a + n ≤ length similar = omega (arith, m.compared.as_many) in
      let in-sums : a + n ≤ length sums = omega (arith, m.summed.as_many) in
      let long = part_length similar a n in-similar in
      record {
        ids = ids_in m.bytes m.offsets part;
        sizes = sizes_in m.sizes part;
        as_many = length_ids m.bytes m.offsets part ∙ part_length m.order a n fits ∙ sym long;
        alike = λ i from h. part_at similar a n in-similar 0 i (omega arith) ∙ alike_at_part i from (omega arith);
        before = sum (take a all);
        summed = λ i h. part_at sums a n in-sums nan i (omega arith) ∙ sum_at_part i (omega arith);
        exact = small;
        whole = is;
      }

  -- what is answered for the parts of the tables is the cut of the part
  pub part_answer : (size minimum maximum : Float) → size ≡ sum_f64 (sizes_in m.sizes part) → (answer : Chosen)
      → ((p : Tabled (take n (drop a similar)) (take n (drop a sums)) size) → answer ≡ cut_within p.ids p.sizes size minimum maximum)
      → answer ≡ cut_within (ids_in m.bytes m.offsets part) (sizes_in m.sizes part) size minimum maximum
  unfolding part_tabled
  part_answer size minimum maximum is answer f = f (part_tabled size is)
