-- The turns of the loop that cuts, where one pair of areas holds the finished pieces at its front and the stack at its back; marks have an area of their own.
use Prim.Native.Nat.{ℕ, ◌+◌, ◌-◌, ◌*◌, ◌≤◌, ◌<◌}
use mathlib.Core.List.{List}
use mathlib.Core.Path.{◌≡◌, refl, sym, ap, ap₂, ◌∙◌, subst}
use native.Mathlib.Omega.{arith}
use lib.Ieee.{Float, nan}
use lib.ListN.{length, get_or, set, take, drop, length-set}
use lib.Seq.{get_or-set_same}
use Rattle.whole.specs.Double.{sum_f64}
use Rattle.cut.specs.Cut.{Chosen, cut}
use Rattle.cut.specs.Order.{sizes_in, ids_in}
use Rattle.cut.specs.Tables.{Tabled}
use Rattle.cut.proofs.Answer.{NoCut}
use Rattle.settling.specs.Pieces.{pieces_of, mark_by}
use Rattle.settling.proofs.RangeStack.{top_of}
use Rattle.oversized.specs.Neighbours.{Neighbours}
use Rattle.oversized.specs.Cutting.{cutting_of, cut_within, Cutted}
use Rattle.oversized.proofs.Backwards.{backwards, length_backwards, at_backwards, set_backwards}
use Rattle.oversized.proofs.PartTabled.{part_answer}
use Rattle.oversized.proofs.Stored.{stored_past}
use Rattle.oversized.proofs.Turn.{Turn, turn_start, turn_above, turn_end, turn_below, turn_deep, turn_size, Answered, turn_taken}
use Rattle.oversized.proofs.Turn.{turn_middle, turn_space, turn_cut}

-- another way to write the stack
turn_as : {bytes offsets sizes : List ℕ} {minimum maximum : Float} {l : List ℕ} {depth depth' end count : ℕ} {starts : List ℕ} {pieces : List Float}
    {marks : List ℕ} {pending pending' : List ℕ} {totals totals' : List Float} → pending ≡ pending' → totals ≡ totals' → depth ≡ depth'
    → Turn bytes offsets sizes minimum maximum l pending totals depth end count starts pieces marks
    → Turn bytes offsets sizes minimum maximum l pending' totals' depth' end count starts pieces marks
turn_as {bytes} {offsets} {sizes} {minimum} {maximum} {l} {depth} {depth'} {end} {count} {starts} {pieces} {marks} {pending} {pending'} {totals} {totals'} p q r t =
    subst (λ (k : ℕ). Turn bytes offsets sizes minimum maximum l pending' totals' k end count starts pieces marks) r
    (subst (λ (x : List Float). Turn bytes offsets sizes minimum maximum l pending' x depth end count starts pieces marks) q
    (subst (λ (x : List ℕ). Turn bytes offsets sizes minimum maximum l x totals depth end count starts pieces marks) p t))

module _ {similar : List ℕ} {sums : List Float} {total : Float} (m : Neighbours similar sums total) (minimum maximum : Float) where
  abbrev n : ℕ
  n = length similar

  -- the stack holds as many parts as there are entries from `top` on
  abbrev pub Turning : List ℕ → List Float → List ℕ → ℕ → ℕ → ℕ → Type 0
  Turning starts pieces marks top end count =
      Turn m.bytes m.offsets m.sizes minimum maximum m.order (backwards 0 n starts) (backwards nan n pieces) (n - top) end count
      starts pieces marks

  pub area_start : (starts : List ℕ) (pieces : List Float) (marks : List ℕ) → 1 ≤ n → n ≤ length starts → n ≤ length pieces → n ≤ length marks
      → Turning (set starts (n - 1) 0) (set pieces (n - 1) total) marks (n - 1) n 0
  area_start starts pieces marks some r q k =
      let s : List ℕ = set starts (n - 1) 0 in
      let p : List Float = set pieces (n - 1) total in
      let all = m.compared.as_many in
      let back : n - 1 - 0 ≡ n - 1 = omega arith in
      let first : get_or (backwards 0 n s) 0 0 ≡ 0 =
      at_backwards 0 n s 0 some ∙ ap (λ (k : ℕ). get_or s k 0) back ∙ get_or-set_same starts (n - 1) 0 0 (omega arith) in
      let size : get_or (backwards nan n p) 0 nan ≡ total =
      at_backwards nan n p 0 some ∙ ap (λ (k : ℕ). get_or p k nan) back ∙ get_or-set_same pieces (n - 1) total nan (omega arith) in
      let t : Turn m.bytes m.offsets m.sizes minimum maximum m.order (backwards 0 n s) (backwards nan n p) 1 (length m.order) 0 s p marks =
      turn_start (omega arith) (omega (arith, length_backwards 0 n s)) (omega (arith, length_backwards nan n p))
      (omega (arith, length-set starts (n - 1) 0)) (omega (arith, length-set pieces (n - 1) total)) (omega arith) first (size ∙ m.whole) in
      let one : 1 ≡ n - (n - 1) = omega arith in
      turn_as refl refl one
      (subst (λ (k : ℕ). Turn m.bytes m.offsets m.sizes minimum maximum m.order (backwards 0 n s) (backwards nan n p) 1 k 0 s p marks) (sym all) t)

  module _ {starts : List ℕ} {pieces : List Float} {marks : List ℕ} {top end count : ℕ} (t : Turning starts pieces marks top end count) where
    pub area_done : n ≤ top
        → Cutted (cutting_of m.bytes m.offsets m.sizes minimum maximum)
        (pieces_of (cutting_of m.bytes m.offsets m.sizes minimum maximum) m.order) m.order m.sizes count starts pieces marks
    area_done h = turn_end t (omega arith)

    module _ (inside : top < n) where
      abbrev start : ℕ
      start = get_or starts top 0

      abbrev size : Float
      size = get_or pieces top nan

      pub some : 1 ≤ n - top
      some = omega arith

      here : n - 1 - (n - top - 1) ≡ top
      here = omega arith

      area_top : top_of (backwards 0 n starts) (n - top) ≡ start
      area_top = at_backwards 0 n starts (n - top - 1) (omega arith) ∙ ap (λ (k : ℕ). get_or starts k 0) here

      area_size : get_or (backwards nan n pieces) (n - top - 1) nan ≡ size
      area_size = at_backwards nan n pieces (n - top - 1) (omega arith) ∙ ap (λ (k : ℕ). get_or pieces k nan) here

      pub area_within : end ≤ n
      area_within = omega (arith, t.looking.within, m.compared.as_many)

      pub area_below : start < end
      area_below = rw area_top at (turn_below t some)

      pub area_deep : n - top ≤ end
      area_deep = turn_deep t some

      pub starts_room : n ≤ length starts
      starts_room = omega (arith, t.starts_room, m.compared.as_many)

      pub sizes_room : n ≤ length pieces
      sizes_room = omega (arith, t.sizes_room, m.compared.as_many)

      pub marks_room : n ≤ length marks
      marks_room = omega (arith, t.marks_room, m.compared.as_many)

      -- the finished pieces leave room for the stack
      pub area_room : count + end ≤ n
      area_room = omega (arith, t.stored.room, m.compared.as_many)

      -- the part that is looked at
      abbrev part : List ℕ
      part = take (end - start) (drop start m.order)

      its_size : size ≡ sum_f64 (sizes_in m.sizes part)
      its_size = sym area_size ∙ turn_size t some ∙ ap (λ (k : ℕ). sum_f64 (sizes_in m.sizes (take (end - k) (drop k m.order)))) area_top

      -- what is answered for the parts of the tables that are handed over
      pub area_answer : (answer : Chosen)
          → ((p : Tabled (take (end - start) (drop start similar)) (take (end - start) (drop start sums)) size)
          → answer ≡ cut_within p.ids p.sizes size minimum maximum)
          → Answered t some answer
      area_answer answer f =
          part_answer m start (end - start) (omega (arith, area_below, t.looking.within)) size minimum maximum its_size answer f
          ∙ sym (ap₂ (λ (k : ℕ) (x : Float). cut_within (ids_in m.bytes m.offsets (take (end - k) (drop k m.order)))
          (sizes_in m.sizes (take (end - k) (drop k m.order))) x minimum maximum) area_top area_size)

      -- ---- no cut

      pub area_taken : (answer : Chosen) → NoCut answer → Answered t some answer
          → Turning (set starts count start) (set pieces count size) (set marks count (mark_by maximum size answer)) (top + 1) start (count + 1)
      area_taken answer none q =
          let inside' : count < n = omega (arith, area_room, area_below) in
          let fewer : n - top - 1 ≡ n - (top + 1) = omega arith in
          let above : n - top - 1 ≤ n - 1 - count = omega (arith, area_room, area_deep) in
          let taken : Turn m.bytes m.offsets m.sizes minimum maximum m.order (backwards 0 n starts) (backwards nan n pieces)
          (n - top - 1) start (count + 1) (set starts count start) (set pieces count size) (set marks count (mark_by maximum size answer)) =
          rw (area_top, area_size) at (turn_taken t some answer none q) in
          turn_as
          (sym (set_backwards 0 n starts count start inside' starts_room))
          (sym (set_backwards nan n pieces count size inside' sizes_room))
          fewer
          (turn_above taken (n - 1 - count) start size above)

      pub area_taken_less : 2 * start - (n - (top + 1)) < 2 * end - (n - top)
      area_taken_less = omega (arith, area_below, area_deep)

      -- ---- a cut

      module _ (i : ℕ) (left right : Float) (q : Answered t some (cut i left right)) where
        pub area_middle : start + i < end
        area_middle = rw area_top at (turn_middle t some i left right q)

        -- there is room for the right piece before the left one
        pub area_space : n - top < end
        area_space = turn_space t some i left right q

        free : count ≤ top - 1
        free = omega (arith, area_space, area_room)

        stack_starts : set (backwards 0 n starts) (n - top) (start + i) ≡ backwards 0 n (set starts (top - 1) (start + i))
        stack_starts =
            let at : n - 1 - (top - 1) ≡ n - top = omega (arith, area_space, area_within) in
            sym (set_backwards 0 n starts (top - 1) (start + i) (omega arith) starts_room ∙ ap (λ (k : ℕ). set (backwards 0 n starts) k (start + i)) at)

        stack_sizes : set (set (backwards nan n pieces) (n - top - 1) left) (n - top) right ≡ backwards nan n (set (set pieces top left) (top - 1) right)
        stack_sizes =
            let at : n - 1 - (top - 1) ≡ n - top = omega (arith, area_space, area_within) in
            let below : n - 1 - top ≡ n - top - 1 = omega arith in
            let room : n ≤ length (set pieces top left) = rw length-set sizes_room in
            sym (set_backwards nan n (set pieces top left) (top - 1) right (omega arith) room
            ∙ ap₂ (λ (l : List Float) (k : ℕ). set l k right)
            (set_backwards nan n pieces top left inside sizes_room ∙ ap (λ (k : ℕ). set (backwards nan n pieces) k left) below) at)

        pub area_cut : Turning (set starts (top - 1) (start + i)) (set (set pieces top left) (top - 1) right) marks (top - 1) end count
        area_cut =
            let more : n - top + 1 ≡ n - (top - 1) = omega (arith, area_space, area_within) in
            let v : Turn m.bytes m.offsets m.sizes minimum maximum m.order (set (backwards 0 n starts) (n - top) (start + i))
            (set (set (backwards nan n pieces) (n - top - 1) left) (n - top) right) (n - top + 1) end count starts pieces marks =
            rw area_top at (turn_cut t some i left right q) in
            turn_as stack_starts stack_sizes more
            (record {
              found = v.found;
              looking = v.looking;
              stored =
                  stored_past (cutting_of m.bytes m.offsets m.sizes minimum maximum) m.sizes (length m.order) v.stored
                  (top - 1) (start + i) free top (top - 1) left right (omega (arith, free)) free;
              totalled = v.totalled;
              totals_length = v.totals_length;
              starts_room = rw length-set v.starts_room;
              sizes_room = simp length-set v.sizes_room;
              marks_room = v.marks_room;
            })

        pub area_cut_less : 2 * end - (n - (top - 1)) < 2 * end - (n - top)
        area_cut_less = omega (arith, area_space, area_within)
