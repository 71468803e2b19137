-- What holds on each turn of the loop that cuts modules in id order into pieces, and that one look keeps it: the part on top is finished or cut.
use Prim.Native.Nat.{ℕ, ◌+◌, ◌-◌, ◌≤◌, ◌<◌}
use mathlib.Core.Bool.{Bool, true, false, cond}
use mathlib.Core.List.{List, [], ◌∷◌, ◌++◌, map}
use mathlib.Core.Path.{◌≡◌, refl, sym, ap, ap₂, ◌∙◌, subst}
use native.Mathlib.Nat.{add-zero}
use native.Mathlib.Omega.{arith}
use lib.Ieee.{Float, nan}
use lib.ListN.{length, get_or, set, take, drop, length-set}
use lib.Seq.{slice, length-slice, drop-drop}
use Rattle.lists.proofs.Parts.{slice_part, slice_slice, map_take, map_drop}
use Rattle.whole.specs.Double.{sum_f64}
use Rattle.cut.specs.Cut.{Chosen, none_allowed, cut}
use Rattle.cut.specs.Order.{sizes_in, ids_in}
use Rattle.cut.proofs.Answer.{NoCut, there_is_a_cut}
use Rattle.settling.specs.Pieces.{Cutting, cut_in, pieces_of, why_whole, mark_by, mark_in}
use Rattle.settling.proofs.PieceBound.{too_large}
use Rattle.settling.proofs.RangeStack.{top_of, pending_set, rises_set}
use Rattle.settling.proofs.RangePieces.{Looking, top_part, looking_start, looking_end, top_below, top_deep, looking_small, looking_uncut}
use Rattle.settling.proofs.RangePieces.{cut_from_one, cut_below, looking_cut}
use Rattle.oversized.specs.Cutting.{cutting_of, cut_within, Cutted, starts_from, sizes_of}
use Rattle.oversized.proofs.Stored.{Stored, none_stored, one_stored}
use Rattle.oversized.proofs.Totals.{Totalled, starts_set, totals_set, totalled_start, totalled_top, totalled_cut}

-- what one look at a part answers
abbrev chosen_in : Cutting → List ℕ → Chosen
chosen_in c l = cond (too_large c l) (cut_in c l) none_allowed

a_cut : (c : Cutting) (l : List ℕ) (i : ℕ) (left right : Float) → chosen_in c l ≡ cut i left right → (too_large c l ≡ true) × (cut_in c l ≡ cut i left right)
a_cut c l i left right q = go (too_large c l) refl q
  where
    go : (b : Bool) → too_large c l ≡ b → cond b (cut_in c l) none_allowed ≡ cut i left right → (too_large c l ≡ true) × (cut_in c l ≡ cut i left right)
    go true e r = (e, r)
    go false e r = absurd (let z : ◌≡◌ {A = ℕ} 0 1 = cc in omega arith)

-- a part that isn't cut has the mark of its size and of that answer
its_mark : (c : Cutting) (l : List ℕ) (size : Float) → size ≡ sum_f64 (map c.size l) → mark_by c.maximum size (chosen_in c l) ≡ mark_in c l
its_mark c l size e = ap (λ (x : Float). mark_by c.maximum x (chosen_in c l)) e ∙ go (too_large c l)
  where
    go : (b : Bool) → cond b (why_whole (cond b (cut_in c l) none_allowed)) 0 ≡ cond b (why_whole (cut_in c l)) 0
    go true = refl
    go false = refl

-- a stack of starts with the sizes of their parts, and the finished pieces in three areas
pub record Turn (bytes offsets sizes : List ℕ) (minimum maximum : Float) (l : List ℕ) (pending : List ℕ) (totals : List Float) (depth end count : ℕ)
    (starts : List ℕ) (pieces : List Float) (marks : List ℕ) : Type 0 where
  pub found : List (List ℕ)
  pub looking : Looking (cutting_of bytes offsets sizes minimum maximum) l pending end depth found
  pub stored : Stored (cutting_of bytes offsets sizes minimum maximum) sizes (length l) found end count starts pieces marks
  pub totalled : Totalled sizes l nan pending totals end depth
  pub totals_length : length l ≤ length totals
  pub starts_room : length l ≤ length starts
  pub sizes_room : length l ≤ length pieces
  pub marks_room : length l ≤ length marks

pub turn_start : {bytes offsets sizes : List ℕ} {minimum maximum : Float} {l pending : List ℕ} {totals : List Float} {starts : List ℕ} {pieces : List Float}
    {marks : List ℕ}
    → 1 ≤ length l → length l ≤ length pending → length l ≤ length totals → length l ≤ length starts → length l ≤ length pieces → length l ≤ length marks
    → get_or pending 0 0 ≡ 0 → get_or totals 0 nan ≡ sum_f64 (sizes_in sizes l)
    → Turn bytes offsets sizes minimum maximum l pending totals 1 (length l) 0 starts pieces marks
turn_start {bytes} {offsets} {sizes} {minimum} {maximum} {l} {pending} {totals} {starts} {pieces} {marks} some m n r q k e t =
    record {
      found = [];
      looking = looking_start (cutting_of bytes offsets sizes minimum maximum) l pending e some m;
      stored = none_stored (cutting_of bytes offsets sizes minimum maximum) sizes (length l) starts pieces marks;
      totalled = totalled_start sizes l nan pending totals e t;
      totals_length = n;
      starts_room = r;
      sizes_room = q;
      marks_room = k;
    }

module _ {bytes offsets sizes : List ℕ} {minimum maximum : Float} {l pending : List ℕ} {totals : List Float} {depth end count : ℕ} {starts : List ℕ}
    {pieces : List Float} {marks : List ℕ} (t : Turn bytes offsets sizes minimum maximum l pending totals depth end count starts pieces marks) where
  abbrev c : Cutting
  c = cutting_of bytes offsets sizes minimum maximum

  -- what stands above the stack doesn't matter
  pub turn_above : (k v : ℕ) (x : Float) → depth ≤ k
      → Turn bytes offsets sizes minimum maximum l (set pending k v) (set totals k x) depth end count starts pieces marks
  turn_above k v x h =
      let q = t.looking in
      record {
        found = t.found;
        looking =
            record {
              pieces = rw (pending_set v k l pending end depth h) q.pieces;
              rises = rises_set v k pending end depth h q.rises;
              within = q.within;
              room = rw length-set q.room;
            };
        stored = t.stored;
        totalled = totals_set sizes l nan x k (set pending k v) totals end depth h (starts_set sizes l nan v k pending totals end depth h t.totalled);
        totals_length = rw length-set t.totals_length;
        starts_room = t.starts_room;
        sizes_room = t.sizes_room;
        marks_room = t.marks_room;
      }

  -- the stack is empty
  pub turn_end : depth ≡ 0 → Cutted c (pieces_of c l) l sizes count starts pieces marks
  turn_end e =
      let done : t.found ≡ pieces_of c l = looking_end c l pending end t.found (rw e at t.looking) in
      let s = t.stored in
      record {
        number = s.number ∙ ap length done;
        begins = s.begins ∙ ap (starts_from (length l)) done;
        sized = s.sized ∙ ap (sizes_of sizes) done;
        marked = s.marked ∙ ap (map (mark_in c)) done;
      }

  module _ (some : 1 ≤ depth) where
    abbrev top : ℕ
    top = top_of pending depth

    -- the part that is looked at, as the code reads it
    abbrev part : List ℕ
    part = take (end - top) (drop top l)

    pub turn_below : top < end
    turn_below = top_below c l pending end depth t.found some t.looking

    pub turn_deep : depth ≤ end
    turn_deep = omega (arith, turn_below, top_deep c l pending end depth t.found some t.looking)

    on_top : get_or totals (depth - 1) nan ≡ sum_f64 (sizes_in sizes (top_part l pending end depth))
    on_top = (totalled_top sizes l nan pending totals end depth some t.totalled).0

    -- its size stands beside its start
    pub turn_size : get_or totals (depth - 1) nan ≡ sum_f64 (sizes_in sizes part)
    turn_size = on_top ∙ ap (λ (k : List ℕ). sum_f64 (sizes_in sizes k)) (slice_part top end l)

    -- the answer of a look at it
    abbrev pub Answered : Chosen → Type 0
    Answered answer = answer ≡ cut_within (ids_in bytes offsets part) (sizes_in sizes part) (get_or totals (depth - 1) nan) minimum maximum

    chosen : {answer : Chosen} → Answered answer → answer ≡ chosen_in c (top_part l pending end depth)
    chosen a =
        a
        ∙ ap₂ (λ (k : List ℕ) (x : Float). cut_within (ids_in bytes offsets k) (sizes_in sizes k) x minimum maximum) (sym (slice_part top end l)) on_top

    -- ---- no cut

    uncut : (answer : Chosen) → NoCut answer → answer ≡ chosen_in c (top_part l pending end depth)
        → Looking c l pending top (depth - 1) (t.found ++ (top_part l pending end depth ∷ []))
    uncut answer none q = go (too_large c (top_part l pending end depth)) refl q
      where
        go : (b : Bool) → too_large c (top_part l pending end depth) ≡ b → answer ≡ cond b (cut_in c (top_part l pending end depth)) none_allowed
            → Looking c l pending top (depth - 1) (t.found ++ (top_part l pending end depth ∷ []))
        go true e r = looking_uncut c l pending end depth t.found some t.looking (subst NoCut r none)
        go false e r = looking_small c l pending end depth t.found some t.looking e

    pub turn_taken : (answer : Chosen) → NoCut answer → Answered answer
        → Turn bytes offsets sizes minimum maximum l pending totals (depth - 1) top (count + 1)
        (set starts count top) (set pieces count (get_or totals (depth - 1) nan)) (set marks count (mark_by maximum (get_or totals (depth - 1) nan) answer))
    turn_taken answer none q =
        let s = t.stored in
        let size : Float = get_or totals (depth - 1) nan in
        let long : length (top_part l pending end depth) ≡ end - top = length-slice top end l t.looking.within in
        record {
          found = t.found ++ (top_part l pending end depth ∷ []);
          looking = uncut answer none (chosen q);
          stored =
              one_stored c sizes (length l) t.found end count starts pieces marks s (top_part l pending end depth) top size (mark_by maximum size answer)
              (omega (arith, turn_below)) on_top
              (ap (mark_by maximum size) (chosen q) ∙ its_mark c (top_part l pending end depth) size on_top) turn_below
              (omega (arith, turn_below, s.room, t.starts_room)) (omega (arith, turn_below, s.room, t.sizes_room))
              (omega (arith, turn_below, s.room, t.marks_room));
          totalled = (totalled_top sizes l nan pending totals end depth some t.totalled).1;
          totals_length = t.totals_length;
          starts_room = rw length-set t.starts_room;
          sizes_room = rw length-set t.sizes_room;
          marks_room = rw length-set t.marks_room;
        }

    -- ---- a cut

    module _ (i : ℕ) (left right : Float) (q : Answered (cut i left right)) where
      here : (too_large c (top_part l pending end depth) ≡ true) × (cut_in c (top_part l pending end depth) ≡ cut i left right)
      here = a_cut c (top_part l pending end depth) i left right (sym (chosen q))

      pub turn_middle : top + i < end
      turn_middle = cut_below c l pending end depth t.found some t.looking i left right here.1

      pub turn_space : depth < end
      turn_space =
          let from_one = cut_from_one c l pending end depth t.found some t.looking i left right here.1 in
          omega (arith, turn_middle, from_one, top_deep c l pending end depth t.found some t.looking)

      on_left : left ≡ sum_f64 (sizes_in sizes (slice top (top + i) l))
      on_left =
          (there_is_a_cut _ _ minimum maximum i left right here.1).left
          ∙ ap sum_f64 (sym (map_take (λ k. get_or sizes k 0) i (top_part l pending end depth)))
          ∙ ap (λ (k : List ℕ). sum_f64 (sizes_in sizes k)) (slice_slice top end 0 i l (omega (arith, turn_middle)))
          ∙ ap (λ (n : ℕ). sum_f64 (sizes_in sizes (slice n (top + i) l))) (add-zero top)

      on_right : right ≡ sum_f64 (sizes_in sizes (slice (top + i) end l))
      on_right =
          (there_is_a_cut _ _ minimum maximum i left right here.1).right
          ∙ ap sum_f64 (sym (map_drop (λ k. get_or sizes k 0) i (top_part l pending end depth)))
          ∙ ap (λ (k : List ℕ). sum_f64 (sizes_in sizes k)) (drop-drop i top (take end l))

      pub turn_cut : Turn bytes offsets sizes minimum maximum l (set pending depth (top + i)) (set (set totals (depth - 1) left) depth right)
          (depth + 1) end count starts pieces marks
      turn_cut =
          record {
            found = t.found;
            looking = looking_cut c l pending end depth t.found some t.looking i left right here.1 here.0;
            stored = t.stored;
            totalled =
                totalled_cut sizes l nan pending totals end depth (top + i) left right some
                (omega (arith, turn_space, t.looking.within, t.looking.room)) (omega (arith, turn_space, t.looking.within, t.totals_length))
                on_left on_right t.totalled;
            totals_length = simp length-set t.totals_length;
            starts_room = t.starts_room;
            sizes_room = t.sizes_room;
            marks_room = t.marks_room;
          }
