-- The loop over the parts of a list: the areas so far, continued with the parts to come, are the areas after all parts.
use Prim.Native.Nat.{ℕ, suc, ◌+◌, ◌-◌, ◌≤◌, ◌<◌}
use mathlib.Core.List.{List, [], ◌∷◌}
use mathlib.Core.Path.{◌≡◌, refl, sym, ap, ◌∙◌}
use native.Mathlib.Nat.{add-zero}
use native.Mathlib.Numerals.{add-one}
use native.Mathlib.Omega.{arith}
use lib.Ieee.{Float}
use lib.ListN.{length, get_or, take, drop, drop_of_length-le}
use lib.Seq.{drop-cons}
use Rattle.emitting.specs.Emitted.{Work, Emission, Room, Parts, with_chunk, with_chunks, parts_from, emissions, SameLengths}
use Rattle.emitting.specs.declared.emit.Head.{Head}
use Rattle.emitting.proofs.Chunk.{same_lengths, lengths_kept, room_kept, room_part}

-- the part of a list from start to end, as a chunk
abbrev pub part_of : Head → List ℕ → ℕ → ℕ → Float → ℕ → Emission
part_of head members start end size mark = record { head = head; modules = take (end - start) (drop start members); size = size; mark = mark }

-- the areas after the parts from the j-th on, the first of which ends at `end`
abbrev pub continued : Head → List ℕ → List ℕ → List Float → List ℕ → List ℕ → ℕ → ℕ → ℕ → ℕ → Work → Work
continued head members starts sizes marks bits number at end j w =
    with_chunks bits (number + j) (at + j) (emissions head (parts_from members end (drop j starts)) (drop j sizes) (drop j marks)) w

-- the areas after j parts; w₀ are those at the start
pub record Emitted (head : Head) (members starts : List ℕ) (sizes : List Float) (marks bits : List ℕ) (number at : ℕ) (w₀ w : Work) (end j : ℕ) : Type 0 where
  pub same : continued head members starts sizes marks bits number at end j w
      ≡ with_chunks bits number at (emissions head (parts_from members (length members) starts) sizes marks) w₀
  pub lengths : SameLengths w w₀
  pub turn : j ≤ length starts
  pub within : end ≤ length members
  pub next : j < length starts → get_or starts j 0 ≤ end

module _ (head : Head) (members starts : List ℕ) (sizes : List Float) (marks bits : List ℕ) (number at : ℕ) (w₀ : Work)
    (p : Parts bits members starts sizes marks w₀ at) where
  pub none_emitted : Emitted head members starts sizes marks bits number at w₀ w₀ (length members) 0
  none_emitted = record {
    same = rw (add-zero number, add-zero at);
    lengths = same_lengths w₀;
    turn = omega arith;
    within = omega arith;
    next = λ h. p.first_in 0 h;
  }

  module _ (w : Work) (end j : ℕ) (l : Emitted head members starts sizes marks bits number at w₀ w end j) where
    -- the next part has room
    pub part_room : j < length starts → Room bits (take (end - get_or starts j 0) (drop (get_or starts j 0) members)) w (at + j)
    part_room h = room_part (get_or starts j 0) end l.within l.lengths (p.room j h)

    -- the parts from the j-th on are the j-th and those after it
    parts_more : (d : Float) (e : ℕ) → j < length starts
        → emissions head (parts_from members end (drop j starts)) (drop j sizes) (drop j marks)
        ≡ part_of head members (get_or starts j 0) end (get_or sizes j d) (get_or marks j e)
        ∷ emissions head (parts_from members (get_or starts j 0) (drop (j + 1) starts)) (drop (j + 1) sizes) (drop (j + 1) marks)
    unfolding emissions parts_from
    parts_more d e h =
        let k : j < length sizes = omega (arith, p.same_count) in
        let m : j < length marks = omega (arith, p.same_marks) in
        rw (drop-cons starts j 0 h, drop-cons sizes j d k, drop-cons marks j e m, add-one j)

    pub one_emitted : (d : Float) (n : ℕ) {v : Work} → j < length starts
        → v ≡ with_chunk bits (number + j) (at + j) (part_of head members (get_or starts j 0) end (get_or sizes j d) (get_or marks j n)) w
        → Emitted head members starts sizes marks bits number at w₀ v (get_or starts j 0) (j + 1)
    unfolding with_chunks
    one_emitted d n {v} h e =
        let start = get_or starts j 0 in
        let rest = emissions head (parts_from members start (drop (j + 1) starts)) (drop (j + 1) sizes) (drop (j + 1) marks) in
        let b : number + (j + 1) ≡ suc (number + j) = omega arith in
        let a : at + (j + 1) ≡ suc (at + j) = omega arith in
        let kept = room_kept bits (number + j) (at + j) (part_of head members start end (get_or sizes j d) (get_or marks j n)) w (part_room h).words in
        record {
          same =
              ap (λ x. with_chunks bits x (at + (j + 1)) rest v) b
              ∙ ap (λ x. with_chunks bits (suc (number + j)) x rest v) a
              ∙ ap (with_chunks bits (suc (number + j)) (suc (at + j)) rest) e
              ∙ sym (ap (λ es. with_chunks bits (number + j) (at + j) es w) (parts_more d n h))
              ∙ l.same;
          lengths = rw e (lengths_kept kept l.lengths);
          turn = omega arith;
          within = p.first_in j h;
          next = λ k. p.fall j k;
        }

    pub all_emitted : length starts ≤ j → w ≡ with_chunks bits number at (emissions head (parts_from members (length members) starts) sizes marks) w₀
    unfolding with_chunks emissions parts_from
    all_emitted h =
        let none : emissions head (parts_from members end (drop j starts)) (drop j sizes) (drop j marks) ≡ [] = rw (drop_of_length-le starts h) refl in
        sym (ap (λ es. with_chunks bits (number + j) (at + j) es w) none) ∙ l.same
