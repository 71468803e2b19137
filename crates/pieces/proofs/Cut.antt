-- Modules in id order that are cut: where the pieces begin are parts that can be emitted, and the chunks are those of the pieces.
use Prim.Native.Nat.{ℕ, ◌+◌, ◌^◌, ◌≤◌, ◌<◌}
use mathlib.Core.List.{List, map}
use mathlib.Core.Path.{◌≡◌, sym, ap, ap₂, ◌∙◌}
use native.Mathlib.Numerals.{add-one}
use native.Mathlib.Omega.{arith}
use lib.Ieee.{Float}
use lib.ListN.{length, take, length-map, length-take}
use Rattle.settling.specs.Pieces.{Cutting, pieces_of, mark_in}
use Rattle.settling.proofs.PieceParts.{pieces_join, pieces_count}
use Rattle.oversized.specs.Cutting.{cutting_of, sizes_of, Cutted}
use Rattle.emitting.specs.Emitted.{Work, Emission, with_chunks, parts_from, emissions, Parts}
use Rattle.emitting.specs.declared.emit.Head.{Head}
use Rattle.pieces.specs.Chunks.{chunk_of, chunks_of, PiecesReady, Converted}
use Rattle.pieces.proofs.PartsBack.{parts_back, starts_length, starts_within, starts_fall, pieces_emitted, sizes_length}

module _ {bytes offsets sizes order : List ℕ} {total : Float} {bits : List ℕ} {w : Work} {number at : ℕ}
    (r : PiecesReady bytes offsets sizes order total bits w number at) (minimum maximum : Float) {count : ℕ} {starts : List ℕ} {totals : List Float}
    {marks : List ℕ}
    (cutted : Cutted (cutting_of bytes offsets sizes minimum maximum) (pieces_of (cutting_of bytes offsets sizes minimum maximum) order)
    order sizes count starts totals marks) where
  abbrev c : Cutting
  c = cutting_of bytes offsets sizes minimum maximum

  abbrev ps : List (List ℕ)
  ps = pieces_of c order

  -- at most as many pieces as modules
  pub pieces_few : count ≤ length order
  pieces_few = omega (arith, cutted.number, pieces_count c order r.pending.some)

  starts_many : length (take count starts) ≡ length ps
  starts_many = ap length cutted.begins ∙ starts_length (length order) ps

  totals_many : length (take count totals) ≡ length ps
  totals_many = ap length cutted.sized ∙ sizes_length sizes ps

  marks_many : length (take count marks) ≡ length ps
  marks_many = ap length cutted.marked ∙ length-map ps (mark_in c)

  -- so all three areas have room for them
  pub in_starts : count ≤ length starts
  in_starts = omega (arith, starts_many, cutted.number, length-take count starts)

  pub in_totals : count ≤ length totals
  in_totals = omega (arith, totals_many, cutted.number, length-take count totals)

  pub in_marks : count ≤ length marks
  in_marks = omega (arith, marks_many, cutted.number, length-take count marks)

  pub pieces_parts : Parts bits order (take count starts) (take count totals) (take count marks) w at
  pieces_parts =
      record {
        same_count = starts_many ∙ sym totals_many;
        same_marks = starts_many ∙ sym marks_many;
        first_in = λ i h. rw cutted.begins (starts_within (length order) ps i);
        fall = λ i h. rw (cutted.begins, add-one i) (starts_fall (length order) ps i);
        room = λ j h. r.room j (omega (arith, starts_many, cutted.number, pieces_few));
      }

  pub pieces_numbers : number + length (take count starts) < 2 ^ 32
  pieces_numbers = omega (arith, starts_many, cutted.number, pieces_few, r.numbers)

  chunks : (head : Head) → emissions head (parts_from order (length order) (take count starts)) (take count totals) (take count marks)
      ≡ chunks_of bytes offsets sizes head minimum maximum order
  chunks head =
      ap₂ (λ (s : List ℕ) (z : List Float). emissions head (parts_from order (length order) s) z (take count marks)) cutted.begins cutted.sized
      ∙ ap₂ (λ (qs : List (List ℕ)) (l : List ℕ). emissions head qs (sizes_of sizes ps) l) (parts_back ps order (pieces_join c order)) cutted.marked
      ∙ pieces_emitted sizes head (mark_in c) ps

  pub pieces_converted : (head : Head) {after : Work}
      → after ≡ with_chunks bits number at (emissions head (parts_from order (length order) (take count starts)) (take count totals) (take count marks)) w
      → Converted (chunks_of bytes offsets sizes head minimum maximum order) bits number at count w after
  pieces_converted head a =
      record {
        made = cutted.number ∙ sym (length-map ps (λ p. chunk_of sizes head (mark_in c p) p));
        areas = a ∙ ap (λ (es : List Emission). with_chunks bits number at es w) (chunks head);
      }
