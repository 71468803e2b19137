-- An item that is emitted whole: there is room for its chunk, and it is the only one. Which of the two ways an item goes by its maximum.
use Prim.Native.Nat.{ℕ, ◌+◌, ◌^◌, ◌≤◌, ◌<◌}
use mathlib.Core.Bool.{Bool}
use mathlib.Core.List.{List, [], ◌∷◌}
use mathlib.Core.Path.{◌≡◌, sym, ap, ◌∙◌, subst}
use native.Mathlib.Nat.{add-zero}
use native.Mathlib.Omega.{arith}
use lib.Ieee.{Float}
use lib.ListN.{length}
use Rattle.std.specs.Prelude.{Option}
use Rattle.whole.specs.Double.{sum_f64}
use Rattle.cut.specs.Order.{sizes_in}
use Rattle.emitting.specs.Emitted.{Work, Emission, with_chunk, with_chunks, Room}
use Rattle.emitting.specs.declared.emit.Head.{Head}
use Rattle.pieces.specs.Chunks.{chunk_of, Converted}
use Rattle.items.specs.Turn.{Tables, over_limit, emitted_over, emitted_within, ItemReady}

module _ {t : Tables} {bits modules : List ℕ} {w : Work} {number at : ℕ} (r : ItemReady t bits modules w number at) (some : 1 ≤ length modules) where
  pub whole_room : Room bits modules w at
  whole_room = subst (λ (n : ℕ). Room bits modules w n) (add-zero at) (r.room 0 some)

  pub whole_number : number + 1 < 2 ^ 32
  whole_number = omega (arith, r.numbers)

module _ (t : Tables) (modules : List ℕ) {total : Float} (total-is : total ≡ sum_f64 (sizes_in t.sizes modules)) where
  -- one chunk of all the modules
  pub whole_converted : {bits : List ℕ} {number at : ℕ} {head : Head} {before after : Work} {es : List Emission} → es ≡ chunk_of t.sizes head 0 modules ∷ []
      → after ≡ with_chunk bits number at (record { head = head; modules = modules; size = total; mark = 0 }) before
      → Converted es bits number at 1 before after
  unfolding with_chunks
  whole_converted {bits} {number} {at} {head} {before} e a =
      record {
        made = sym (ap length e);
        areas =
            a
            ∙ ap (λ (s : Float). with_chunk bits number at (record { head = head; modules = modules; size = s; mark = 0 }) before) total-is
            ∙ sym (ap (λ (es : List Emission). with_chunks bits number at es before) e);
      }

  -- by the maximum that the total is above, if it is
  pub emitted_by_lem : (maximum : Option Float) (head : Head) (minimum : Float) {over : Option Float} → over_limit maximum total ≡ over
      → emitted_within maximum t head minimum modules ≡ emitted_over over t head minimum modules
  emitted_by_lem maximum head minimum e =
      ap (λ (l : Option Float). emitted_over l t head minimum modules) (sym (ap (over_limit maximum) total-is) ∙ e)

-- a head that is made anew of what it has
abbrev pub anew_head : Head → Bool → Head
anew_head head aware = record { group = head.group; name = head.name; entries_aware = aware; bits = head.bits }

pub same_head : (head : Head) {aware : Bool} → head.entries_aware ≡ aware → anew_head head aware ≡ head
same_head head e = ap (anew_head head) (sym e)

-- chunks that are the same
pub same_converted : {es fs : List Emission} {bits : List ℕ} {number at count : ℕ} {before after : Work} → fs ≡ es
    → Converted es bits number at count before after → Converted fs bits number at count before after
same_converted {bits = bits} {number = number} {at = at} {before = before} e c =
    record { made = c.made ∙ sym (ap length e); areas = c.areas ∙ sym (ap (λ (es : List Emission). with_chunks bits number at es before) e) }
