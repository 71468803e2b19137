-- The tables that a merge in place leaves are the state that the definition ends in.
use Rattle.std.proofs.Common.{◌≡◌, ℕ, Bool, true, false, ◌&&◌, ltb, List, length, sym, refl, ap, ◌∙◌}
use lib.Ieee.{Float, lt}
use Rattle.lists.specs.Range.{range}
use Rattle.lists.proofs.Range.{length_range}
use Rattle.whole.specs.Double.{to_f64}
use Rattle.merge.specs.Merge.{merge_steps}
use Rattle.merge.specs.Tables.{start, merge_of, Mergeable}
use Rattle.merge.specs.Engine.{state_of, Sound, Final}
use Rattle.merge.proofs.Ending.{final_of}
use Rattle.merge.proofs.Keeping.{reached}
use Rattle.merge.proofs.Starting.{tested, start_state, start_sound}

module _ (numbers sizes bits : List ℕ) (tables : Mergeable numbers sizes bits) (threshold : Float) where
  abbrev first : List ℕ
  first = range 0 (length numbers)

  -- some tables in that state
  record Reached : Type 0 where
    n : List ℕ
    z : List ℕ
    b : List ℕ
    count : length n ≡ length numbers
    state : state_of n z b ≡ merge_of (length numbers) sizes bits threshold
    sound : Sound n z b

  tables_reached : Reached
  tables_reached = go (lt (to_f64 0) threshold && ltb 1 (length numbers)) refl
    where
      begin : state_of first sizes bits ≡ start (length numbers) sizes bits
      begin = start_state numbers sizes bits tables first refl

      sound₀ : Sound first sizes bits
      sound₀ = start_sound numbers sizes bits tables first refl

      go : (b : Bool) → (lt (to_f64 0) threshold && ltb 1 (length numbers)) ≡ b → Reached
      go true e =
          let r = reached threshold (length numbers) first sizes bits sound₀ in
          record {
            n = r.numbers;
            z = r.sizes;
            b = r.bits;
            count = r.keeps.count ∙ length_range 0 (length numbers);
            state = r.state ∙ ap (merge_steps (length numbers) threshold) begin ∙ sym (tested (length numbers) sizes bits threshold true e);
            sound = r.sound;
          }
      go false e = record {
        n = first;
        z = sizes;
        b = bits;
        count = length_range 0 (length numbers);
        state = begin ∙ sym (tested (length numbers) sizes bits threshold false e);
        sound = sound₀;
      }

  pub final_state : (n z b : List ℕ) → Final (length numbers) (merge_of (length numbers) sizes bits threshold) n z b
      → state_of n z b ≡ merge_of (length numbers) sizes bits threshold
  final_state n z b f =
      let r = tables_reached in
      let m = merge_of (length numbers) sizes bits threshold in
      let g : Final (length numbers) m r.n r.z r.b = final_of (length numbers) m r.n r.z r.b r.count r.state r.sound in
      let same-n : n ≡ r.n = f.final_numbers ∙ sym g.final_numbers in
      let same-z : z ≡ r.z = f.final_sizes ∙ sym g.final_sizes in
      let same-b : b ≡ r.b = f.final_bits ∙ sym g.final_bits in
      rw (same-n, same-z, same-b) r.state
