-- Advances one after the other, and where the next one begins: the number of its first chunk and the place of that chunk's record are in bounds.
use Prim.Native.Nat.{ℕ, ◌+◌, ◌≤◌}
use mathlib.Core.List.Memᴰ
use mathlib.Core.List.{List, [], ◌∷◌, ◌++◌, foldl}
use mathlib.Core.Path.{◌≡◌, sym, subst}
use native.Mathlib.Omega.{arith}
use lib.ListN.{length}
use Rattle.lists.proofs.Sort.{none}
use Rattle.grouping.specs.Given.{Given}
use Rattle.grouping.specs.Tree.{tree_of, places_of}
use Rattle.grouping.specs.Item.{Item}
use Rattle.grouping.specs.ChunkList.{Chunk}
use Rattle.grouping_laws.proofs.SetPlaces.{Placed}
use Rattle.settling.specs.Modules.{Passed}
use Rattle.settling.specs.Settled.{settled}
use Rattle.settling.proofs.LoopSteps.{item_more}
use Rattle.emitting.specs.Emitted.{Work, SameLengths}
use Rattle.running.specs.State.{State, Advance, Begun}
use Rattle.running.proofs.Tests.{few_modules}
use Rattle.running.proofs.StateLeft.{left_room, state_lengths}

module _ {b : Given} {start : ℕ} where
  -- ---- one after the other

  pub advance_none : {number at : ℕ} {now : Work} → Advance b start (λ chunks. chunks) number at 0 now now
  advance_none = record { step = λ before chunks state numbered placed. (state, omega arith) }

  pub advance_same : {f g : List Chunk → List Chunk} {number at count : ℕ} {u v : Work} → ((chunks : List Chunk) → f chunks ≡ g chunks)
      → Advance b start f number at count u v → Advance b start g number at count u v
  advance_same {f} {g} {number} {at} {count} {u} {v} e p = record { step = step }
    where
      step : (before : Work) (chunks : List Chunk) → State b start chunks before u → number ≡ b.on_entry + length chunks → at ≡ start + length chunks
          → State b start (g chunks) before v × (length (g chunks) ≡ length chunks + count)
      step before chunks state numbered placed =
          subst (λ (l : List Chunk). State b start l before v × (length l ≡ length chunks + count)) (e chunks) (p.step before chunks state numbered placed)

  pub advance_then : {f g : List Chunk → List Chunk} {number at m n : ℕ} {u v w : Work} → Advance b start f number at m u v
      → Advance b start g (number + m) (at + m) n v w → Advance b start (λ chunks. g (f chunks)) number at (m + n) u w
  advance_then {f} {g} {number} {at} {m} {n} {u} {v} {w} p q = record { step = step }
    where
      step : (before : Work) (chunks : List Chunk) → State b start chunks before u → number ≡ b.on_entry + length chunks → at ≡ start + length chunks
          → State b start (g (f chunks)) before w × (length (g (f chunks)) ≡ length chunks + (m + n))
      step before chunks state numbered placed =
          let one = p.step before chunks state numbered placed in
          let two = q.step before (f chunks) one.0 (omega (arith, one.1)) (omega (arith, one.1)) in
          (two.0, omega (arith, one.1, two.1))

  -- one item more
  pub advance_item : (l : List Item) (i : Item) {number at m n : ℕ} {u v w : Work}
      → Advance b start (λ chunks. foldl (settled (tree_of b)) chunks l) number at m u v
      → Advance b start (λ chunks. settled (tree_of b) chunks i) (number + m) (at + m) n v w
      → Advance b start (λ chunks. foldl (settled (tree_of b)) chunks (l ++ (i ∷ []))) number at (m + n) u w
  advance_item l i p q = advance_same (λ chunks. sym (item_more (tree_of b) chunks l i)) (advance_then p q)

  pub begun_next : {f : List Chunk → List Chunk} {number at count : ℕ} {u v : Work} → Begun b start number at u → Advance b start f number at count u v
      → Begun b start (number + count) (at + count) v
  begun_next {f} begun advance =
      let s = advance.step begun.before begun.chunks begun.state begun.numbered begun.placed in
      record {
        before = begun.before;
        chunks = f begun.chunks;
        state = s.0;
        numbered = omega (arith, s.1, begun.numbered);
        placed = omega (arith, s.1, begun.placed);
      }

  -- ---- bounds

  module _ {number at : ℕ} {now : Work} (passed : Passed b) (begun : Begun b start number at now) where
    nowhere : Placed (length (places_of b)) []
    nowhere = record { ascend = none; below = λ p m. absurd (Memᴰ.not-nil m) }

    few_chunks : length begun.chunks ≤ b.shared.n
    few_chunks = omega (arith, left_room b passed start begun.chunks begun.before now begun.state [] nowhere)

    pub begun_number : number ≤ b.on_entry + 4096
    begun_number = omega (arith, few_chunks, few_modules b passed, begun.numbered)

    pub begun_place : at ≤ length now.group_of
    begun_place =
        let same : SameLengths now begun.before = state_lengths b passed start begun.chunks begun.before now begun.state [] nowhere in
        omega (arith, few_chunks, begun.placed, begun.state.room.groups, same.group_of)
