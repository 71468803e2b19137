-- A loop that marks the records of a chain up to one that is marked: what is left to mark from record r on is what was to be marked from the
-- chain's first record on, and the records left get fewer.
use Prim.Native.Nat.{ℕ, ◌≤◌, ◌<◌}
use mathlib.Core.Bool.{true}
use mathlib.Core.List.{List, ◌∷◌}
use mathlib.Core.Path.{◌≡◌, refl, ap, ◌∙◌}
use native.Mathlib.Omega.{arith}
use lib.ListN.{length, get_or, set, length-set}
use Rattle.records.specs.Chain.{chain_from, ended}
use Rattle.records.specs.Marks.{ChainMarks}
use Rattle.lists.specs.Stored.{stored}
use Rattle.records.proofs.Chain.{chain_rest, rest_ended}
use Rattle.records.proofs.ChainMarks.{unmarked_some, marks_next, marks_from, rest_marked}
use Rattle.lists.proofs.Stored.{stored_same}

-- from record r₀ the loop has come to record r
pub record Marking (next : List ℕ) (d : ℕ) (marks₀ : List ℕ) (r₀ : ℕ) (marks : List ℕ) (r : ℕ) : Type 0 where
  pub marked : ChainMarks next d marks r
  pub record_in : r ≤ d
  pub ends : ended next d r ≡ true
  pub same : stored 1 (chain_from next d r₀) marks₀ ≡ stored 1 (chain_from next d r) marks
  pub same_length : length marks ≡ length marks₀

module _ (next : List ℕ) (d : ℕ) (next_in : (r : ℕ) → 1 ≤ r → r ≤ d → get_or next r 0 ≤ d) where
  pub marking_begins : (marks : List ℕ) (r : ℕ) → ChainMarks next d marks 0 → r ≤ d → ended next d r ≡ true → Marking next d marks r marks r
  marking_begins marks r p h e =
      record { marked = marks_from next d marks 0 p p.end r; record_in = h; ends = e; same = refl; same_length = refl }

  module _ (marks₀ : List ℕ) (r₀ : ℕ) (marks : List ℕ) (r : ℕ) (p : Marking next d marks₀ r₀ marks r) where
    -- at a marked record, all is done
    pub marking_ends : get_or marks r 0 ≡ 1 → stored 1 (chain_from next d r₀) marks₀ ≡ marks
    marking_ends e = p.same ∙ stored_same 1 (chain_from next d r) marks (rest_marked next d marks r p.marked e next_in d p.record_in)

    module _ (h : get_or marks r 0 ≡ 0) where
      some : r ≡ 0 → ⊥
      some = unmarked_some r p.marked h

      at_record : chain_from next d r ≡ r ∷ chain_from next d (get_or next r 0)
      at_record = chain_rest next d r some p.ends

      pub marking_less : length (chain_from next d (get_or next r 0)) < length (chain_from next d r)
      marking_less = rw at_record (omega arith)

      pub marking_turns : Marking next d marks₀ r₀ (set marks r 1) (get_or next r 0)
      unfolding stored
      marking_turns =
          record {
            marked = marks_next next d marks r p.marked h p.record_in;
            record_in = next_in r (omega (arith, some)) p.record_in;
            ends = rest_ended next d r some p.ends;
            same = p.same ∙ ap (λ (l : List ℕ). stored 1 l marks) at_record;
            same_length = length-set marks r 1 ∙ p.same_length;
          }
