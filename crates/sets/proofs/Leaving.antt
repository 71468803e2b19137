-- The loop that leaves the marked modules of a list where it stands: what is still to be looked at is as it was.
use Prim.Native.Nat.{ℕ, ◌+◌, ◌≤◌, ◌<◌}
use mathlib.Core.List.{List, ◌++◌}
use mathlib.Core.Path.{◌≡◌, refl, sym, ap, ◌∙◌, subst}
use native.Mathlib.Nat.{add-zero}
use native.Mathlib.Omega.{arith}
use lib.ListN.{length, get_or, take, drop, set, length-take}
use lib.Seq.{take-append-le, drop-drop, drop-set-lt, get_or-drop}
use Rattle.lists.specs.Area.{Holds}
use Rattle.matching.proofs.Writing.{Writing, none_written, one_written, none_stored}
use Rattle.sets.specs.Gathered.{marked_in}
use Rattle.sets.proofs.Marking.{marked_none, marked_in_lem, marked_out, marked_all}

-- with the first i of the list looked at
pub record Leaving (marks list₀ : List ℕ) (i count : ℕ) (list : List ℕ) : Type 0 where
  pub written : Writing (marked_in marks (take i list₀)) i count list₀ list
  pub rest : drop i list ≡ drop i list₀

pub none_left : (marks list : List ℕ) → Leaving marks list 0 0 list
none_left marks list = record { written = rw (marked_none marks list) (none_written list); rest = refl }

module _ {marks list₀ : List ℕ} {i count : ℕ} {list : List ℕ} (s : Leaving marks list₀ i count list) where
  pub same_at : get_or list i 0 ≡ get_or list₀ i 0
  same_at =
      ap (λ (k : ℕ). get_or list k 0) (sym (add-zero i))
      ∙ sym (get_or-drop i list 0 0)
      ∙ ap (λ (l : List ℕ). get_or l 0 0) s.rest
      ∙ get_or-drop i list₀ 0 0
      ∙ ap (λ (k : ℕ). get_or list₀ k 0) (add-zero i)

  pub all_left : length list₀ ≤ i → Holds (marked_in marks list₀) count list
  all_left h = subst (λ (l : List ℕ). Holds l count list) (marked_all marks list₀ i h) s.written.holds

  module _ (h : i < length list₀) where
    abbrev m : ℕ
    m = get_or list i 0

    stored_rest : drop (i + 1) (set list count m) ≡ drop (i + 1) list₀
    stored_rest =
        drop-set-lt (i + 1) list count m (omega (arith, s.written.few)) ∙ sym (drop-drop 1 i list) ∙ ap (drop 1) s.rest ∙ drop-drop 1 i list₀

    pub one_left : get_or marks m 0 ≡ 1 → Leaving marks list₀ (i + 1) (count + 1) (set list count m)
    one_left e =
        record {
          written =
              one_written s.written m
              (rw same_at (marked_in_lem marks list₀ i h (subst (λ (k : ℕ). get_or marks k 0 ≡ 1) same_at e))) h;
          rest = stored_rest;
        }

    pub one_gone : (get_or marks m 0 ≡ 1 → ⊥) → Leaving marks list₀ (i + 1) count (set list count m)
    one_gone n =
        record {
          written = none_stored s.written m (marked_out marks list₀ i h (λ e. n (subst (λ (k : ℕ). get_or marks k 0 ≡ 1) (sym same_at) e)));
          rest = stored_rest;
        }

-- what is at the front of a part stands at the front of the whole
pub holds_part : {l m : List ℕ} {count : ℕ} {part : List ℕ} (rest : List ℕ) → l ≡ m → Holds l count part → Holds m count (part ++ rest)
holds_part {count = count} {part} rest same e =
    let h : count ≤ length part = omega (arith, e.number, ap length e.entries, length-take count part) in
    record { number = e.number ∙ ap length same; entries = take-append-le count part rest h ∙ e.entries ∙ same }
