-- The items of an entries-aware set: their places are places of the set, and each has one. A subgroup's number is the final one of some
-- kind of bits, and each kind is that of a place of the set.
use Prim.Native.Nat.{ℕ, zero, suc, ◌+◌, ◌≤◌, ◌<◌}
use mathlib.Core.Bool.{Bool, true, false, not, cond, false≢true}
use mathlib.Core.List.Memᴰ
use mathlib.Core.List.{List, [], ◌∷◌, map, Memᴰ}
use mathlib.Core.Logic.{⊎_elim}
use mathlib.Core.Path.{◌≡◌, sym, ap, ◌∙◌, subst}
use native.Mathlib.Nat.{add-zero, zero-add, le_of_suc-le-suc}
use native.Mathlib.Omega.{arith}
use borrow.Author.Tests.{eq-eqb}
use lib.Dec.{eqb}
use lib.ListN.{length, get_or}
use Rattle.lists.specs.Keep.{keep}
use Rattle.lists.specs.Range.{range}
use Rattle.lists.proofs.KeepLength.{mem_length}
use Rattle.lists.proofs.Members.{keep_mem, mem_keep, mem_range}
use Rattle.lists.proofs.Pairs.{pairs_keep}
use Rattle.lists.proofs.Position.{mem_get_or, get_or_mem}
use Rattle.lists.proofs.Range.{length_range}
use Rattle.lists.proofs.Sort.{Pairs, none, more}
use Rattle.bitset.specs.Entries.{empty}
use Rattle.bitset.specs.declared.entries.BitSet.{BitSet}
use Rattle.joins.specs.Subgroup.{Subgroup}
use Rattle.options.specs.declared.Settings.{Settings}
use Rattle.grouping.specs.Tree.{Tree, member_at}
use Rattle.grouping.specs.Item.{Item}
use Rattle.grouping.specs.Subgroups.{same_bits, kinds_of, subgroups_from, merged_subgroups, kind_number, places_ended, divided_items}
use Rattle.grouping_laws.proofs.BitKinds.{same_refl, kind_in}
use Rattle.merge.proofs.FinalNumbers.{Known, merged_known}
use Rattle.grouping_laws.proofs.SetPlaces.{Placed}

-- ---- the kinds of bits: each is one of those handed in, and no two are the same

abbrev Differ : List BitSet → Type 0
Differ kinds = Pairs (λ a b. not (same_bits a b) ≡ true) kinds

kinds_differ : (most : ℕ) (l : List BitSet) → Differ (kinds_of most l)
unfolding kinds_of
kinds_differ zero l = none
kinds_differ (suc most) [] = none
kinds_differ (suc most) (b ∷ l) =
    let left = keep (λ c. not (same_bits b c)) l in
    more (λ y m. (keep_mem (λ c. not (same_bits b c)) l y (kind_in most left y m)).1) (kinds_differ most left)

-- the number of the kind at a position is the position
kind_number_lem : (i : ℕ) (kinds : List BitSet) (j : ℕ) → Differ kinds → j < length kinds → kind_number i kinds (get_or kinds j empty) ≡ i + j
unfolding kind_number
kind_number_lem i [] j d h = absurd (omega arith)
kind_number_lem i (kind ∷ kinds) zero d h = rw (same_refl kind) (sym (add-zero i))
kind_number_lem i (kind ∷ kinds) (suc j) (more f d) h =
    let within = le_of_suc-le-suc h in
    step (same_bits kind (get_or kinds j empty)) (f (get_or kinds j empty) (get_or_mem kinds j empty within)) (kind_number_lem (suc i) kinds j d within)
  where
    step : (b : Bool) → not b ≡ true → kind_number (suc i) kinds (get_or kinds j empty) ≡ suc i + j
        → cond b i (kind_number (suc i) kinds (get_or kinds j empty)) ≡ i + suc j
    step true e r = absurd (false≢true e)
    step false e r = omega arith

-- ---- the subgroups

-- before the merge they have the numbers from i on
from_number : (i : ℕ) (r : Settings) (tree : Tree) (places : List ℕ) (kinds : List BitSet) (s : Subgroup) → Memᴰ s (subgroups_from i r tree places kinds)
    → (i ≤ s.number) × (s.number < i + length kinds)
unfolding subgroups_from
from_number i r tree places [] s m = absurd (Memᴰ.not-nil m)
from_number i r tree places (kind ∷ kinds) s m =
    ⊎_elim
    (λ e. let q : s.number ≡ i = ap (λ (u : Subgroup). u.number) e in (omega arith, omega arith))
    (λ t. let w = from_number (suc i) r tree places kinds s t in (omega arith, omega arith))
    (Memᴰ.cases_cons m)

merge_known : (r : Settings) (tree : Tree) (places : List ℕ) (kinds : List BitSet) → Known (length kinds) (merged_subgroups r tree places kinds)
unfolding merged_subgroups
merge_known r tree places kinds =
    merged_known (length kinds) r.threshold (record { there = subgroups_from 0 r tree places kinds; finals = range 0 (length kinds) })
    (record {
      entries = length_range 0 (length kinds);
      known = λ s m. let w = from_number 0 r tree places kinds s m in mem_range 0 (length kinds) s.number w.0 w.1;
    })

-- ---- the places that have ended in one

module _ (tree : Tree) (places : List ℕ) where
  abbrev kinds_here : List BitSet
  kinds_here = kinds_of (length places) (map (λ p. (member_at tree p).bits) places)

  ended_placed : (n : ℕ) (kinds : List BitSet) (finals : List ℕ) (number : ℕ) → Placed n places → Placed n (places_ended tree places kinds finals number)
  unfolding places_ended
  ended_placed n kinds finals number h =
      let ended : ℕ → Bool = λ p. eqb (get_or finals (kind_number 0 kinds (member_at tree p).bits) 0) number in
      record { ascend = pairs_keep ended h.ascend; below = λ p m. h.below p (keep_mem ended places p m).0 }

  ended_some : (finals : List ℕ) (number : ℕ) → length finals ≡ length kinds_here → Memᴰ number finals
      → 1 ≤ length (places_ended tree places kinds_here finals number)
  unfolding places_ended
  ended_some finals number all m =
      let bits = map (λ p. (member_at tree p).bits) places in
      let at = mem_get_or 0 m in
      let j : ℕ = at.0 in
      let within : j < length kinds_here = omega arith in
      let o = Memᴰ.of_map (λ p. (member_at tree p).bits) places (kind_in (length places) bits (get_or kinds_here j empty) (get_or_mem kinds_here j empty within)) in
      let e : kind_number 0 kinds_here (member_at tree o.0).bits ≡ j =
      ap (kind_number 0 kinds_here) o.2 ∙ kind_number_lem 0 kinds_here j (kinds_differ (length places) bits) within ∙ zero-add j in
      mem_length
      (mem_keep (λ p. eqb (get_or finals (kind_number 0 kinds_here (member_at tree p).bits) 0) number) o.0 o.1
      (eq-eqb (get_or finals (kind_number 0 kinds_here (member_at tree o.0).bits) 0) number (ap (λ (k : ℕ). get_or finals k 0) e ∙ at.2)))

  pub divided_placed : (n : ℕ) (r : Settings) (g name : ℕ) → Placed n places → (i : Item) → Memᴰ i (divided_items r g name tree places)
      → Placed n i.places × (1 ≤ length i.places)
  unfolding divided_items
  divided_placed n r g name h i m =
      let result = merged_subgroups r tree places kinds_here in
      let o = Memᴰ.of_map _ result.there m in
      let known = merge_known r tree places kinds_here in
      let s : Subgroup = o.0 in
      subst (λ (u : Item). Placed n u.places × (1 ≤ length u.places)) o.2
      (ended_placed n kinds_here result.finals s.number h, ended_some result.finals s.number known.entries (known.known s o.1))
