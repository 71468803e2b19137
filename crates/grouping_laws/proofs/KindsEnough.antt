-- An entries-aware set is divided whole: each of its places is in one of its items. The bits of each place have a kind, the kind's number ends
-- as that of a subgroup that is still there, and the places with that number are the subgroup's item.
use Prim.Native.Nat.{ℕ, zero, suc, ◌+◌, ◌≤◌, ◌<◌}
use mathlib.Core.Bool.{Bool, true, false, not, cond, true≢false}
use mathlib.Core.List.Memᴰ
use mathlib.Core.List.{List, [], ◌∷◌, map, Memᴰ}
use mathlib.Core.Logic.{⊎_elim}
use mathlib.Core.Path.{◌≡◌, refl, sym, ap, ◌∙◌}
use native.Mathlib.Nat.{suc-add, zero-add, eq-or-lt_of_le}
use native.Mathlib.Omega.{arith}
use borrow.Author.Tests.{eq-eqb}
use lib.Dec.{eqb}
use lib.ListN.{length, get_or, length-map}
use Rattle.lists.specs.Keep.{keep}
use Rattle.lists.specs.Range.{range}
use Rattle.lists.proofs.KeepLength.{keep_le}
use Rattle.lists.proofs.Members.{mem_keep, range_mem}
use Rattle.lists.proofs.Position.{get_or_mem}
use Rattle.lists.proofs.Range.{length_range}
use Rattle.bitset.specs.declared.entries.BitSet.{BitSet}
use Rattle.joins.specs.Subgroup.{Subgroup}
use Rattle.options.specs.declared.Settings.{Settings}
use Rattle.grouping.specs.Tree.{Tree, member_at}
use Rattle.grouping.specs.Item.{Item}
use Rattle.grouping.specs.Subgroups.{same_bits, kinds_of, subgroups_from, merged_subgroups, kind_number, places_ended, item_of_subgroup, divided_items}
use Rattle.grouping_laws.proofs.BitKinds.{same_refl}
use Rattle.merge.proofs.FinalNumbers.{Ended, merged_ended}

-- ---- the kinds of bits

kinds_end : (most : ℕ) (l : List BitSet) → length l ≤ most → (extra : ℕ) → kinds_of (most + extra) l ≡ kinds_of most l
unfolding kinds_of
kinds_end zero [] h zero = ap (λ (n : ℕ). kinds_of n []) (zero-add 0)
kinds_end zero [] h (suc extra) = ap (λ (n : ℕ). kinds_of n []) (zero-add (suc extra))
kinds_end zero (b ∷ l) h extra = absurd (omega arith)
kinds_end (suc most) [] h extra = ap (λ (n : ℕ). kinds_of n []) (suc-add most extra)
kinds_end (suc most) (b ∷ l) h extra =
    let others : BitSet → Bool = λ c. not (same_bits b c) in
    ap (λ (n : ℕ). kinds_of n (b ∷ l)) (suc-add most extra)
    ∙ ap (λ (kinds : List BitSet). b ∷ kinds) (kinds_end most (keep others l) (omega (arith, keep_le others l)) extra)

-- the bound cuts nothing short
pub enough_kinds : (l : List BitSet) (extra : ℕ) → kinds_of (length l + extra) l ≡ kinds_of (length l) l
enough_kinds l = kinds_end (length l) l (omega arith)

-- each of the bits has the number of a kind
kind_of : (most : ℕ) (l : List BitSet) → length l ≤ most → (x : BitSet) → Memᴰ x l → (i : ℕ) → kind_number i (kinds_of most l) x < i + length (kinds_of most l)
unfolding kinds_of kind_number
kind_of zero [] h x m i = absurd (Memᴰ.not-nil m)
kind_of zero (b ∷ l) h x m i = absurd (omega arith)
kind_of (suc most) [] h x m i = absurd (Memᴰ.not-nil m)
kind_of (suc most) (b ∷ l) h x m i =
    go (same_bits b x) refl (λ k. kind_of most (keep others l) (omega (arith, keep_le others l)) x k (suc i))
  where
    others : BitSet → Bool
    others c = not (same_bits b c)

    go : (c : Bool) → same_bits b x ≡ c → (Memᴰ x (keep others l) → kind_number (suc i) (kinds_of most (keep others l)) x < suc i + length (kinds_of most (keep others l)))
        → cond c i (kind_number (suc i) (kinds_of most (keep others l)) x) < i + suc (length (kinds_of most (keep others l)))
    go true e rest = omega arith
    go false e rest =
        ⊎_elim
        (λ q. absurd (true≢false (sym (same_refl b) ∙ ap (same_bits b) (sym q) ∙ e)))
        (λ t. omega (arith, rest (mem_keep others x t (ap not e))))
        (Memᴰ.cases_cons m)

-- ---- the subgroups

-- before the merge there is one for each number
from_numbers : (i : ℕ) (r : Settings) (tree : Tree) (places : List ℕ) (kinds : List BitSet) (n : ℕ) → i ≤ n → n < i + length kinds
    → (s : Subgroup) × Memᴰ s (subgroups_from i r tree places kinds) × (s.number ≡ n)
unfolding subgroups_from
from_numbers i r tree places [] n u v = absurd (omega arith)
from_numbers i r tree places (kind ∷ kinds) n u v =
    ⊎_elim
    (λ e. (_, Memᴰ.head refl, e))
    (λ l. let s = from_numbers (suc i) r tree places kinds n l (omega arith) in (s.0, Memᴰ.tail s.1, s.2))
    (eq-or-lt_of_le u)

merge_ended : (r : Settings) (tree : Tree) (places : List ℕ) (kinds : List BitSet) → Ended (length kinds) (merged_subgroups r tree places kinds)
unfolding merged_subgroups
merge_ended r tree places kinds =
    merged_ended (length kinds) r.threshold (record { there = subgroups_from 0 r tree places kinds; finals = range 0 (length kinds) })
    (record {
      entries = length_range 0 (length kinds);
      ended = λ n m. let w = range_mem 0 (length kinds) n m in from_numbers 0 r tree places kinds n w.0 w.1;
    })

-- ---- the items

pub divided_whole : (r : Settings) (g name : ℕ) (tree : Tree) (places : List ℕ) (p : ℕ) → Memᴰ p places
    → (i : Item) × Memᴰ i (divided_items r g name tree places) × Memᴰ p i.places
unfolding divided_items places_ended
divided_whole r g name tree places p m =
    let bits = map (λ q. (member_at tree q).bits) places in
    let kinds = kinds_of (length places) bits in
    let x = (member_at tree p).bits in
    let result = merged_subgroups r tree places kinds in
    let e = merge_ended r tree places kinds in
    let j : ℕ = kind_number 0 kinds x in
    let within : j < length result.finals =
    omega (arith, kind_of (length places) bits (omega (arith, length-map places (λ q. (member_at tree q).bits))) x (Memᴰ.map (λ q. (member_at tree q).bits) m) 0, e.entries) in
    let s = e.ended (get_or result.finals j 0) (get_or_mem result.finals j 0 within) in (
      _,
      Memᴰ.map
          (item_of_subgroup r g name tree places kinds result.finals) s.1,
      mem_keep (λ q. eqb (get_or result.finals (kind_number 0 kinds (member_at tree q).bits) 0) s.0.number) p m
          (eq-eqb (get_or result.finals j 0) s.0.number (sym s.2)),
    )
