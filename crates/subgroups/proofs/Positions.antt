-- Bits are the same as those of the kind that they have the number of, and of no other kind. So the sizes by number are the sizes of the kinds.
use Rattle.std.proofs.Common.{◌≡◌, ℕ, zero, suc, ◌+◌, ◌<◌, ◌≤◌, Bool, true, false, cond, not, eqb, List, [], ◌∷◌, map, length, get_or, take, sym, refl, ap, ◌∙◌, le_of_suc-le-suc, zero-add, arith, length-take-le, ext_get_or, eq-eqb, ne_eqb}
use mathlib.Core.Bool.{false≢true}
use lib.ListN.{length-map}
use Rattle.lists.specs.Keep.{keep}
use Rattle.lists.specs.Sum.{sum}
use Rattle.lists.proofs.KeepTests.{keep_same}
use Rattle.lists.proofs.Map.{get_or_map_below}
use Rattle.lists.proofs.Members.{keep_mem}
use Rattle.lists.proofs.Position.{get_or_mem}
use Rattle.bitset.specs.Entries.{empty, row_of}
use Rattle.bitset.specs.declared.entries.BitSet.{BitSet}
use Rattle.grouping.specs.Subgroups.{same_bits, kinds_of, kind_number}
use Rattle.grouping_laws.proofs.BitKinds.{kind_in}
use Rattle.subgroups.specs.Kinds.{kinds_in, kind_of_module, sizes_of, size_of_kind}
use Rattle.subgroups.specs.Finding.{KindsFound}
use Rattle.subgroups.proofs.Entering.{length_rows}
use Rattle.subgroups.proofs.KindSizes.{size_numbered}
use Rattle.subgroups.proofs.Counting.{Counted}
use Rattle.subgroups.proofs.SameBits.{same_both}

number_from : (i : ℕ) (kinds : List BitSet) (x : BitSet) → i ≤ kind_number i kinds x
unfolding kind_number
number_from i [] x = omega arith
number_from i (kind ∷ kinds) x = go (same_bits kind x) (number_from (suc i) kinds x)
  where
    go : (b : Bool) → suc i ≤ kind_number (suc i) kinds x → i ≤ cond b i (kind_number (suc i) kinds x)
    go true h = omega arith
    go false h = omega arith

at_number : (most : ℕ) (l : List BitSet) (i j : ℕ) (x : BitSet) → j < length (kinds_of most l)
    → same_bits (get_or (kinds_of most l) j empty) x ≡ eqb (kind_number i (kinds_of most l) x) (i + j)
unfolding kinds_of kind_number
at_number zero l i j x h = absurd (omega arith)
at_number (suc most) [] i j x h = absurd (omega arith)
at_number (suc most) (b ∷ l) i zero x h = go (same_bits b x)
  where
    rest : List BitSet
    rest = kinds_of most (keep (λ c. not (same_bits b c)) l)

    go : (c : Bool) → c ≡ eqb (cond c i (kind_number (suc i) rest x)) (i + 0)
    go true = sym (eq-eqb i (i + 0) (omega arith))
    go false = sym (ne_eqb (kind_number (suc i) rest x) (i + 0) (λ e. omega (arith, number_from (suc i) rest x)))
at_number (suc most) (b ∷ l) i (suc j) x h =
    go (same_bits b x) refl (at_number most (keep others l) (suc i) j x (le_of_suc-le-suc h))
  where
    others : BitSet → Bool
    others c = not (same_bits b c)

    rest : List BitSet
    rest = kinds_of most (keep others l)

    kind : BitSet
    kind = get_or rest j empty

    other : not (same_bits b kind) ≡ true
    other = (keep_mem others l kind (kind_in most (keep others l) kind (get_or_mem rest j empty (le_of_suc-le-suc h)))).1

    clash : same_bits b x ≡ true → (d : Bool) → same_bits kind x ≡ d → d ≡ false
    clash e true f = absurd (false≢true (sym (ap not (same_both b kind x e f)) ∙ other))
    clash e false f = refl

    go : (c : Bool) → same_bits b x ≡ c → same_bits kind x ≡ eqb (kind_number (suc i) rest x) (suc i + j)
        → same_bits kind x ≡ eqb (cond c i (kind_number (suc i) rest x)) (i + suc j)
    go true e r = clash e (same_bits kind x) refl ∙ sym (ne_eqb i (i + suc j) (λ q. omega arith))
    go false e r = r ∙ ap (eqb (kind_number (suc i) rest x)) (omega arith)

module _ (bits sizes set : List ℕ) where
  abbrev kinds : List BitSet
  kinds = kinds_in bits set

  pub kind_at : (j m : ℕ) → j < length kinds → same_bits (get_or kinds j empty) (row_of bits m) ≡ eqb (kind_of_module bits kinds m) j
  kind_at j m h = at_number (length set) (map (row_of bits) set) 0 j (row_of bits m) h ∙ ap (eqb (kind_of_module bits kinds m)) (zero-add j)

  size_at : (j : ℕ) → j < length kinds → size_numbered bits sizes kinds set j ≡ size_of_kind bits sizes set (get_or kinds j empty)
  unfolding size_numbered size_of_kind
  size_at j h =
      ap (λ (r : List ℕ). sum (sizes_of sizes r))
      (keep_same (λ m. eqb (kind_of_module bits kinds m) j) (λ m. same_bits (get_or kinds j empty) (row_of bits m)) set (λ m i. sym (kind_at j m h)))

  -- all modules are counted
  pub all_found : (r : ℕ) (kind_of kind_sizes kind-bits : List ℕ) → r ≤ length kind_sizes → Counted bits sizes set r kind_of kind_sizes kind-bits
      → KindsFound bits sizes set r kind_of kind_sizes kind-bits
  all_found r kind_of kind_sizes kind-bits room c = record {
    kinds = c.kinds;
    numbers = c.numbers_are;
    totals = ext_get_or 0 (take r kind_sizes) (map (size_of_kind bits sizes set) kinds) (count ∙ sym (length-map kinds (size_of_kind bits sizes set))) at;
    whole = c.whole;
  }
    where
      count : length (take r kind_sizes) ≡ length kinds
      count = length-take-le r kind_sizes room ∙ sym (length_rows kind-bits r) ∙ ap length c.kinds

      at : (j : ℕ) → j < length (take r kind_sizes) → get_or (take r kind_sizes) j 0 ≡ get_or (map (size_of_kind bits sizes set) kinds) j 0
      at j h =
          let w : j < length kinds = rw count at h in
          c.totals j ∙ size_at j w ∙ sym (get_or_map_below (size_of_kind bits sizes set) kinds j 0 empty w)
