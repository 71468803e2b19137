-- One turn of the loop over a set: module i has a kind, which is counted.
use Rattle.std.proofs.Common.{◌≡◌, ℕ, ◌+◌, ◌*◌, ◌^◌, ◌<◌, ◌≤◌, List, [], ◌∷◌, ◌++◌, length, get_or, take, drop, set, sym, ap, ◌∙◌, subst, subst₂, add-one, arith, length-drop, take-append-drop, length-take, length-take-le, get_or-take, take-suc, take-suc-set}
use mathlib.Core.List.{map-append}
use Rattle.lists.specs.Sum.{sum}
use Rattle.lists.proofs.Sum.{sum_append, sum_snoc}
use Rattle.bitset.specs.Entries.{row_of}
use Rattle.bitset.specs.declared.entries.BitSet.{BitSet}
use Rattle.lists.proofs.SumChanged.{one_of_sum}
use Rattle.subgroups.specs.Kinds.{sizes_of}
use Rattle.subgroups.specs.Finding.{Members, KindFits, Entered}
use Rattle.subgroups.proofs.Counting.{Counted, count_most, kind_below, before_sum, one_counted}

module _ (bits sizes modules : List ℕ) (given : Members bits sizes modules) (i count : ℕ) (kind_of kind_sizes kind-bits : List ℕ)
    (c : Counted bits sizes (take i modules) count (take i kind_of) kind_sizes kind-bits) (h : i < length modules)
    (x : BitSet) (is : x ≡ row_of bits (get_or modules i 0)) where
  abbrev m : ℕ
  m = get_or modules i 0

  first : length (take i modules) ≡ i
  first = length-take-le i modules (omega arith)

  pub bits_fit : length modules ≤ length kind_sizes → 4 * length modules ≤ length kind-bits → KindFits count x kind_sizes kind-bits
  unfolding row_of
  bits_fit u v =
      let few : count ≤ i = omega (arith, c.most, first) in
      record {
        four = ap (λ (s : BitSet). length s.words) is ∙ simp (length-take, length-drop) (omega (arith, given.has_bits i h));
        sizes = omega arith;
        rows = omega arith;
      }

  module _ (kind count' : ℕ) (sizes' bits' : List ℕ) (entry : Entered count x kind_sizes kind-bits kind count' sizes' bits')
      (room : length modules ≤ length sizes') where
    here : Entered count (row_of bits m) kind_sizes kind-bits kind count' sizes' bits'
    here = subst (λ (s : BitSet). Entered count s kind_sizes kind-bits kind count' sizes' bits') is entry

    fewer : count' ≤ length sizes'
    fewer = omega (arith, count_most bits sizes (take i modules) count (take i kind_of) kind_sizes kind-bits c m kind count' sizes' bits' here, first)

    below : kind < count'
    below = kind_below bits sizes (take i modules) count (take i kind_of) kind_sizes kind-bits c m kind count' sizes' bits' here

    next : take (i + 1) modules ≡ take i modules ++ (m ∷ [])
    next = rw (add-one i) (take-suc modules i 0 h)

    -- the sizes of the first modules, that of this one, and the rest
    total : sum (sizes_of sizes (take i modules)) + get_or sizes m 0 + sum (sizes_of sizes (drop (i + 1) modules)) ≡ sum (sizes_of sizes modules)
    total =
        sym (ap (λ (n : ℕ). n + sum (sizes_of sizes (drop (i + 1) modules)))
        (ap (λ (l : List ℕ). sum (sizes_of sizes l)) next ∙ ap sum (map-append (λ n. get_or sizes n 0) (take i modules) (m ∷ []))
        ∙ sum_snoc (sizes_of sizes (take i modules)) (get_or sizes m 0)))
        ∙ sym (sum_append (sizes_of sizes (take (i + 1) modules)) (sizes_of sizes (drop (i + 1) modules)))
        ∙ ap sum (sym (map-append (λ n. get_or sizes n 0) (take (i + 1) modules) (drop (i + 1) modules)))
        ∙ ap (λ (l : List ℕ). sum (sizes_of sizes l)) (take-append-drop (i + 1) modules)

    pub size_fits : (kind < length sizes') × (get_or sizes' kind 0 + get_or sizes m 0 ≤ 2 ^ 53)
    size_fits =
        let one = one_of_sum (take count' sizes') kind (omega (arith, length-take-le count' sizes' fewer, below)) in
        let at : get_or (take count' sizes') kind 0 ≡ get_or sizes' kind 0 = get_or-take count' sizes' kind 0 below in
        let all = before_sum bits sizes (take i modules) count (take i kind_of) kind_sizes kind-bits c m kind count' sizes' bits' here in
        (omega (arith, fewer, below), omega (arith, total, given.exact))

    pub kind_small : kind < 4096
    kind_small =
        let most = count_most bits sizes (take i modules) count (take i kind_of) kind_sizes kind-bits c m kind count' sizes' bits' here in
        omega (arith, below, first, given.count)

    pub next_counted : i < length kind_of
        → Counted bits sizes (take (i + 1) modules) count' (take (i + 1) (set kind_of i kind)) (set sizes' kind (get_or sizes' kind 0 + get_or sizes m 0)) bits'
    next_counted g =
        let numbers : take (i + 1) (set kind_of i kind) ≡ take i kind_of ++ (kind ∷ []) = rw (add-one i) (take-suc-set kind_of i kind g) in
        subst₂ (λ (l n : List ℕ). Counted bits sizes l count' n (set sizes' kind (get_or sizes' kind 0 + get_or sizes m 0)) bits') (sym next) (sym numbers)
        (one_counted bits sizes (take i modules) count (take i kind_of) kind_sizes kind-bits c m kind count' sizes' bits' here fewer)
