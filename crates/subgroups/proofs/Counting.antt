-- The kinds of the first modules of a set, one module more a turn.
use Rattle.std.proofs.Common.{◌≡◌, ℕ, suc, ◌+◌, ◌<◌, ◌≤◌, true, cond, eqb, List, [], ◌∷◌, ◌++◌, map, length, get_or, take, set, sym, refl, ap, ◌∙◌, subst, ap₂, arith, length-append, length-take-le, get_or-take}
use mathlib.Core.List.Memᴰ
use mathlib.Core.List.{map-append, Memᴰ}
use lib.ListN.{length-map}
use lib.Seq.{take-set-lt}
use Rattle.lists.specs.Sum.{sum}
use Rattle.lists.specs.Range.{range}
use Rattle.lists.proofs.KeepTests.{keep_same}
use Rattle.lists.proofs.Members.{map_same}
use Rattle.lists.proofs.Sum.{sum_snoc}
use Rattle.bitset.specs.Entries.{row_of}
use Rattle.bitset.specs.declared.entries.BitSet.{BitSet}
use Rattle.lists.proofs.SumChanged.{sum_set}
use Rattle.grouping.specs.Subgroups.{kinds_of}
use Rattle.grouping_laws.proofs.KindsEnough.{enough_kinds}
use Rattle.subgroups.specs.Kinds.{rows_of, has_kind, kinds_in, kind_of_module, sizes_of}
use Rattle.subgroups.specs.Finding.{entered, Entered}
use Rattle.subgroups.proofs.OneMore.{number_less, number_kept, number_entered, more_within, own_kind, has_entered}
use Rattle.subgroups.proofs.Entering.{length_rows}
use Rattle.subgroups.proofs.KindSizes.{size_numbered, numbered_snoc, get_or_entered, sum_entered, length_entered, add_at}

-- ---- one module more

module _ (bits : List ℕ) where
  pub kinds_snoc : (l : List ℕ) (m : ℕ) → kinds_in bits (l ++ (m ∷ [])) ≡ entered (has_kind (kinds_in bits l) (row_of bits m)) (kinds_in bits l) (row_of bits m)
  kinds_snoc l m =
      let all = map (row_of bits) l in
      let x = row_of bits m in
      let same : length all ≡ length l = length-map l (row_of bits) in
      let enough : kinds_of (length l + 1) all ≡ kinds_of (length l) all =
      ap (λ (n : ℕ). kinds_of (n + 1) all) (sym same) ∙ enough_kinds all 1 ∙ ap (λ (n : ℕ). kinds_of n all) same in
      ap₂ kinds_of (length-append l (m ∷ [])) (map-append (row_of bits) l (m ∷ []))
      ∙ more_within (length l + 1) all x (omega arith)
      ∙ ap (λ (k : List BitSet). entered (has_kind k x) k x) enough

  pub has_own : (l : List ℕ) (m : ℕ) → Memᴰ m l → has_kind (kinds_in bits l) (row_of bits m) ≡ true
  has_own l m i = own_kind (length l) (map (row_of bits) l) (omega (arith, length-map l (row_of bits))) (row_of bits m) (Memᴰ.map (row_of bits) i)

-- ---- the tables after some modules

-- the kinds of the modules l stand in the tables, and each module's kind is its number
pub record Counted (bits sizes l : List ℕ) (count : ℕ) (numbers kind_sizes kind-bits : List ℕ) : Type 0 where
  pub most : count ≤ length l
  pub kinds : rows_of kind-bits count ≡ kinds_in bits l
  pub numbers_are : numbers ≡ map (kind_of_module bits (kinds_in bits l)) l
  pub totals : (j : ℕ) → get_or (take count kind_sizes) j 0 ≡ size_numbered bits sizes (kinds_in bits l) l j
  pub whole : sum (take count kind_sizes) ≡ sum (sizes_of sizes l)

pub none_counted : (bits sizes kind_sizes kind-bits : List ℕ) → Counted bits sizes [] 0 [] kind_sizes kind-bits
unfolding rows_of kinds_of range size_numbered sum
none_counted bits sizes kind_sizes kind-bits = record { most = omega arith; kinds = refl; numbers_are = refl; totals = λ j. refl; whole = refl }

module _ (bits sizes l : List ℕ) (count : ℕ) (numbers kind_sizes kind-bits : List ℕ) (c : Counted bits sizes l count numbers kind_sizes kind-bits)
    (m kind count' : ℕ) (sizes' bits' : List ℕ) (e : Entered count (row_of bits m) kind_sizes kind-bits kind count' sizes' bits') where
  abbrev x : BitSet
  x = row_of bits m

  abbrev kinds : List BitSet
  kinds = kinds_in bits l

  abbrev kinds' : List BitSet
  kinds' = entered (has_kind kinds x) kinds x

  rows : rows_of bits' count' ≡ kinds'
  rows = subst (λ (k : List BitSet). rows_of bits' count' ≡ entered (has_kind k x) k x) c.kinds e.kinds

  count_is : count' ≡ length kinds'
  count_is = sym (length_rows bits' count') ∙ ap length rows

  pub count_most : count' ≤ suc (length l)
  count_most =
      let before : length kinds ≡ count = sym (ap length c.kinds) ∙ length_rows kind-bits count in
      omega (arith, count_is, (length_entered (has_kind kinds x) kinds x).1, c.most)

  self : kind_of_module bits kinds' m ≡ kind
  self = number_entered kinds x ∙ ap (λ (k : List BitSet). kind_of_module bits k m) (sym c.kinds) ∙ sym e.number

  pub kind_below : kind < count'
  kind_below = omega (arith, number_less kinds' x (has_entered kinds x), self, count_is)

  stays : (n : ℕ) → Memᴰ n l → kind_of_module bits kinds n ≡ kind_of_module bits kinds' n
  stays n i = sym (number_kept (has_kind kinds x) kinds x (row_of bits n) (has_own bits l n i))

  abbrev before : List ℕ
  before = take count' sizes'

  before_at : (j : ℕ) → get_or before j 0 ≡ get_or (take count kind_sizes) j 0
  before_at j = ap (λ (t : List ℕ). get_or t j 0) e.totals ∙ get_or_entered (has_kind (rows_of kind-bits count) x) (take count kind_sizes) j

  -- so far no module of the new kind was counted
  pub before_sum : sum before ≡ sum (sizes_of sizes l)
  before_sum = ap sum e.totals ∙ sum_entered (has_kind (rows_of kind-bits count) x) (take count kind_sizes) ∙ c.whole

  module _ (room : count' ≤ length sizes') where
    abbrev size : ℕ
    size = get_or sizes m 0

    within : kind < length before
    within = omega (arith, length-take-le count' sizes' room, kind_below)

    after : take count' (set sizes' kind (get_or sizes' kind 0 + size)) ≡ set before kind (get_or before kind 0 + size)
    after =
        take-set-lt count' sizes' kind (get_or sizes' kind 0 + size) kind_below
        ∙ ap (λ (v : ℕ). set before kind (v + size)) (sym (get_or-take count' sizes' kind 0 kind_below))

    same_total : (j : ℕ) → size_numbered bits sizes kinds l j ≡ size_numbered bits sizes kinds' l j
    unfolding size_numbered
    same_total j =
        ap (λ (r : List ℕ). sum (sizes_of sizes r))
        (keep_same (λ n. eqb (kind_of_module bits kinds n) j) (λ n. eqb (kind_of_module bits kinds' n) j) l (λ n i. ap (λ (k : ℕ). eqb k j) (stays n i)))

    total : (j : ℕ) → get_or (take count' (set sizes' kind (get_or sizes' kind 0 + size))) j 0 ≡ size_numbered bits sizes kinds' (l ++ (m ∷ [])) j
    total j =
        ap (λ (t : List ℕ). get_or t j 0) after
        ∙ add_at before kind size j within
        ∙ ap₂ (λ (a k : ℕ). a + cond (eqb k j) size 0) (before_at j ∙ c.totals j ∙ same_total j) (sym self)
        ∙ sym (numbered_snoc bits sizes kinds' l m j)

    sum_after : sum (take count' (set sizes' kind (get_or sizes' kind 0 + size))) ≡ sum (sizes_of sizes (l ++ (m ∷ [])))
    sum_after =
        let added : sum (set before kind (get_or before kind 0 + size)) ≡ sum before + size =
        omega (arith, sum_set before kind (get_or before kind 0 + size) within) in
        ap sum after ∙ added ∙ ap (λ (n : ℕ). n + size) before_sum
        ∙ sym (ap sum (map-append (λ n. get_or sizes n 0) l (m ∷ [])) ∙ sum_snoc (sizes_of sizes l) size)

    numbers_after : numbers ++ (kind ∷ []) ≡ map (kind_of_module bits kinds') (l ++ (m ∷ []))
    numbers_after =
        ap₂ (λ (a : List ℕ) (k : ℕ). a ++ (k ∷ [])) (c.numbers_are ∙ map_same (kind_of_module bits kinds) (kind_of_module bits kinds') l stays) (sym self)
        ∙ sym (map-append (kind_of_module bits kinds') l (m ∷ []))

    pub one_counted : Counted bits sizes (l ++ (m ∷ [])) count' (numbers ++ (kind ∷ [])) (set sizes' kind (get_or sizes' kind 0 + get_or sizes m 0)) bits'
    one_counted =
        let snoc = kinds_snoc bits l m in
        record {
          most = omega (arith, count_most, length-append l (m ∷ []));
          kinds = rows ∙ sym snoc;
          numbers_are = rw snoc numbers_after;
          totals = λ j. rw snoc (total j);
          whole = sum_after;
        }
