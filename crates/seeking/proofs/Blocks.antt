-- Blocks of numbers and the numbers that stand for them: the heads have the first seeker of all.
use Prim.Native.Nat.{ℕ, zero, suc, ◌+◌, ◌*◌, ◌-◌, ◌/◌, ◌≤◌, ◌<◌, ◌^◌}
use mathlib.Core.Bool.{Bool, true, false, ◌&&◌, cond}
use mathlib.Core.List.Memᴰ
use mathlib.Core.List.{List, [], ◌∷◌, ◌++◌, map, append-nil, Memᴰ}
use mathlib.Core.Logic.{⊎_elim}
use mathlib.Core.Option
use mathlib.Core.Option.{Option, none, some}
use mathlib.Core.Path.{◌≡◌, refl, sym, ap, ap₂, ◌∙◌, subst}
use native.Mathlib.Nat.{zero-add}
use native.Mathlib.Omega.{arith}
use lib.Dec.{ltb}
use lib.Ieee.{Float, lt}
use lib.ListN.{length, get_or, set, take, get_or-eq_default}
use lib.Seq.{take-suc, take-length, get_or-set_same, get_or-set_other}
use Rattle.lists.specs.Keep.{keep, keep_head}
use Rattle.lists.specs.Least.{least}
use Rattle.lists.specs.Range.{range}
use Rattle.lists.proofs.Keep.{keep_append}
use Rattle.lists.proofs.KeepTests.{keep_none, keep_map}
use Rattle.lists.proofs.Least.{cond_holds}
use Rattle.lists.proofs.Members.{range_mem, get_or_holds, map_same}
use Rattle.lists.proofs.Orders.{then_by, key_order, number_order, then_order}
use Rattle.lists.proofs.Position.{mem_get_or}
use Rattle.lists.proofs.Range.{range_snoc, range_append}
use Rattle.lists.proofs.Sort.{lower}
use Rattle.lists.proofs.Sorted.{WeakOrder}
use Rattle.whole.specs.Double.{to_f64}
use Rattle.whole.proofs.Compare.{lt_exact}
use Rattle.joins.specs.Candidate.{seeking, comes_first, seeker_at, Exact}
use Rattle.joins.specs.declared.candidate.Candidate.{Candidate}
use Rattle.seeking.specs.Seekers.{first_seeker, seeks_at, seeks_before, ahead, StandsFor, Heads, Refreshed}
use Rattle.seeking.proofs.Kept.{by_number}
use Rattle.seeking.proofs.Least.{sooner, least_map, least_append}

-- the numbers from `start` up to i were looked at, and `best` stands for them
pub record LookedThrough (threshold : Float) (sizes : List ℕ) (start i best : ℕ) : Type 0 where
  pub from : start ≤ best
  pub below : best < i
  pub first : first_seeker threshold sizes (best ∷ []) ≡ first_seeker threshold sizes (range start (i - start))

-- ---- the order of seekers

module _ (sizes : List ℕ) (exact : Exact sizes) where
  pub size_fits : (i : ℕ) → get_or sizes i 0 ≤ 2 ^ 53
  size_fits i = get_or_holds (λ n. n ≤ 2 ^ 53) sizes 0 (omega arith) (λ x m. let p = mem_get_or 0 m in subst (λ n. n ≤ 2 ^ 53) p.2 (exact p.0 p.1)) i

  by_size : (i j : ℕ) → seeks_before sizes i j ≡ then_by (lower (λ n. get_or sizes n 0)) ltb i j
  unfolding comes_first seeker_at
  by_size i j =
      ap₂ (λ p q. cond p true (cond q false (ltb i j)))
      (lt_exact (get_or sizes i 0) (get_or sizes j 0) (size_fits i) (size_fits j))
      (lt_exact (get_or sizes j 0) (get_or sizes i 0) (size_fits j) (size_fits i))

  seek_order : WeakOrder (seeks_before sizes)
  seek_order =
      let same : ◌≡◌ {A = ℕ → ℕ → Bool} (seeks_before sizes) (then_by (lower (λ n. get_or sizes n 0)) ltb) = λ k i j. by_size i j k in
      subst WeakOrder (sym same) (then_order (key_order (λ n. get_or sizes n 0)) number_order)

module _ (threshold : Float) (sizes : List ℕ) where
  -- ---- the number that seeks first

  first_number : List ℕ → Option ℕ
  first_number l = least (seeks_before sizes) (keep (seeks_at threshold sizes) l)

  numbered : (l : List ℕ) → first_seeker threshold sizes l ≡ Option.map (seeker_at sizes) (first_number l)
  unfolding first_seeker first_number
  numbered l =
      ap (least comes_first) (keep_map (seeking threshold) (seeker_at sizes) l)
      ∙ least_map (seeks_before sizes) comes_first (seeker_at sizes) (λ x y. refl) (keep (seeks_at threshold sizes) l)

  number_of_lem : (o : Option ℕ) → Option.map (λ (c : Candidate). c.number) (Option.map (seeker_at sizes) o) ≡ o
  unfolding seeker_at
  number_of_lem none = refl
  number_of_lem (some i) = refl

  number_back : (l : List ℕ) → first_number l ≡ Option.map (λ (c : Candidate). c.number) (first_seeker threshold sizes l)
  number_back l = sym (ap (Option.map (λ (c : Candidate). c.number)) (numbered l) ∙ number_of_lem (first_number l))

  -- ---- a number of size 0 does not seek, and so none past the end

  pub no_size_no_seeker : (i : ℕ) → get_or sizes i 0 ≡ 0 → seeks_at threshold sizes i ≡ false
  unfolding seeking seeker_at
  no_size_no_seeker i e =
      ap (λ n. lt (to_f64 0) (to_f64 n) && lt (to_f64 n) threshold) e
      ∙ ap (λ b. b && lt (to_f64 0) threshold) (lt_exact 0 0 (omega arith) (omega arith))

  -- tests that agree on the numbers of two lists
  pub same_kept : (l m : List ℕ) → keep (seeks_at threshold sizes) l ≡ keep (seeks_at threshold sizes) m
      → first_seeker threshold sizes l ≡ first_seeker threshold sizes m
  unfolding first_seeker
  same_kept l m e =
      ap (least comes_first) (keep_map (seeking threshold) (seeker_at sizes) l)
      ∙ ap (λ t. least comes_first (map (seeker_at sizes) t)) e
      ∙ sym (ap (least comes_first) (keep_map (seeking threshold) (seeker_at sizes) m))

  pub cut_short : (a x y : ℕ) → length sizes ≤ a + x → first_seeker threshold sizes (range a (x + y)) ≡ first_seeker threshold sizes (range a x)
  cut_short a x y h =
      let seeks : ℕ → Bool = seeks_at threshold sizes in
      same_kept (range a (x + y)) (range a x)
      (ap (keep seeks) (range_append a x y)
      ∙ keep_append seeks (range a x) (range (a + x) y)
      ∙ ap (λ l. keep seeks (range a x) ++ l) (keep_none seeks (range (a + x) y)
      (λ i m. no_size_no_seeker i (get_or-eq_default sizes 0 (let r = range_mem (a + x) y i m in omega arith))))
      ∙ append-nil (keep seeks (range a x)))

  -- ---- two lists end to end

  module _ (exact : Exact sizes) where
    number_append : (l m : List ℕ) → first_number (l ++ m) ≡ sooner (seeks_before sizes) (first_number l) (first_number m)
    unfolding first_number
    number_append l m =
        ap (least (seeks_before sizes)) (keep_append (seeks_at threshold sizes) l m)
        ∙ least_append (seeks_before sizes) (seek_order sizes exact) (keep (seeks_at threshold sizes) l) (keep (seeks_at threshold sizes) m)

    -- lists with the same first seekers in place of others
    pub same_ends : (l l' m m' : List ℕ) → first_seeker threshold sizes l ≡ first_seeker threshold sizes l'
        → first_seeker threshold sizes m ≡ first_seeker threshold sizes m'
        → first_seeker threshold sizes (l ++ m) ≡ first_seeker threshold sizes (l' ++ m')
    same_ends l l' m m' e f =
        let first : first_number l ≡ first_number l' = number_back l ∙ ap (Option.map (λ (c : Candidate). c.number)) e ∙ sym (number_back l') in
        let second : first_number m ≡ first_number m' = number_back m ∙ ap (Option.map (λ (c : Candidate). c.number)) f ∙ sym (number_back m') in
        numbered (l ++ m)
        ∙ ap (Option.map (seeker_at sizes)) (number_append l m ∙ ap₂ (sooner (seeks_before sizes)) first second ∙ sym (number_append l' m'))
        ∙ sym (numbered (l' ++ m'))

  -- the one of two that is ahead stands for both
  pub both_ahead : (best i : ℕ) → first_seeker threshold sizes (ahead threshold sizes best i ∷ []) ≡ first_seeker threshold sizes (best ∷ i ∷ [])
  unfolding first_seeker ahead keep keep_head least
  both_ahead best i = go (seeks_at threshold sizes i) (seeks_at threshold sizes best) (seeks_before sizes i best) refl refl refl
    where
      go : (p q r : Bool) → seeks_at threshold sizes i ≡ p → seeks_at threshold sizes best ≡ q → seeks_before sizes i best ≡ r
          → first_seeker threshold sizes (ahead threshold sizes best i ∷ []) ≡ first_seeker threshold sizes (best ∷ i ∷ [])
      go false q r e f g = rw e
      go true false r e f g = rw (e, f, e)
      go true true true e f g = rw (e, f, g, e)
      go true true false e f g = rw (e, f, g, f)

  between : (start best i : ℕ) → start ≤ best → best < i → (start ≤ ahead threshold sizes best i) × (ahead threshold sizes best i ≤ i)
  unfolding ahead
  between start best i from below =
      let is-best : (start ≤ best) × (best ≤ i) = (from, omega arith) in
      let is-i : (start ≤ i) × (i ≤ i) = (omega arith, omega arith) in
      cond_holds (λ n. (start ≤ n) × (n ≤ i)) (seeks_at threshold sizes i) (cond (seeks_at threshold sizes best) (cond (seeks_before sizes i best) i best) i) best
      (cond_holds (λ n. (start ≤ n) × (n ≤ i)) (seeks_at threshold sizes best) (cond (seeks_before sizes i best) i best) i
      (cond_holds (λ n. (start ≤ n) × (n ≤ i)) (seeks_before sizes i best) i best is-i is-best) is-i) is-best

  -- ---- one block, looked through from its start

  pub looked_first : (start : ℕ) → LookedThrough threshold sizes start (start + 1) start
  unfolding range
  looked_first start =
      let one : 1 ≡ start + 1 - start = omega arith in
      record { from = omega arith; below = omega arith; first = ap (λ n. first_seeker threshold sizes (range start n)) one }

  pub looked_more : Exact sizes → (start i best next : ℕ) → next ≡ ahead threshold sizes best i → LookedThrough threshold sizes start i best
      → LookedThrough threshold sizes start (i + 1) next
  looked_more exact start i best next is looked =
      let last : start + (i - start) ≡ i = omega (arith, looked.from, looked.below) in
      let long : suc (i - start) ≡ i + 1 - start = omega (arith, looked.from, looked.below) in
      let in_block = between start best i looked.from looked.below in
      record {
        from = omega (arith, is, in_block.0);
        below = omega (arith, is, in_block.1);
        first =
            ap (λ n. first_seeker threshold sizes (n ∷ [])) is
            ∙ both_ahead best i
            ∙ same_ends exact (best ∷ []) (range start (i - start)) (i ∷ []) (i ∷ []) looked.first refl
            ∙ ap (λ n. first_seeker threshold sizes (range start (i - start) ++ (n ∷ []))) (sym last)
            ∙ ap (first_seeker threshold sizes) (sym (range_snoc start (i - start)))
            ∙ ap (λ n. first_seeker threshold sizes (range start n)) long;
      }

  pub looked_all : (block end best : ℕ) → LookedThrough threshold sizes (16 * block) end best → end ≤ length sizes → end ≤ 16 * block + 16
      → (end < 16 * block + 16 → end ≡ length sizes) → StandsFor threshold sizes block best
  looked_all block end best looked short most last = record {
    inside = omega (arith, looked.below);
    of_block = omega (arith, looked.from, looked.below);
    first = looked.first ∙ by_number end (16 * block + 16) (λ e. whole e) (λ n. cut (last (omega arith)));
  }
    where
      whole : end ≡ 16 * block + 16 → first_seeker threshold sizes (range (16 * block) (end - 16 * block)) ≡ first_seeker threshold sizes (range (16 * block) 16)
      whole e = let all : end - 16 * block ≡ 16 = omega arith in ap (λ n. first_seeker threshold sizes (range (16 * block) n)) all

      cut : end ≡ length sizes → first_seeker threshold sizes (range (16 * block) (end - 16 * block)) ≡ first_seeker threshold sizes (range (16 * block) 16)
      cut e =
          let rest : (end - 16 * block) + (16 - (end - 16 * block)) ≡ 16 = omega arith in
          sym (cut_short (16 * block) (end - 16 * block) (16 - (end - 16 * block)) (omega (arith, looked.from, looked.below)))
          ∙ ap (λ n. first_seeker threshold sizes (range (16 * block) n)) rest

  -- ---- all blocks

  module _ (exact : Exact sizes) (heads : List ℕ) (stand : Heads threshold sizes heads) where
    first_blocks : (m : ℕ) → m ≤ length heads → first_seeker threshold sizes (take m heads) ≡ first_seeker threshold sizes (range 0 (16 * m))
    unfolding range
    first_blocks zero h = refl
    first_blocks (suc m) h =
        let more : 16 * m + 16 ≡ 16 * suc m = omega arith in
        ap (first_seeker threshold sizes) (take-suc heads m 0 (omega arith))
        ∙ same_ends exact (take m heads) (range 0 (16 * m)) (get_or heads m 0 ∷ []) (range (16 * m) 16)
        (first_blocks m (omega arith)) (stand.stand m (omega arith)).first
        ∙ ap (λ n. first_seeker threshold sizes (range 0 (16 * m) ++ range n 16)) (sym (zero-add (16 * m)))
        ∙ ap (first_seeker threshold sizes) (sym (range_append 0 (16 * m) 16))
        ∙ ap (λ n. first_seeker threshold sizes (range 0 n)) more

    pub first_of_heads : first_seeker threshold sizes heads ≡ first_seeker threshold sizes (range 0 (length sizes))
    first_of_heads =
        let rest : length sizes + (16 * length heads - length sizes) ≡ 16 * length heads = omega (arith, stand.all) in
        ap (first_seeker threshold sizes) (sym (take-length heads))
        ∙ first_blocks (length heads) (omega arith)
        ∙ ap (λ n. first_seeker threshold sizes (range 0 n)) (sym rest)
        ∙ cut_short 0 (length sizes) (16 * length heads - length sizes) (omega arith)

-- ---- a head that is written

module _ (threshold : Float) (sizes heads : List ℕ) (j f : ℕ) (h : j < length heads) (stands : StandsFor threshold sizes j f) where
  pub head_written : Refreshed threshold sizes j heads (set heads j f)
  head_written = record {
    here = subst (StandsFor threshold sizes j) (sym (get_or-set_same heads j f 0 h)) stands;
    others = λ i n. get_or-set_other heads j i f 0 n;
  }

  pub one_more_head : ((i : ℕ) → i < j → StandsFor threshold sizes i (get_or heads i 0)) → (i : ℕ) → i < j + 1
      → StandsFor threshold sizes i (get_or (set heads j f) i 0)
  one_more_head below i l =
      by_number i j
      (λ e. subst (λ k. StandsFor threshold sizes k (get_or (set heads j f) k 0)) (sym e) head_written.here)
      (λ n. subst (StandsFor threshold sizes i) (sym (head_written.others i n)) (below i (omega arith)))

-- ---- sizes that change

-- where the sizes of a block are as they were, what stood for it stands
module _ (threshold : Float) (sizes sizes' : List ℕ) where
  first_same : (l : List ℕ) → ((i : ℕ) → Memᴰ i l → get_or sizes' i 0 ≡ get_or sizes i 0) → first_seeker threshold sizes' l ≡ first_seeker threshold sizes l
  unfolding first_seeker seeker_at
  first_same l h =
      ap (λ c. least comes_first (keep (seeking threshold) c))
      (map_same (seeker_at sizes') (seeker_at sizes) l (λ i m. ap {B = Candidate} (λ n. record { number = i; size = to_f64 n; distance = 0 }) (h i m)))

  pub stands_still : (j f : ℕ) → length sizes' ≡ length sizes → ((i : ℕ) → i / 16 ≡ j → get_or sizes' i 0 ≡ get_or sizes i 0)
      → StandsFor threshold sizes j f → StandsFor threshold sizes' j f
  stands_still j f long same s = record {
    inside = omega (arith, long, s.inside);
    of_block = s.of_block;
    first =
        first_same (f ∷ []) (λ i m. same i (ap (λ n. n / 16) (only i m) ∙ s.of_block))
        ∙ s.first
        ∙ sym (first_same (range (16 * j) 16) (λ i m. same i (let r = range_mem (16 * j) 16 i m in omega arith)));
  }
    where
      only : (i : ℕ) → Memᴰ i (f ∷ []) → i ≡ f
      only i m = ⊎_elim (λ e. e) (λ t. absurd (Memᴰ.not-nil t)) (Memᴰ.cases_cons m)
