-- The lowest ranks with one position more: that of its subgroup may fall, the others stay.
use Prim.Native.Nat.{ℕ, ◌+◌, ◌<◌}
use mathlib.Core.List.{List, [], ◌∷◌, ◌++◌, map, map-append, foldl}
use mathlib.Core.Path.{◌≡◌, refl, sym, ap, ◌∙◌}
use native.Mathlib.Omega.{arith}
use borrow.Author.Tests.{eq-eqb, ne_eqb}
use lib.Dec.{ltb, eqb}
use lib.ListN.{length, get_or, set, replicate, length-set, length-map, length-replicate, get_or-replicate}
use lib.Seq.{ext_get_or}
use Rattle.lists.specs.Keep.{keep}
use Rattle.lists.specs.Least.{earlier}
use Rattle.lists.specs.Range.{range}
use Rattle.lists.proofs.Fold.{foldl_append}
use Rattle.lists.proofs.KeepLoop.{keep_range_in, keep_range_out}
use Rattle.lists.proofs.Map.{get_or_map_range}
use Rattle.lists.proofs.Range.{length_range}
use Rattle.lists.proofs.Stored.{set_cases}
use Rattle.division.specs.Divided.{number_at, lowest_rank, modules_of, lowest_ranks}

rank_more : (rank modules : List ℕ) (m : ℕ) → lowest_rank rank (modules ++ (m ∷ [])) ≡ earlier ltb (lowest_rank rank modules) (get_or rank m 0)
unfolding lowest_rank
rank_more rank modules m =
    ap (foldl (earlier ltb) 4096) (map-append (λ n. get_or rank n 0) modules (m ∷ []))
    ∙ foldl_append (earlier ltb) 4096 (map (λ n. get_or rank n 0) modules) (get_or rank m 0 ∷ [])

module _ (finals kind_of modules rank : List ℕ) where
  abbrev so_far : ℕ → ℕ → ℕ
  so_far n s = lowest_rank rank (modules_of finals kind_of modules n s)

  none_yet : (s : ℕ) → so_far 0 s ≡ 4096
  unfolding lowest_rank modules_of range keep
  none_yet s = refl

  own_more : (i s : ℕ) → number_at finals kind_of i ≡ s → so_far (i + 1) s ≡ earlier ltb (so_far i s) (get_or rank (get_or modules i 0) 0)
  unfolding modules_of
  own_more i s e =
      ap (λ (l : List ℕ). lowest_rank rank (map (λ j. get_or modules j 0) l)) (keep_range_in (λ j. eqb (number_at finals kind_of j) s) i (eq-eqb _ s e))
      ∙ ap (lowest_rank rank) (map-append (λ j. get_or modules j 0) (keep (λ j. eqb (number_at finals kind_of j) s) (range 0 i)) (i ∷ []))
      ∙ rank_more rank (modules_of finals kind_of modules i s) (get_or modules i 0)

  other_stays : (i s : ℕ) → (number_at finals kind_of i ≡ s → ⊥) → so_far (i + 1) s ≡ so_far i s
  unfolding modules_of
  other_stays i s ne =
      ap (λ (l : List ℕ). lowest_rank rank (map (λ j. get_or modules j 0) l)) (keep_range_out (λ j. eqb (number_at finals kind_of j) s) i (ne_eqb _ s ne))

  module _ (k : ℕ) where
    abbrev ranks : ℕ → List ℕ
    ranks n = lowest_ranks finals kind_of modules rank k n

    pub length_ranks : (n : ℕ) → length (ranks n) ≡ k
    unfolding lowest_ranks
    length_ranks n = length-map (range 0 k) (so_far n) ∙ length_range 0 k

    pub rank_at : (n s : ℕ) → s < k → get_or (ranks n) s 0 ≡ so_far n s
    unfolding lowest_ranks
    rank_at n s h = get_or_map_range (so_far n) k s 0 h

    pub lowest_none : replicate k 4096 ≡ ranks 0
    lowest_none = ext_get_or 0 _ _ (length-replicate {A = ℕ} k 4096 ∙ sym (length_ranks 0)) at
      where
        at : (s : ℕ) → s < length {A = ℕ} (replicate k 4096) → get_or {A = ℕ} (replicate k 4096) s 0 ≡ get_or (ranks 0) s 0
        at s h =
            let w : s < k = omega (arith, length-replicate {A = ℕ} k 4096) in
            get_or-replicate k s 4096 0 w ∙ sym (none_yet s) ∙ sym (rank_at 0 s w)

    pub lowest_more : (i : ℕ) → number_at finals kind_of i < k
        → set (ranks i) (number_at finals kind_of i) (earlier ltb (get_or (ranks i) (number_at finals kind_of i) 0) (get_or rank (get_or modules i 0) 0)) ≡ ranks (i + 1)
    lowest_more i h = ext_get_or 0 _ _ (length-set (ranks i) s v ∙ length_ranks i ∙ sym (length_ranks (i + 1))) at
      where
        s : ℕ
        s = number_at finals kind_of i

        v : ℕ
        v = earlier ltb (get_or (ranks i) s 0) (get_or rank (get_or modules i 0) 0)

        at : (t : ℕ) → t < length (set (ranks i) s v) → get_or (set (ranks i) s v) t 0 ≡ get_or (ranks (i + 1)) t 0
        at t b =
            let w : t < k = omega (arith, length-set (ranks i) s v, length_ranks i) in
            set_cases (λ x. x ≡ get_or (ranks (i + 1)) t 0) (ranks i) s v t (omega (arith, length_ranks i))
            (λ e. ap (λ x. earlier ltb x (get_or rank (get_or modules i 0) 0)) (rank_at i s h) ∙ sym (own_more i s refl)
            ∙ ap (so_far (i + 1)) (sym e) ∙ sym (rank_at (i + 1) t w))
            (λ ne. rank_at i t w ∙ sym (other_stays i t (λ e. ne (sym e))) ∙ sym (rank_at (i + 1) t w))
