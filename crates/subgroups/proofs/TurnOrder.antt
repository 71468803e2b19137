-- The turns of the subgroups of a set whose modules have ranks of their own: each subgroup has a lowest rank of its own, and a run meets the subgroups
-- that are still there in the order of these.
use Rattle.std.proofs.Common.{◌≡◌, ℕ, ◌<◌, ◌≤◌, Bool, true, eqb, ltb, List, map, length, get_or, sym, refl, ap, ◌∙◌, subst, arith, ltb-true, lt-ltb, eq-eqb, eqb-true}
use mathlib.Core.List.{Memᴰ}
use lib.Ieee.{Float}
use Rattle.lists.specs.Keep.{keep}
use Rattle.lists.specs.Packed.{key_of, item_of}
use Rattle.lists.specs.Sort.{sort_by}
use Rattle.lists.proofs.KeepLength.{mem_length}
use Rattle.lists.proofs.Keys.{keys_mem, mem_keys, keys_rise}
use Rattle.lists.proofs.Members.{keep_mem, mem_keep, mem_range}
use Rattle.lists.proofs.Position.{get_or_mem}
use Rattle.lists.proofs.Sort.{Pairs, lower, pairs_map, pairs_kept, sort_keys, keys_same, sort_mem, mem_sort}
use Rattle.merge.specs.Engine.{is_there}
use Rattle.division.proofs.LowestHeld.{lowest_held}
use Rattle.subgroups.specs.Kinds.{kinds_in, kind_of_module}
use Rattle.subgroups.specs.Merged.{merged_kinds, Processed}
use Rattle.subgroups.specs.Items.{modules_in, lowest_in, turn_key, turns_in, number_of}
use Rattle.subgroups.proofs.Numbered.{still}
use Rattle.subgroups.proofs.RunModules.{modules_are, number_still, still_entry}

-- ranks below 4,096, and different ones for different modules of the set
pub record OwnRanks (rank set : List ℕ) : Type 0 where
  pub small : (m : ℕ) → Memᴰ m set → get_or rank m 0 < 4096
  pub apart : (l m : ℕ) → Memᴰ l set → Memᴰ m set → get_or rank l 0 ≡ get_or rank m 0 → l ≡ m

module _ (bits sizes set rank : List ℕ) (few : length set ≤ 4096) (threshold : Float) (kind-bits order : List ℕ)
    (done : Processed bits sizes set rank threshold kind-bits order) (own : OwnRanks rank set) where
  abbrev turn : ℕ → ℕ
  turn = turn_key set rank order

  abbrev low : ℕ → ℕ
  low = lowest_in set rank order

  abbrev number : ℕ → ℕ
  number = number_of set rank order

  abbrev there : List ℕ
  there = still bits sizes set rank few threshold kind-bits order done

  -- a module of subgroup s is one of the set that has ended there
  in_set : (s m : ℕ) → Memᴰ m (modules_in set order s)
      → Memᴰ m set × (get_or (merged_kinds bits sizes set threshold).finals (kind_of_module bits (kinds_in bits set) m) 0 ≡ s)
  in_set s m i =
      let k = keep_mem _ set m (subst (λ l. Memᴰ m l) (modules_are bits sizes set rank few threshold kind-bits order done s) i) in
      (k.0, eqb-true _ s k.1)

  -- the module of an entry is one of its subgroup
  pub has_module : (x : ℕ) → Memᴰ x order → Memᴰ (get_or set (item_of x) 0) (modules_in set order (key_of x))
  has_module x m = mathlib.Core.List.Memᴰ.map (λ y. get_or set (item_of y) 0) (mem_keep (λ y. eqb (key_of y) (key_of x)) x m (eq-eqb (key_of x) (key_of x) refl))

  lowest_of : (x : ℕ) → Memᴰ x order → (l : ℕ) × Memᴰ l (modules_in set order (key_of x)) × (turn x ≡ get_or rank l 0)
  lowest_of x m =
      let i = has_module x m in
      lowest_held rank (modules_in set order (key_of x)) (get_or set (item_of x) 0) i (own.small (get_or set (item_of x) 0) (in_set (key_of x) (get_or set (item_of x) 0) i).0)

  pub turn_small : (x : ℕ) → Memᴰ x order → turn x < 4096
  turn_small x m =
      let o = lowest_of x m in
      omega (arith, o.2, own.small o.0 (in_set (key_of x) o.0 o.1).0)

  -- entries with one lowest rank are of one subgroup
  pub turn_apart : (x y : ℕ) → Memᴰ x order → Memᴰ y order → turn x ≡ turn y → key_of x ≡ key_of y
  turn_apart x y m n e =
      let o = lowest_of x m in
      let q = lowest_of y n in
      let s = in_set (key_of x) o.0 o.1 in
      let t = in_set (key_of y) q.0 q.1 in
      let same : o.0 ≡ q.0 = own.apart o.0 q.0 s.0 t.0 (sym o.2 ∙ e ∙ q.2) in
      sym s.1 ∙ ap (λ v. get_or (merged_kinds bits sizes set threshold).finals (kind_of_module bits (kinds_in bits set) v) 0) same ∙ t.1

  pub number_is : (x : ℕ) → Memᴰ x order → number (turn x) ≡ key_of x
  unfolding number_of
  number_is x m =
      let mine : ℕ → Bool = λ y. eqb (turn y) (turn x) in
      let k : Memᴰ x (keep mine order) = mem_keep mine x m (eq-eqb (turn x) (turn x) refl) in
      let first : ℕ = get_or (keep mine order) 0 0 in
      let i = keep_mem mine order first (get_or_mem (keep mine order) 0 0 (omega (arith, mem_length k))) in
      turn_apart first x i.0 m (eqb-true (turn first) (turn x) i.1)

  -- ---- the order of the turns

  low_apart : (s t : ℕ) → Memᴰ s there → Memᴰ t there → low s ≡ low t → s ≡ t
  low_apart s t m n e =
      let o = still_entry bits sizes set rank few threshold kind-bits order done s m in
      let q = still_entry bits sizes set rank few threshold kind-bits order done t n in
      sym o.2 ∙ turn_apart o.0 q.0 o.1 q.1 (ap low o.2 ∙ e ∙ sym (ap low q.2)) ∙ q.2

  low_number : (k : ℕ) → Memᴰ k (turns_in set rank order order) → low (number k) ≡ k
  low_number k m =
      let o = (keys_mem turn 4096 order k m).1 in
      ap (λ v. low (number v)) (sym o.2) ∙ ap low (number_is o.0 o.1) ∙ o.2

  pub turns_are : map number (turns_in set rank order order) ≡ sort_by (lower low) there
  turns_are =
      keys_same low (map number turns) (sort_by (lower low) there)
      (pairs_map (λ j k. ltb j k ≡ true) (λ s t. lower low s t ≡ true) number
      (λ j k m n e. lt-ltb (low (number j)) (low (number k)) (omega (arith, low_number j m, low_number k n, ltb-true j k e)))
      (keys_rise turn 4096 order))
      (sort_keys low differ)
      (λ s m.
      let o = mathlib.Core.List.Memᴰ.of_map number turns m in
      let x = (keys_mem turn 4096 order o.0 o.1).1 in
      mem_sort (lower low) there s
      (mathlib.Core.List.Memᴰ.cast (sym o.2 ∙ ap number (sym x.2) ∙ number_is x.0 x.1) (number_still bits sizes set rank few threshold kind-bits order done x.0 x.1)))
      (λ s m.
      let o = still_entry bits sizes set rank few threshold kind-bits order done s (sort_mem (lower low) there s m) in
      mathlib.Core.List.Memᴰ.cast (sym (number_is o.0 o.1 ∙ o.2)) (mathlib.Core.List.Memᴰ.map number (mem_keys turn 4096 o.0 o.1 (turn_small o.0 o.1))))
    where
      turns : List ℕ
      turns = turns_in set rank order order

      numbers : List ℕ
      numbers = (merged_kinds bits sizes set threshold).finals

      differ : Pairs (λ s t. low s ≡ low t → ⊥) there
      differ =
          pairs_kept (λ s t. low s ≡ low t → ⊥) (is_there numbers) 0 (length numbers)
          (λ s t h u p q e.
          let m : Memᴰ s there = mem_keep (is_there numbers) s (mem_range 0 (length numbers) s (omega arith) (omega arith)) p in
          let n : Memᴰ t there = mem_keep (is_there numbers) t (mem_range 0 (length numbers) t (omega arith) (omega arith)) q in
          omega (arith, low_apart s t m n e))
