-- An area that is written from the front, one store a turn: so far it holds a list, and the rest is as it was. At the end it is the list.
use Prim.Native.Nat.{ℕ, ◌+◌, ◌≤◌, ◌<◌}
use mathlib.Core.List.{List, [], ◌∷◌, ◌++◌, map}
use mathlib.Core.Path.{◌≡◌, refl, sym, ap, ◌∙◌}
use native.Mathlib.Nat.{add-zero}
use native.Mathlib.Numerals.{add-one}
use native.Mathlib.Omega.{arith}
use lib.ListN.{length, get_or, take, drop, set, length-set, length-map, length-append}
use lib.Seq.{take-suc, take-suc-set, take_all, drop-drop, drop-set-lt, get_or-drop, length-take-le}
use Rattle.lists.specs.Area.{Holds}
use Rattle.lists.specs.Range.{range}
use Rattle.lists.proofs.Map.{get_or_map_below, get_or_map_range}
use Rattle.lists.proofs.Range.{length_range}

-- one element more behind those that the area holds
pub holds_more : {A : Type 0} {list : List A} {count : ℕ} {area : List A} (x : A) → Holds list count area → count < length area
    → Holds (list ++ (x ∷ [])) (count + 1) (set area count x)
holds_more {A} {list} {count} {area} x h b = record {
  number = omega (arith, h.number, length-append list (x ∷ []));
  entries = rw (add-one count, take-suc-set area count x b, h.entries);
}

-- ---- a list that is written over an area of its length

-- its first i elements are written
pub record Copied {A : Type 0} (from to₀ to : List A) (i : ℕ) : Type 0 where
  pub fits : i ≤ length from
  pub room : length from ≡ length to
  pub same_length : length to ≡ length to₀
  pub so_far : take i to ≡ take i from
  pub rest : drop i to ≡ drop i to₀

pub none_copied : {A : Type 0} (from to : List A) → length from ≡ length to → Copied from to to 0
none_copied from to e = record { fits = omega arith; room = e; same_length = refl; so_far = refl; rest = refl }

module _ {A : Type 0} (d : A) (from to₀ to : List A) (i : ℕ) (c : Copied from to₀ to i) where
  pub one_written : i < length to → (v : A) → v ≡ get_or from i d → Copied from to₀ (set to i v) (i + 1)
  one_written h v e =
      let g : i < length from = omega arith in
      let held : Holds (take i from) i to = record { number = sym (length-take-le i from c.fits); entries = c.so_far } in
      record {
        fits = omega arith;
        room = rw length-set c.room;
        same_length = rw length-set c.same_length;
        so_far = (holds_more v held h).entries ∙ ap (λ x. take i from ++ (x ∷ [])) e ∙ sym (rw (add-one i) (take-suc from i d g));
        rest = drop-set-lt (i + 1) to i v (omega arith) ∙ sym (drop-drop 1 i to) ∙ ap (drop 1) c.rest ∙ drop-drop 1 i to₀;
      }

  -- what stands at i is not written yet
  pub unread : get_or to i d ≡ get_or to₀ i d
  unread =
      ap (λ k. get_or to k d) (sym (add-zero i))
      ∙ sym (get_or-drop i to 0 d)
      ∙ ap (λ l. get_or l 0 d) c.rest
      ∙ get_or-drop i to₀ 0 d
      ∙ ap (λ k. get_or to₀ k d) (add-zero i)

pub all_copied : {A : Type 0} (from to₀ to : List A) (i : ℕ) → Copied from to₀ to i → length to ≤ i → to ≡ from
all_copied from to₀ to i c h = let g : length from ≤ i = omega (arith, c.room) in sym (take_all i to h) ∙ c.so_far ∙ take_all i from g

-- ---- a list of numbers, the images of one, and what a function has for each place

pub one_copied : (from to₀ to : List ℕ) (i : ℕ) → Copied from to₀ to i → i < length to → Copied from to₀ (set to i (get_or from i 0)) (i + 1)
one_copied from to₀ to i c h = one_written 0 from to₀ to i c h (get_or from i 0) refl

module _ (f : ℕ → ℕ) (from : List ℕ) where
  pub none_mapped : (to : List ℕ) → length from ≡ length to → Copied (map f from) to to 0
  none_mapped to e = none_copied (map f from) to (length-map from f ∙ e)

  pub one_mapped : (to₀ to : List ℕ) (i : ℕ) → Copied (map f from) to₀ to i → i < length from
      → Copied (map f from) to₀ (set to i (f (get_or from i 0))) (i + 1)
  one_mapped to₀ to i c h =
      one_written 0 (map f from) to₀ to i c (omega (arith, c.room, length-map from f)) (f (get_or from i 0)) (sym (get_or_map_below f from i 0 0 h))

module _ (f : ℕ → ℕ) (n : ℕ) where
  pub none_placed : (to : List ℕ) → n ≡ length to → Copied (map f (range 0 n)) to to 0
  none_placed to e = none_mapped f (range 0 n) to (length_range 0 n ∙ e)

  pub one_placed : (to₀ to : List ℕ) (i : ℕ) → Copied (map f (range 0 n)) to₀ to i → i < n → Copied (map f (range 0 n)) to₀ (set to i (f i)) (i + 1)
  one_placed to₀ to i c h =
      one_written 0 (map f (range 0 n)) to₀ to i c (omega (arith, c.room, length-map (range 0 n) f, length_range 0 n)) (f i) (sym (get_or_map_range f n i 0 h))
