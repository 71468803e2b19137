-- Loops that write from the front of an area on: a list that grows by one element a turn or stays, and an area that is written whole.
use Rattle.std.proofs.Common.{◌≡◌, ℕ, ◌+◌, ◌<◌, ◌≤◌, List, [], ◌∷◌, ◌++◌, map, length, get_or, take, set, sym, refl, ap, ◌∙◌, subst, le_refl, add-one, arith, length-set, take_all, take-suc, take_at}
use mathlib.Core.List.{map-append}
use lib.Seq.{take-set-le}
use Rattle.lists.specs.Area.{Holds}
use Rattle.lists.proofs.Front.{holds_more}

-- of the first i elements the area holds what was to be written
pub record Writing (list : List ℕ) (i count : ℕ) (area₀ area : List ℕ) : Type 0 where
  pub holds : Holds list count area
  pub few : count ≤ i
  pub same_length : length area ≡ length area₀

pub none_written : (area : List ℕ) → Writing [] 0 0 area area
none_written area = record { holds = record { number = refl; entries = refl }; few = omega arith; same_length = refl }

module _ {list : List ℕ} {i count : ℕ} {area₀ area : List ℕ} (w : Writing list i count area₀ area) where
  -- one element is written
  pub one_written : {more : List ℕ} (x : ℕ) → more ≡ list ++ (x ∷ []) → i < length area₀ → Writing more (i + 1) (count + 1) area₀ (set area count x)
  one_written {more} x e h =
      record {
        holds = subst (λ (l : List ℕ). Holds l (count + 1) (set area count x)) (sym e) (holds_more x w.holds (omega (arith, w.few, w.same_length)));
        few = omega (arith, w.few);
        same_length = rw length-set w.same_length;
      }

  -- elements are passed over
  pub none_until : {same : List ℕ} {j : ℕ} → i ≤ j → same ≡ list → Writing same j count area₀ area
  none_until h e =
      record { holds = subst (λ (l : List ℕ). Holds l count area) (sym e) w.holds; few = omega (arith, w.few); same_length = w.same_length }

  -- one is stored behind those that are written, and does not count
  pub none_stored : {same : List ℕ} (x : ℕ) → same ≡ list → Writing same (i + 1) count area₀ (set area count x)
  none_stored {same} x e =
      let s : Writing same (i + 1) count area₀ area = none_until (omega arith) e in
      record {
        holds = record { number = s.holds.number; entries = take-set-le count area count x (le_refl count) ∙ s.holds.entries };
        few = s.few;
        same_length = simp length-set s.same_length;
      }

  pub has_room : i < length area₀ → count < length area
  has_room h = omega (arith, w.few, w.same_length)

-- an element more of an image
pub map_snoc : {A B : Type 0} (f : A → B) (l : List A) (x : A) → map f (l ++ (x ∷ [])) ≡ map f l ++ (f x ∷ [])
map_snoc f l x = map-append f l (x ∷ [])

pub map_take_more : (f : ℕ → ℕ) (l : List ℕ) (i : ℕ) → i < length l → map f (take (i + 1) l) ≡ map f (take i l) ++ (f (get_or l i 0) ∷ [])
map_take_more f l i h =
    let e : take (i + 1) l ≡ take i l ++ (get_or l i 0 ∷ []) = rw (add-one i) (take-suc l i 0 h) in
    ap (map f) e ∙ map_snoc f (take i l) (get_or l i 0)

-- an area that is written to its end is the image
pub all_written : (f : ℕ → ℕ) (l : List ℕ) {area : List ℕ} (i : ℕ) → Holds (map f (take i l)) i area → length l ≤ i → length area ≡ length l → area ≡ map f l
all_written f l {area} i h b e =
    let c : length area ≤ i = omega arith in
    sym (take_all i area c) ∙ h.entries ∙ ap (map f) (take_all i l b)

-- a list of n elements that was written to the front of an area
pub front : {l m : List ℕ} (rest : List ℕ) (n : ℕ) → l ≡ m → length m ≡ n → take n (l ++ rest) ≡ m
front {l} rest n e h = take_at l rest n (ap length e ∙ h) ∙ e
