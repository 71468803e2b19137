-- Under a renumbering the modules of the chunks are translated, and with them the chunk number, the next module and the first module of
-- what an accepted call writes.
use Prim.Native.Nat.{ℕ, suc, ◌<◌}
use mathlib.Core.Bool.{Bool, true, false, cond}
use mathlib.Core.List.Memᴰ
use mathlib.Core.List.{List, [], ◌∷◌, map, map-map, Memᴰ}
use mathlib.Core.Logic.{⊎_elim}
use mathlib.Core.Path.{◌≡◌, refl, sym, ap, ap₂, ◌∙◌, subst}
use lib.Dec.{eqb}
use Rattle.lists.specs.Elem.{elem}
use Rattle.lists.specs.Keep.{keep_head}
use Rattle.lists.proofs.Elem.{eqb_translated, elem_translated}
use Rattle.lists.proofs.Members.{map_same}
use Rattle.grouping.specs.Given.{Given}
use Rattle.grouping.specs.Tree.{places_of}
use Rattle.grouping.specs.ChunkList.{Chunk, chunk_list}
use Rattle.grouping.specs.Written.{modules_from, members_of, chunk_number, after, next_module, first_module}
use Rattle.grouping.specs.Renumbering.{Renumbering, Alike, translated}
use Rattle.grouping_laws.proofs.Accepted.{Sound}
use Rattle.grouping_laws.proofs.Places.{places_mem, places_same}
use Rattle.grouping_laws.proofs.TreeEqual.{chunks_same}

-- ---- the modules of the chunks

-- the modules at some places are modules of the list
modules_mem : (p : ℕ) (chosen l : List ℕ) (x : ℕ) → Memᴰ x (modules_from p chosen l) → Memᴰ x l
unfolding modules_from keep_head
modules_mem p chosen [] x m = absurd (Memᴰ.not-nil m)
modules_mem p chosen (y ∷ l) x m = go (elem p chosen) m (modules_mem (suc p) chosen l x)
  where
    go : (t : Bool) → Memᴰ x (keep_head t y (modules_from (suc p) chosen l)) → (Memᴰ x (modules_from (suc p) chosen l) → Memᴰ x l) → Memᴰ x (y ∷ l)
    go true m rest = ⊎_elim (λ e. Memᴰ.head e) (λ t. Memᴰ.tail (rest t)) (Memᴰ.cases_cons m)
    go false m rest = Memᴰ.tail (rest m)

modules_translated : (ρ : ℕ → ℕ) (p : ℕ) (chosen l : List ℕ) → modules_from p chosen (map ρ l) ≡ map ρ (modules_from p chosen l)
unfolding modules_from keep_head
modules_translated ρ p chosen [] = refl
modules_translated ρ p chosen (y ∷ l) = go (elem p chosen) (modules_translated ρ (suc p) chosen l)
  where
    go : (t : Bool) → modules_from (suc p) chosen (map ρ l) ≡ map ρ (modules_from (suc p) chosen l)
        → keep_head t (ρ y) (modules_from (suc p) chosen (map ρ l)) ≡ map ρ (keep_head t y (modules_from (suc p) chosen l))
    go true e = ap (λ (r : List ℕ). ρ y ∷ r) e
    go false e = e

-- all modules of some chunks are below n
abbrev pub Within : ℕ → List (List ℕ) → Type 0
Within n chunks = (modules : List ℕ) → Memᴰ modules chunks → (x : ℕ) → Memᴰ x modules → x < n

pub members_within : (b : Given) → Within b.shared.n (members_of b)
unfolding members_of
members_within b modules m x i =
    let o = Memᴰ.of_map (λ c. modules_from 0 c.places (places_of b)) (chunk_list b) m in
    (places_mem b x (modules_mem 0 o.0.places (places_of b) x (subst (λ (l : List ℕ). Memᴰ x l) (sym o.2) i))).0

module _ {ρ : ℕ → ℕ} {a b : Given} (r : Renumbering a.shared.n ρ) (alike : Alike ρ a b) (sa : Sound a) (sb : Sound b) where
  pub members_same : members_of b ≡ map (map ρ) (members_of a)
  unfolding members_of
  members_same =
      ap₂ (λ (places : List ℕ) (chunks : List Chunk). map (λ c. modules_from 0 c.places places) chunks) (places_same r alike sa sb) (sym (chunks_same r alike sa sb))
      ∙ map_same (λ c. modules_from 0 c.places (map ρ (places_of a))) (λ c. map ρ (modules_from 0 c.places (places_of a))) (chunk_list a)
      (λ c i. modules_translated ρ 0 c.places (places_of a))
      ∙ sym (map-map (map ρ) (λ c. modules_from 0 c.places (places_of a)) (chunk_list a))

-- ---- what is written of a module and of a chunk

pub first_translated : (ρ : ℕ → ℕ) (modules : List ℕ) → first_module (map ρ modules) ≡ translated ρ (first_module modules)
first_translated ρ [] = refl
first_translated ρ (m ∷ modules) = refl

cond_translated : (ρ : ℕ → ℕ) (t : Bool) (x y : ℕ) → cond t (translated ρ x) (translated ρ y) ≡ translated ρ (cond t x y)
cond_translated ρ true x y = refl
cond_translated ρ false x y = refl

module _ (n : ℕ) (ρ : ℕ → ℕ) (r : Renumbering n ρ) (m : ℕ) (h : m < n) where
  in_chunk : (modules : List ℕ) → ((x : ℕ) → Memᴰ x modules → x < n) → elem (ρ m) (map ρ modules) ≡ elem m modules
  in_chunk modules w = elem_translated ρ m modules (λ x i. r.apart m x h (w x i))

  pub number_translated : (number : ℕ) (chunks : List (List ℕ)) → Within n chunks → chunk_number number (ρ m) (map (map ρ) chunks) ≡ chunk_number number m chunks
  unfolding chunk_number
  number_translated number [] w = refl
  number_translated number (modules ∷ chunks) w =
      ap₂ (λ (t : Bool) (k : ℕ). cond t (suc number) k)
      (in_chunk modules (w modules (Memᴰ.head refl)))
      (number_translated (suc number) chunks (λ l i. w l (Memᴰ.tail i)))

  after_translated : (modules : List ℕ) → ((x : ℕ) → Memᴰ x modules → x < n) → after (ρ m) (map ρ modules) ≡ translated ρ (after m modules)
  unfolding after
  after_translated [] w = refl
  after_translated (x ∷ []) w = refl
  after_translated (x ∷ y ∷ modules) w =
      ap₂ (λ (t : Bool) (k : ℕ). cond t (suc (ρ y)) k)
      (eqb_translated ρ x m (r.apart x m (w x (Memᴰ.head refl)) h))
      (after_translated (y ∷ modules) (λ z i. w z (Memᴰ.tail i)))
      ∙ cond_translated ρ (eqb x m) (suc y) (after m (y ∷ modules))

  pub next_translated : (chunks : List (List ℕ)) → Within n chunks → next_module (ρ m) (map (map ρ) chunks) ≡ translated ρ (next_module m chunks)
  unfolding next_module
  next_translated [] w = refl
  next_translated (modules ∷ chunks) w =
      let here = w modules (Memᴰ.head refl) in
      (λ i. cond (in_chunk modules here i) (after_translated modules here i) (next_translated chunks (λ l j. w l (Memᴰ.tail j)) i))
      ∙ cond_translated ρ (elem m modules) (after m modules) (next_module m chunks)
