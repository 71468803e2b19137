-- The same value stored at each place of a list: the places of the list have it, all others have what they had.
use Prim.Native.Nat.{ℕ, zero, suc, ◌+◌, ◌≤◌, ◌<◌}
use mathlib.Core.List.Memᴰ
use mathlib.Core.List.{List, [], ◌∷◌, ◌++◌, Memᴰ}
use mathlib.Core.Logic.{◌⊎◌, inl, inr, ⊎_elim}
use mathlib.Core.Path.{◌≡◌, refl, sym, ap, ◌∙◌, subst}
use native.Mathlib.Decide.{ℕ_discrete, dec_lt}
use native.Mathlib.Numerals.{add-one}
use native.Mathlib.Omega.{arith}
use lib.ListN.{length, get_or, set, take, replicate, length-set}
use lib.Seq.{take-suc, take_all, get_or-set_same, get_or-set_other, set-get_or, set_out}
use Rattle.lists.specs.Stored.{stored}

-- a table of zeros, of any length
pub zeros : (n k : ℕ) → get_or {A = ℕ} (replicate n 0) k 0 ≡ 0
zeros zero k = refl
zeros (suc n) zero = refl
zeros (suc n) (suc k) = zeros n k

-- what stands at k after a store at r
pub one_stored : (v : ℕ) (area : List ℕ) (r k : ℕ) → ((get_or (set area r v) k 0 ≡ v) × (k ≡ r)) ⊎ (get_or (set area r v) k 0 ≡ get_or area k 0)
one_stored v area r k = go (ℕ_discrete k r) (dec_lt r (length area))
  where
    go : Dec (k ≡ r) → Dec (r < length area) → ((get_or (set area r v) k 0 ≡ v) × (k ≡ r)) ⊎ (get_or (set area r v) k 0 ≡ get_or area k 0)
    go (yes e) (yes l) = inl (ap (λ (j : ℕ). get_or (set area r v) j 0) e ∙ get_or-set_same area r v 0 l, e)
    go (yes e) (no l) = inr (ap (λ (s : List ℕ). get_or s k 0) (set_out area r v (omega arith)))
    go (no e) l = inr (get_or-set_other area r k v 0 e)

-- place w of the changed list: the one that is changed, or another
pub set_cases : (P : ℕ → Type 0) (l : List ℕ) (i v w : ℕ) → i < length l → (w ≡ i → P v) → ((w ≡ i → ⊥) → P (get_or l w 0)) → P (get_or (set l i v) w 0)
set_cases P l i v w h same other = go (ℕ_discrete w i)
  where
    go : Dec (w ≡ i) → P (get_or (set l i v) w 0)
    go (yes e) = subst P (sym (ap (λ (k : ℕ). get_or (set l i v) k 0) e ∙ get_or-set_same l i v 0 h)) (same e)
    go (no e) = subst P (sym (get_or-set_other l i w v 0 e)) (other e)

module _ (v : ℕ) where
  pub stored_length : (rs area : List ℕ) → length (stored v rs area) ≡ length area
  unfolding stored
  stored_length [] area = refl
  stored_length (r ∷ rs) area = stored_length rs (set area r v) ∙ length-set area r v

  pub stored_either : (rs area : List ℕ) (k : ℕ) → ((get_or (stored v rs area) k 0 ≡ v) × Memᴰ k rs) ⊎ (get_or (stored v rs area) k 0 ≡ get_or area k 0)
  unfolding stored
  stored_either [] area k = inr refl
  stored_either (r ∷ rs) area k =
      ⊎_elim (λ p. inl (p.0, Memᴰ.tail p.1))
      (λ e. ⊎_elim (λ p. inl (e ∙ p.0, Memᴰ.head p.1)) (λ f. inr (e ∙ f)) (one_stored v area r k))
      (stored_either rs (set area r v) k)

  pub stored_kept : (rs area : List ℕ) (k : ℕ) → get_or area k 0 ≡ v → get_or (stored v rs area) k 0 ≡ v
  stored_kept rs area k e = ⊎_elim (λ p. p.0) (λ f. f ∙ e) (stored_either rs area k)

  pub stored_on : (rs area : List ℕ) (k : ℕ) → k < length area → Memᴰ k rs → get_or (stored v rs area) k 0 ≡ v
  unfolding stored
  stored_on [] area k h m = absurd (Memᴰ.not-nil m)
  stored_on (r ∷ rs) area k h m =
      ⊎_elim
      (λ e. stored_kept rs (set area r v) k (ap (λ (j : ℕ). get_or (set area r v) j 0) e ∙ get_or-set_same area r v 0 (subst (λ (j : ℕ). j < length area) e h)))
      (λ t. stored_on rs (set area r v) k (simp length-set h) t)
      (Memᴰ.cases_cons m)

  -- nothing changes where all have it already
  pub stored_same : (rs area : List ℕ) → ((k : ℕ) → Memᴰ k rs → get_or area k 0 ≡ v) → stored v rs area ≡ area
  unfolding stored
  stored_same [] area all = refl
  stored_same (r ∷ rs) area all =
      let same : set area r v ≡ area = ap (set area r) (sym (all r (Memᴰ.head refl))) ∙ set-get_or area r 0 in
      ap (stored v rs) same ∙ stored_same rs area (λ k m. all k (Memᴰ.tail m))

  -- ---- one place after another

  stored_then : (l m area : List ℕ) → stored v (l ++ m) area ≡ stored v m (stored v l area)
  unfolding stored
  stored_then [] m area = refl
  stored_then (x ∷ l) m area = stored_then l m (set area x v)

  module _ (list area : List ℕ) where
    pub stored_none : area ≡ stored v (take 0 list) area
    unfolding stored
    stored_none = refl

    pub stored_more : (i : ℕ) → i < length list → {now : List ℕ} → now ≡ stored v (take i list) area
        → set now (get_or list i 0) v ≡ stored v (take (i + 1) list) area
    unfolding stored
    stored_more i h {now} e =
        let more : take (i + 1) list ≡ take i list ++ (get_or list i 0 ∷ []) = rw (add-one i) (take-suc list i 0 h) in
        ap (λ (l : List ℕ). set l (get_or list i 0) v) e
        ∙ sym (stored_then (take i list) (get_or list i 0 ∷ []) area)
        ∙ ap (λ (l : List ℕ). stored v l area) (sym more)

    pub stored_all : (i : ℕ) → length list ≤ i → {now : List ℕ} → now ≡ stored v (take i list) area → now ≡ stored v list area
    stored_all i h e = e ∙ ap (λ (l : List ℕ). stored v l area) (take_all i list h)
