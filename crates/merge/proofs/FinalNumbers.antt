-- Final numbers: through a merge each number on entry ends as the number of a subgroup that is still there, and each subgroup that is still there
-- has a number that some subgroup on entry has now. None on entry is lost.
use Prim.Native.Nat.{ℕ}
use mathlib.Core.Bool.{Bool, true, false, cond, not, false≢true}
use mathlib.Core.List.Memᴰ
use mathlib.Core.List.{List, map, Memᴰ}
use mathlib.Core.Path.{◌≡◌, refl, sym, ap, ◌∙◌}
use lib.Dec.{eqb}
use lib.Ieee.{Float}
use lib.ListN.{length, length-map}
use Rattle.lists.proofs.Least.{cond_holds}
use Rattle.lists.proofs.Members.{keep_mem, mem_keep}
use Rattle.joins.specs.Subgroup.{Subgroup, united}
use Rattle.merge.specs.Merge.{Merging, others, joined, merged}
use Rattle.merge.proofs.Invariants.{merged_keeps}
use Rattle.merge.proofs.NumbersAscend.{become_number}

-- ---- each number ends at a subgroup

-- of k subgroups on entry each has now the number of one that is there
pub record Ended (k : ℕ) (m : Merging) : Type 0 where
  pub entries : length m.finals ≡ k
  pub ended : (n : ℕ) → Memᴰ n m.finals → (s : Subgroup) × Memᴰ s m.there × (s.number ≡ n)

module _ (k : ℕ) where
  joined_ended : (s t : Subgroup) (m : Merging) → Memᴰ s m.there → Memᴰ t (others s m.there) → Ended k m → Ended k (joined s t m)
  unfolding joined others united
  joined_ended s t m _ i h = record { entries = length-map m.finals now ∙ h.entries; ended = λ n j. of_map n (Memᴰ.of_map now m.finals j) }
    where
      now : ℕ → ℕ
      now n = cond (eqb n s.number) t.number n

      become : Subgroup → Subgroup
      become u = cond (eqb u.number t.number) (united s t) u

      -- one that does not vanish is there afterwards, under its number
      stays : (u : Subgroup) → Memᴰ u (others s m.there) → (n : ℕ) → u.number ≡ n
          → (v : Subgroup) × Memᴰ v (map become (others s m.there)) × (v.number ≡ n)
      stays u j n e = (become u, Memᴰ.map become j, become_number s t u ∙ e)

      of_map : (n : ℕ) → (o : ℕ) × Memᴰ o m.finals × (now o ≡ n) → (v : Subgroup) × Memᴰ v (map become (others s m.there)) × (v.number ≡ n)
      of_map n o = let u = h.ended o.0 o.1 in go (eqb o.0 s.number) refl o.2 u.0 u.1 u.2
        where
          go : (c : Bool) → eqb o.0 s.number ≡ c → cond c t.number o.0 ≡ n → (u : Subgroup) → Memᴰ u m.there → u.number ≡ o.0
              → (v : Subgroup) × Memᴰ v (map become (others s m.there)) × (v.number ≡ n)
          go true e q u j f = stays t i n q
          go false e q u j f =
              stays u (mem_keep (λ v. not (eqb v.number s.number)) u j (ap (λ (x : ℕ). not (eqb x s.number)) f ∙ ap not e)) n (f ∙ q)

  pub merged_ended : (threshold : Float) (m : Merging) → Ended k m → Ended k (merged threshold m)
  merged_ended = merged_keeps (Ended k) joined_ended

-- ---- each subgroup has a number

-- k subgroups on entry, and the numbers of those that are there
pub record Known (k : ℕ) (m : Merging) : Type 0 where
  pub entries : length m.finals ≡ k
  pub known : (s : Subgroup) → Memᴰ s m.there → Memᴰ s.number m.finals

-- t is there, and has another number than s
abbrev Other : List Subgroup → Subgroup → Subgroup → Type 0
Other there s t = Memᴰ t there × (not (eqb t.number s.number) ≡ true)

other_number : (x y : ℕ) → not (eqb x y) ≡ true → eqb x y ≡ false
other_number x y e = go (eqb x y) e
  where
    go : (b : Bool) → not b ≡ true → b ≡ false
    go true f = absurd (false≢true f)
    go false f = refl

others_other : (there : List Subgroup) (s t : Subgroup) → Memᴰ t (others s there) → Other there s t
unfolding others
others_other there s t m = keep_mem (λ u. not (eqb u.number s.number)) there t m

module _ (k : ℕ) where
  joined_known : (s t : Subgroup) (m : Merging) → Memᴰ s m.there → Memᴰ t (others s m.there) → Known k m → Known k (joined s t m)
  unfolding joined united
  joined_known s t m _ j h = record { entries = length-map m.finals now ∙ h.entries; known = λ u i. of_map u (Memᴰ.of_map become (others s m.there) i) }
    where
      now : ℕ → ℕ
      now n = cond (eqb n s.number) t.number n

      become : Subgroup → Subgroup
      become u = cond (eqb u.number t.number) (united s t) u

      -- a number other than that of s stays
      stays : (u : Subgroup) → Other m.there s u → Memᴰ u.number (map now m.finals)
      stays u p =
          let e : now u.number ≡ u.number = ap (λ (b : Bool). cond b t.number u.number) (other_number u.number s.number p.1) in
          Memᴰ.cast (sym e) (Memᴰ.map now (h.known u p.0))

      of_map : (u : Subgroup) → (v : Subgroup) × Memᴰ v (others s m.there) × (become v ≡ u) → Memᴰ u.number (map now m.finals)
      of_map u v =
          Memᴰ.cast (ap (λ (w : Subgroup). w.number) (sym v.2))
          (cond_holds (λ (w : Subgroup). Memᴰ w.number (map now m.finals)) (eqb v.0.number t.number) (united s t) v.0
          (stays t (others_other m.there s t j)) (stays v.0 (others_other m.there s v.0 v.1)))

  pub merged_known : (threshold : Float) (m : Merging) → Known k m → Known k (merged threshold m)
  merged_known = merged_keeps (Known k) joined_known
