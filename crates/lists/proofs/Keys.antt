-- The keys of a list: which they are, that they rise, that they do not depend on the list's order, and the lowest of them first.
use Prim.Native.Nat.{ℕ, ◌<◌}
use mathlib.Core.Bool.{true}
use mathlib.Core.List.Memᴰ
use mathlib.Core.List.{List, [], ◌∷◌, ◌++◌, map, Memᴰ}
use mathlib.Core.List.Permᴰ
use mathlib.Core.List.{Permᴰ}
use mathlib.Core.Logic.{⊎_elim}
use mathlib.Core.Path.{◌≡◌, refl, sym, ◌∙◌, subst}
use native.Mathlib.Omega.{arith}
use borrow.Author.Tests.{lt-ltb}
use lib.Dec.{ltb}
use Rattle.lists.specs.Elem.{elem}
use Rattle.lists.specs.Keys.{keys_in}
use Rattle.lists.specs.Range.{range}
use Rattle.lists.proofs.Elem.{elem_mem, mem_elem}
use Rattle.lists.proofs.KeepTests.{keep_none}
use Rattle.lists.proofs.Members.{keep_mem, mem_keep, range_mem, mem_range}
use Rattle.lists.proofs.Rearranged.{perm_mem}
use Rattle.lists.proofs.Sort.{more, Rising, keys_same, pairs_kept}

module _ {A : Type 0} (key : A → ℕ) (bound : ℕ) where
  pub keys_mem : (l : List A) (k : ℕ) → Memᴰ k (keys_in key bound l) → (k < bound) × ((x : A) × Memᴰ x l × (key x ≡ k))
  unfolding keys_in
  keys_mem l k m =
      let s = keep_mem (λ j. elem j (map key l)) (range 0 bound) k m in
      let r = range_mem 0 bound k s.0 in
      (omega arith, Memᴰ.of_map key l (elem_mem k (map key l) s.1))

  pub mem_keys : {l : List A} (x : A) → Memᴰ x l → key x < bound → Memᴰ (key x) (keys_in key bound l)
  unfolding keys_in
  mem_keys {l} x m h = mem_keep (λ j. elem j (map key l)) (key x) (mem_range 0 bound (key x) (omega arith) (omega arith)) (mem_elem (key x) (Memᴰ.map key m))

  pub keys_rise : (l : List A) → Rising ltb (keys_in key bound l)
  unfolding keys_in
  keys_rise l = pairs_kept (λ j k. ltb j k ≡ true) (λ j. elem j (map key l)) 0 bound (λ j k h u p q. lt-ltb j k h)

  pub keys_none : keys_in key bound [] ≡ []
  unfolding keys_in elem
  keys_none = keep_none (λ j. elem j (map key [])) (range 0 bound) (λ x m. refl)

  there : {l m : List A} → ((x : A) → Memᴰ x l → Memᴰ x m) → (k : ℕ) → Memᴰ k (keys_in key bound l) → Memᴰ k (keys_in key bound m)
  there {l} h k i =
      let s = keys_mem l k i in
      Memᴰ.cast (sym s.1.2) (mem_keys s.1.0 (h s.1.0 s.1.1) (omega arith))

  pub keys_perm : {l m : List A} → Permᴰ l m → keys_in key bound l ≡ keys_in key bound m
  keys_perm {l} {m} d =
      keys_same (λ n. n) (keys_in key bound l) (keys_in key bound m) (keys_rise l) (keys_rise m)
      (there (perm_mem d)) (there (perm_mem (Permᴰ.symm d)))

  -- elements of key k, at least one, and then elements of higher keys
  pub keys_lowest : (k : ℕ) (l m : List A) (x : A) → Memᴰ x l → k < bound
      → ((y : A) → Memᴰ y l → key y ≡ k) → ((y : A) → Memᴰ y m → k < key y)
      → keys_in key bound (l ++ m) ≡ k ∷ keys_in key bound m
  keys_lowest k l m x i h same higher =
      keys_same (λ n. n) (keys_in key bound (l ++ m)) (k ∷ keys_in key bound m) (keys_rise (l ++ m)) (more first (keys_rise m)) forth back
    where
      first : (j : ℕ) → Memᴰ j (keys_in key bound m) → ltb k j ≡ true
      first j n = let s = keys_mem m j n in subst (λ v. ltb k v ≡ true) s.1.2 (lt-ltb k (key s.1.0) (higher s.1.0 s.1.1))

      forth : (j : ℕ) → Memᴰ j (keys_in key bound (l ++ m)) → Memᴰ j (k ∷ keys_in key bound m)
      forth j n =
          let s = keys_mem (l ++ m) j n in
          let e : key s.1.0 ≡ j = s.1.2 in
          let b : j < bound = s.0 in
          ⊎_elim
          (λ u. Memᴰ.head (sym e ∙ same s.1.0 u))
          (λ u. Memᴰ.tail (Memᴰ.cast (sym e) (mem_keys s.1.0 u (omega arith))))
          (Memᴰ.append_cases l s.1.1)

      back : (j : ℕ) → Memᴰ j (k ∷ keys_in key bound m) → Memᴰ j (keys_in key bound (l ++ m))
      back j n =
          let e : key x ≡ k = same x i in
          ⊎_elim
          (λ q. Memᴰ.cast (q ∙ sym e) (mem_keys x (Memᴰ.append_left m i) (omega arith)))
          (λ u. there (λ y v. Memᴰ.append_right l v) j u)
          (Memᴰ.cases_cons n)
