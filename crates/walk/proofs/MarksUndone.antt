-- The marks of a walk undone along its list.
use Prim.Native.Nat.{ℕ, ◌≤◌, ◌<◌}
use mathlib.Core.List.{List, Memᴰ}
use mathlib.Core.Logic.{⊎_elim}
use mathlib.Core.Path.{◌≡◌, sym, ◌∙◌, subst}
use native.Mathlib.Omega.{arith}
use lib.ListN.{length, get_or, take, replicate, length-replicate}
use lib.Seq.{ext_get_or, get_or-take, length-take-le}
use Rattle.lists.proofs.Position.{get_or_mem}
use Rattle.lists.specs.Stored.{stored}
use Rattle.lists.proofs.Stored.{zeros, stored_length, stored_either, stored_on}
use Rattle.walk.specs.Walk.{Walk, WalkState}

module _ {flags : List ℕ} {n : ℕ} {w : Walk} (s : WalkState flags n w) (fits : w.tail ≤ length w.queue) where
  abbrev pub list_of : List ℕ
  list_of = take w.tail w.queue

  long : length (stored 0 list_of w.marks) ≡ n
  long = stored_length 0 list_of w.marks ∙ s.mark_bytes

  -- what is marked is on the list
  pub on_list : (m : ℕ) → m < n → get_or w.marks m 0 ≡ 1 → Memᴰ m list_of
  on_list m h e =
      let o = s.listed m h e in
      subst (λ (k : ℕ). Memᴰ k list_of) (get_or-take w.tail w.queue o.0 0 o.1 ∙ o.2)
      (get_or_mem list_of o.0 0 (omega (arith, o.1, length-take-le w.tail w.queue fits)))

  -- and what is on it is a module
  pub list_in : (i : ℕ) → i < length list_of → get_or list_of i 0 < n
  list_in i h =
      let l : i < w.tail = omega (arith, length-take-le w.tail w.queue fits) in
      subst (λ (k : ℕ). k < n) (sym (get_or-take w.tail w.queue i 0 l)) (s.queued i l).0

  undone_at : (m : ℕ) → m < n → get_or (stored 0 list_of w.marks) m 0 ≡ 0
  undone_at m h =
      ⊎_elim (λ e. stored_on 0 list_of w.marks m (omega (arith, s.mark_bytes)) (on_list m h e))
      (λ e. ⊎_elim (λ p. p.0) (λ f. f ∙ e) (stored_either 0 list_of w.marks m)) (s.byte m h)

  -- so with the marks of the list undone none is left
  pub marks_undone : stored 0 list_of w.marks ≡ replicate n 0
  marks_undone =
      ext_get_or 0 (stored 0 list_of w.marks) (replicate n 0) (long ∙ sym (length-replicate n 0))
      (λ m h. undone_at m (subst (λ (k : ℕ). m < k) long h) ∙ sym (zeros n m))
