-- Marks and list go on agreeing: with nothing marked the list is empty, and a module that is found is marked and put at its end.
use Prim.Native.Nat.{ℕ, suc, ◌+◌, ◌≤◌, ◌<◌}
use mathlib.Core.Bool.{false}
use mathlib.Core.List.{List}
use mathlib.Core.Logic.{◌⊎◌, inl, inr, ⊎_elim}
use mathlib.Core.Path.{◌≡◌, refl, sym, ap, ◌∙◌, subst}
use native.Mathlib.Nat.{not-suc-le-zero}
use native.Mathlib.Omega.{arith}
use lib.Dec.{eqb}
use lib.ListN.{length, get_or, set, length-set, replicate, length-replicate, get_or-replicate}
use lib.Seq.{get_or-set_same, get_or-set_other}
use Rattle.lists.proofs.Stored.{set_cases}
use Rattle.lists.proofs.Count.{count_none, count_room, count_more}
use Rattle.walk.specs.Names.{Eligible}
use Rattle.walk.specs.Walk.{Walk, marked_count, WalkState, found}

-- nothing is marked
pub state_none : (flags queue : List ℕ) (n : ℕ) → n ≤ length queue → WalkState flags n (record { marks = replicate n 0; queue = queue; tail = 0 })
unfolding marked_count
state_none flags queue n h =
    record {
      mark_bytes = length-replicate n 0;
      room = h;
      byte = λ m l. inr (get_or-replicate n m 0 0 l);
      eligible_ones = λ m l e. absurd (not_one m l e);
      queued = λ i l. absurd (not-suc-le-zero l);
      listed = λ m l e. absurd (not_one m l e);
      count = sym (count_none (λ m. eqb (get_or (replicate n 0) m 0) 1) n (λ m l. ap (λ (x : ℕ). eqb x 1) (get_or-replicate n m 0 0 l)));
    }
  where
    not_one : (m : ℕ) → m < n → ◌≡◌ {A = ℕ} (get_or (replicate n 0) m 0) 1 → ⊥
    not_one m l e = let z = get_or-replicate {A = ℕ} n m 0 0 l in omega arith

module _ (flags : List ℕ) (n : ℕ) (w : Walk) (s : WalkState flags n w) (k : ℕ) (h : k < n) (e : get_or w.marks k 0 ≡ 0) where
  -- a module that isn't marked has room on the list
  pub state_room : w.tail < length w.queue
  unfolding marked_count
  state_room =
      let p : eqb (get_or w.marks k 0) 1 ≡ false = ap (λ (x : ℕ). eqb x 1) e in
      omega (arith, s.count, s.room, count_room (λ m. eqb (get_or w.marks m 0) 1) n k h p)

  pub in_marks : k < length w.marks
  in_marks = omega (arith, s.mark_bytes)

  -- what was marked stays marked
  pub kept_mark : (m : ℕ) → get_or w.marks m 0 ≡ 1 → get_or (set w.marks k 1) m 0 ≡ 1
  kept_mark m o = set_cases (λ x. x ≡ 1) w.marks k 1 m in_marks (λ q. refl) (λ q. o)

  pub kept_place : (i : ℕ) → i < w.tail → get_or (set w.queue w.tail k) i 0 ≡ get_or w.queue i 0
  kept_place i l = get_or-set_other w.queue w.tail i k 0 (λ q. omega arith)

  -- who is marked now
  pub now_marked : (m : ℕ) → get_or (set w.marks k 1) m 0 ≡ 1 → (m ≡ k) ⊎ (get_or w.marks m 0 ≡ 1)
  now_marked m o = set_cases (λ x. x ≡ 1 → (m ≡ k) ⊎ (get_or w.marks m 0 ≡ 1)) w.marks k 1 m in_marks (λ q z. inl q) (λ q z. inr z) o

  pub state_found : Eligible flags k → WalkState flags n (found w k)
  unfolding marked_count
  state_found el =
      record {
        mark_bytes = simp length-set s.mark_bytes;
        room = simp length-set s.room;
        byte = λ m l. set_cases (λ x. (x ≡ 1) ⊎ (x ≡ 0)) w.marks k 1 m in_marks (λ q. inl refl) (λ q. s.byte m l);
        eligible_ones = λ m l o. ⊎_elim (λ q. subst (Eligible flags) (sym q) el) (λ z. s.eligible_ones m l z) (now_marked m o);
        queued = λ i l. set_cases (λ x. (x < n) × (get_or (set w.marks k 1) x 0 ≡ 1)) w.queue w.tail k i state_room (λ q. (h, is_marked_lem)) (λ q. old_queued i (omega arith));
        listed = λ m l o. ⊎_elim (λ q. (w.tail, omega arith, get_or-set_same w.queue w.tail k 0 state_room ∙ sym q)) (λ z. old_place m l z) (now_marked m o);
        count = omega (arith, s.count, more_marked);
      }
    where
      is_marked_lem : get_or (set w.marks k 1) k 0 ≡ 1
      is_marked_lem = get_or-set_same w.marks k 1 0 in_marks

      old_queued : (i : ℕ) → i < w.tail → (get_or w.queue i 0 < n) × (get_or (set w.marks k 1) (get_or w.queue i 0) 0 ≡ 1)
      old_queued i l = let o = s.queued i l in (o.0, kept_mark (get_or w.queue i 0) o.1)

      more_marked : marked_count (set w.marks k 1) n ≡ suc (marked_count w.marks n)
      more_marked =
          count_more (λ m. eqb (get_or w.marks m 0) 1) (λ m. eqb (get_or (set w.marks k 1) m 0) 1) n k h
          (ap (λ (x : ℕ). eqb x 1) e)
          (ap (λ (x : ℕ). eqb x 1) is_marked_lem)
          (λ j q. ap (λ (x : ℕ). eqb x 1) (get_or-set_other w.marks k j 1 0 q))

      old_place : (m : ℕ) → m < n → get_or w.marks m 0 ≡ 1 → (i : ℕ) × (i < w.tail + 1) × (get_or (set w.queue w.tail k) i 0 ≡ m)
      old_place m l z = let o = s.listed m l z in (o.0, omega (arith, o.1), kept_place o.0 o.1 ∙ o.2)
