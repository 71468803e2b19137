-- Runs of equal keys in a list whose keys ascend. A loop that goes from run to run meets the list's keys in order, and each run is what is
-- kept of the list by its key.
use Prim.Native.Nat.{ℕ, ◌+◌, ◌-◌, ◌≤◌, ◌<◌}
use mathlib.Core.Bool.{Bool}
use mathlib.Core.List.Memᴰ
use mathlib.Core.List.{List, ◌∷◌, ◌++◌, Memᴰ, append-nil}
use mathlib.Core.Logic.{⊎_elim, ◌≢◌}
use mathlib.Core.Path.{◌≡◌, sym, ap, ap₂, ◌∙◌, subst₂}
use native.Mathlib.Nat.{add-zero, eq-or-lt_of_le}
use native.Mathlib.Omega.{arith}
use borrow.Author.Tests.{eq-eqb, ne_eqb}
use lib.Dec.{eqb}
use lib.ListN.{length, get_or, take, drop, take-append-drop, length-drop}
use lib.Seq.{get_or-drop}
use Rattle.lists.specs.Keep.{keep}
use Rattle.lists.specs.Keys.{keys_in}
use Rattle.lists.proofs.Keep.{keep_append}
use Rattle.lists.proofs.KeepTests.{keep_all, keep_none}
use Rattle.lists.proofs.Keys.{keys_lowest}
use Rattle.lists.proofs.Pairs.{pairs_at}
use Rattle.lists.proofs.Parts.{drop_part}
use Rattle.lists.proofs.Position.{take_position, drop_position, position_take, position_drop}
use Rattle.lists.proofs.Sort.{Pairs}

module _ {A : Type 0} (key : A → ℕ) where
  abbrev pub Ascending : List A → Type 0
  Ascending l = Pairs (λ x y. key x ≤ key y) l

  -- between two runs: the keys before the position are lower than those from it on
  pub record Boundary (l : List A) (at : ℕ) : Type 0 where
    pub lower : (x y : A) → Memᴰ x (take at l) → Memᴰ y (drop at l) → key x < key y

  -- [from, to) is a run of key k
  pub record Run (l : List A) (d : A) (k from to : ℕ) : Type 0 where
    pub some : from < to
    pub within : to ≤ length l
    pub same : (i : ℕ) → from ≤ i → i < to → key (get_or l i d) ≡ k
    pub starts : Boundary l from
    pub ends : Boundary l to

  -- a position at an end of the list, or whose key is not that of the one before it
  pub boundary : {l : List A} (at : ℕ) (d : A) → Ascending l → (0 < at → at < length l → key (get_or l (at - 1) d) ≢ key (get_or l at d)) → Boundary l at
  boundary {l} at d up differ = record { lower = lower }
    where
      rises : (i j : ℕ) → i ≤ j → j < length l → key (get_or l i d) ≤ key (get_or l j d)
      rises i j h b = ⊎_elim (λ e. rw e (omega arith)) (λ u. pairs_at up i j d u b) (eq-or-lt_of_le h)

      lower : (x y : A) → Memᴰ x (take at l) → Memᴰ y (drop at l) → key x < key y
      lower x y m n =
          let s = take_position at l d m in
          let t = drop_position at l d n in
          let before = rises s.0 (at - 1) (omega arith) (omega arith) in
          let next = rises (at - 1) at (omega arith) (omega arith) in
          let after = rises at t.0 (omega arith) (omega arith) in
          let step : key (get_or l (at - 1) d) < key (get_or l at d) =
          ⊎_elim (λ e. absurd (differ (omega arith) (omega arith) e)) (λ u. u) (eq-or-lt_of_le next) in
          subst₂ (λ u v. key u < key v) s.3 t.3 (omega arith)

  pub boundary_start : {l : List A} → Boundary l 0
  boundary_start = record { lower = λ x y m n. absurd (Memᴰ.not-nil m) }

  -- what a loop knows that looks for the end of the run that it stands at
  pub run_of_lem : {l : List A} {d : A} {k from to : ℕ} → Ascending l → Boundary l from → from < to → to ≤ length l
      → ((i : ℕ) → from ≤ i → i < to → key (get_or l i d) ≡ k) → (to < length l → key (get_or l to d) ≢ k) → Run l d k from to
  run_of_lem {l} {d} {k} {from} {to} up starts some within same stop = record {
    some = some;
    within = within;
    same = same;
    starts = starts;
    ends = boundary to d up (λ h b e. stop b (sym e ∙ same (to - 1) (omega arith) (omega arith)));
  }

  module _ {l : List A} {d : A} {k from to : ℕ} (run : Run l d k from to) where
    first : Memᴰ (get_or l from d) (drop from l)
    first = position_drop from l from d (omega arith) (omega (arith, run.some, run.within))

    head : key (get_or l from d) ≡ k
    head = run.same from (omega arith) run.some

    higher : (y : A) → Memᴰ y (drop to l) → k < key y
    higher y m =
        let u : key (get_or l from d) < key y =
        run.ends.lower (get_or l from d) y (position_take to l from d run.some (omega (arith, run.some, run.within))) m in
        omega (arith, head)

    abbrev part : List A
    part = take (to - from) (drop from l)

    in_part : (x : A) → Memᴰ x part → key x ≡ k
    in_part x m =
        let s = take_position (to - from) (drop from l) d m in
        ap key (sym s.3 ∙ get_or-drop from l s.0 d) ∙ run.same (from + s.0) (omega arith) (omega arith)

    after : drop from l ≡ part ++ drop to l
    after = drop_part from to l (omega (arith, run.some))

    -- the run is all that has its key
    pub run_keeps : keep (λ x. eqb (key x) k) l ≡ take (to - from) (drop from l)
    run_keeps =
        let p : A → Bool = λ x. eqb (key x) k in
        ap (keep p) (sym (take-append-drop from l))
        ∙ keep_append p (take from l) (drop from l)
        ∙ ap₂ (λ (u v : List A). u ++ v)
        (keep_none p (take from l) (λ x m. ne_eqb (key x) k (λ e. below x m e)))
        (ap (keep p) after ∙ keep_append p part (drop to l))
        ∙ ap₂ (λ (u v : List A). u ++ v)
        (keep_all p part (λ x m. eq-eqb (key x) k (in_part x m)))
        (keep_none p (drop to l) (λ x m. ne_eqb (key x) k (λ e. above x m e)))
        ∙ append-nil part
      where
        below : (x : A) → Memᴰ x (take from l) → key x ≡ k → ⊥
        below x m e = let u = run.starts.lower x (get_or l from d) m first in omega (arith, head)

        above : (x : A) → Memᴰ x (drop to l) → key x ≡ k → ⊥
        above x m e = omega (arith, higher x m)

    -- the keys from the run on are its key and those that follow it
    pub run_next : (bound : ℕ) → k < bound → keys_in key bound (drop from l) ≡ k ∷ keys_in key bound (drop to l)
    run_next bound h =
        ap (keys_in key bound) after
        ∙ keys_lowest key bound k part (drop to l) (get_or l from d) at_front h in_part higher
      where
        at_front : Memᴰ (get_or l from d) part
        at_front =
            Memᴰ.cast
            (sym (get_or-drop from l 0 d ∙ ap (λ (n : ℕ). get_or l n d) (add-zero from)))
            (position_take (to - from) (drop from l) 0 d (omega (arith, run.some)) (omega (arith, length-drop from l, run.some, run.within)))
