-- The marks of followed records undone: along one chain up to a record whose mark is undone, which undoes the whole chain, since the marks after
-- such a record are undone too; and chain by chain, after which none is left.
use Prim.Native.Nat.{ℕ, ◌+◌, ◌≤◌, ◌<◌}
use mathlib.Core.Bool.{true}
use mathlib.Core.List.{List, ◌∷◌, Memᴰ}
use mathlib.Core.Logic.{◌⊎◌, inl, inr, ⊎_elim}
use mathlib.Core.Path.{◌≡◌, refl, sym, ap, ◌∙◌, subst}
use native.Mathlib.Decide.{ℕ_discrete}
use native.Mathlib.Omega.{arith}
use lib.ListN.{length, get_or, set, replicate, length-set, length-replicate}
use lib.Seq.{ext_get_or, get_or-set_same}
use Rattle.records.specs.Chain.{chain_from, chain_of, ended}
use Rattle.lists.specs.Stored.{stored}
use Rattle.records.proofs.Chain.{along, chain_in, chain_next, chain_rest, rest_ended}
use Rattle.lists.proofs.Stored.{zeros, one_stored, stored_either, stored_kept, stored_length, stored_on, stored_same}
use Rattle.forget.specs.Unfollowed.{unfollowed, Undoing, ForgetReady, AllFollowed}

-- ---- one chain

-- from record r₀ the loop has come to record r
pub record Forgetting (next : List ℕ) (d : ℕ) (marks₀ : List ℕ) (r₀ : ℕ) (marks : List ℕ) (r : ℕ) : Type 0 where
  pub whole : List ℕ
  pub undoing : Undoing next d whole marks r
  pub marked : get_or whole r 0 ≡ 1
  pub record_in : r ≤ d
  pub ends : ended next d r ≡ true
  pub same : stored 0 (chain_from next d r₀) marks₀ ≡ stored 0 (chain_from next d r) marks
  pub same_length : length marks ≡ length marks₀

module _ (next : List ℕ) (d : ℕ) (whole marks : List ℕ) (at : ℕ) (p : Undoing next d whole marks at) where
  -- one of the marks at first goes on along its chain
  pub whole_on : (r : ℕ) → 1 ≤ r → r ≤ d → get_or whole r 0 ≡ 1 → get_or whole (get_or next r 0) 0 ≡ 1
  whole_on r a b e = ⊎_elim (λ z. ap (λ (j : ℕ). get_or whole j 0) z ∙ p.chains.end) (λ f. f) (p.chains.on r a b e)

  -- one record more is undone
  undo_next : at ≤ d → Undoing next d whole (set marks at 0) (get_or next at 0)
  undo_next l =
      record {
        chains = p.chains;
        room = simp length-set p.room;
        end = stays 0 p.end;
        on = λ k a b e f. ⊎_elim (λ q. inl (ap (λ (j : ℕ). get_or next j 0) q.1)) (λ q. old k a b e (sym q ∙ f)) (one_stored 0 marks at k);
      }
    where
      here : get_or (set marks at 0) at 0 ≡ 0
      here = let room = p.room in get_or-set_same marks at 0 0 (omega arith)

      stays : (k : ℕ) → get_or marks k 0 ≡ 0 → get_or (set marks at 0) k 0 ≡ 0
      stays k e = ⊎_elim (λ q. q.0) (λ f. f ∙ e) (one_stored 0 marks at k)

      old : (k : ℕ) → 1 ≤ k → k ≤ d → get_or whole k 0 ≡ 1 → get_or marks k 0 ≡ 0
          → (get_or next k 0 ≡ get_or next at 0) ⊎ (get_or (set marks at 0) (get_or next k 0) 0 ≡ 0)
      old k a b e f = inr (⊎_elim (λ q. ap (λ (j : ℕ). get_or (set marks at 0) j 0) q ∙ here) (λ q. stays (get_or next k 0) q) (p.on k a b e f))

  -- at a record whose mark is undone no chain is left off, and the rest of the chain is undone already
  module _ (h : get_or marks at 0 ≡ 0) where
    goes_on : (k : ℕ) → 1 ≤ k → k ≤ d → get_or whole k 0 ≡ 1 → get_or marks k 0 ≡ 0 → get_or marks (get_or next k 0) 0 ≡ 0
    goes_on k a b e f = ⊎_elim (λ q. ap (λ (j : ℕ). get_or marks j 0) q ∙ h) (λ q. q) (p.on k a b e f)

    undo_from : (from : ℕ) → Undoing next d whole marks from
    undo_from from = record { chains = p.chains; room = p.room; end = p.end; on = λ k a b e f. inr (goes_on k a b e f) }

    rest_undone : ((r : ℕ) → 1 ≤ r → r ≤ d → get_or next r 0 ≤ d) → (fuel : ℕ) → at ≤ d → get_or whole at 0 ≡ 1 → (k : ℕ) → Memᴰ k (chain_from next fuel at)
        → get_or marks k 0 ≡ 0
    rest_undone next_in fuel l w k i =
        (along next d next_in (λ r. (get_or whole r 0 ≡ 1) × (get_or marks r 0 ≡ 0)) (λ r a b o. (whole_on r a b o.0, goes_on r a b o.0 o.1))
        fuel at l (w, h) k i).1

module _ (next : List ℕ) (d : ℕ) (next_in : (r : ℕ) → 1 ≤ r → r ≤ d → get_or next r 0 ≤ d) where
  pub forget_begins : (marks : List ℕ) (from : ℕ) → ForgetReady next marks d from → Forgetting next d marks from marks from
  forget_begins marks from p =
      record {
        whole = p.whole;
        undoing = undo_from next d p.whole marks 0 p.undoing p.undoing.end from;
        marked = p.marked;
        record_in = p.from_in;
        ends = p.ends;
        same = refl;
        same_length = refl;
      }

  module _ (marks₀ : List ℕ) (r₀ : ℕ) (marks : List ℕ) (r : ℕ) (p : Forgetting next d marks₀ r₀ marks r) where
    -- at a record whose mark is undone, all is done
    pub forget_ends : get_or marks r 0 ≡ 0 → marks ≡ stored 0 (chain_from next d r₀) marks₀
    forget_ends e =
        sym (p.same ∙ stored_same 0 (chain_from next d r) marks (rest_undone next d p.whole marks r p.undoing e next_in d p.record_in p.marked))

    module _ (h : get_or marks r 0 ≡ 0 → ⊥) where
      some : r ≡ 0 → ⊥
      some z = h (ap (λ (k : ℕ). get_or marks k 0) z ∙ p.undoing.end)

      at_record : chain_from next d r ≡ r ∷ chain_from next d (get_or next r 0)
      at_record = chain_rest next d r some p.ends

      pub forget_less : length (chain_from next d (get_or next r 0)) < length (chain_from next d r)
      forget_less = rw at_record (omega arith)

      pub forget_turns : Forgetting next d marks₀ r₀ (set marks r 0) (get_or next r 0)
      unfolding stored
      forget_turns =
          record {
            whole = p.whole;
            undoing = undo_next next d p.whole marks r p.undoing p.record_in;
            marked = whole_on next d p.whole marks r p.undoing r (omega (arith, some)) p.record_in p.marked;
            record_in = next_in r (omega (arith, some)) p.record_in;
            ends = rest_ended next d r some p.ends;
            same = p.same ∙ ap (λ (l : List ℕ). stored 0 l marks) at_record;
            same_length = length-set marks r 0 ∙ p.same_length;
          }

-- ---- all chains of a list

-- the chains of the first i modules are undone
pub record AllForgetting (first next list : List ℕ) (d i : ℕ) (marks : List ℕ) : Type 0 where
  pub whole : List ℕ
  pub undoing : Undoing next d whole marks 0
  pub marked : (j : ℕ) → j < length list → get_or whole (get_or first (get_or list j 0) 0) 0 ≡ 1
  pub left : (r : ℕ) → (get_or marks r 0 ≡ 0) ⊎ ((j : ℕ) × (i ≤ j) × (j < length list) × Memᴰ r (chain_of first next d (get_or list j 0)))
  pub bytes : length marks ≡ 65536
  pub done : i ≤ length list

module _ (first next list : List ℕ) (d : ℕ) where
  -- zero is undone first
  pub all_forget_begins : (followed : List ℕ) → AllFollowed first next list followed d → AllForgetting first next list d 0 (set followed 0 0)
  all_forget_begins followed p =
      let room = p.chains.room in
      record {
        whole = followed;
        undoing =
            record {
              chains = p.chains;
              room = simp length-set room;
              end = get_or-set_same followed 0 0 0 (omega arith);
              on = λ k a b e f. absurd (still k a e f);
            };
        marked = p.each;
        left = λ r.
            ⊎_elim (λ q. inl q.0) (λ q. ⊎_elim (λ e. marked_before r q (p.only r e)) (λ e. inl (q ∙ e)) (p.chains.byte r))
            (one_stored 0 followed 0 r);
        bytes = length-set followed 0 0 ∙ p.bytes;
        done = omega arith;
      }
    where
      still : (k : ℕ) → 1 ≤ k → get_or followed k 0 ≡ 1 → get_or (set followed 0 0) k 0 ≡ 0 → ⊥
      still k a e f = ⊎_elim (λ q. omega (arith, q.1)) (λ q. omega arith) (one_stored 0 followed 0 k)

      marked_before : (r : ℕ) → get_or (set followed 0 0) r 0 ≡ get_or followed r 0
          → (r ≡ 0) ⊎ ((i : ℕ) × (i < length list) × Memᴰ r (chain_of first next d (get_or list i 0)))
          → (get_or (set followed 0 0) r 0 ≡ 0) ⊎ ((j : ℕ) × (0 ≤ j) × (j < length list) × Memᴰ r (chain_of first next d (get_or list j 0)))
      marked_before r q o =
          ⊎_elim
          (λ z. let room = p.chains.room in inl (ap (λ (j : ℕ). get_or (set followed 0 0) j 0) z ∙ get_or-set_same followed 0 0 0 (omega arith)))
          (λ t. inr (t.0, omega arith, t.1, t.2)) o

  module _ (next_in : (r : ℕ) → 1 ≤ r → r ≤ d → get_or next r 0 ≤ d) (i : ℕ) (marks : List ℕ) (p : AllForgetting first next list d i marks)
      (h : i < length list) where
    abbrev from : ℕ
    from = get_or first (get_or list i 0) 0

    pub chain_ready : d < length next → from ≤ d → ended next d from ≡ true → ForgetReady next marks d from
    chain_ready l b e =
        record { within = l; next_in = next_in; from_in = b; ends = e; whole = p.whole; undoing = p.undoing; marked = p.marked i h }

    abbrev after : List ℕ
    after = stored 0 (chain_from next d from) marks

    module _ (b : from ≤ d) (e : ended next d from ≡ true) where
      undoing_after : Undoing next d p.whole after 0
      undoing_after =
          record {
            chains = p.undoing.chains;
            room = rw (stored_length 0 (chain_from next d from) marks) p.undoing.room;
            end = stays 0 p.undoing.end;
            on = λ k a l w f. ⊎_elim (λ q. new k q.1) (λ q. old k a l w (sym q ∙ f)) (stored_either 0 (chain_from next d from) marks k);
          }
        where
          stays : (k : ℕ) → get_or marks k 0 ≡ 0 → get_or after k 0 ≡ 0
          stays k z = stored_kept 0 (chain_from next d from) marks k z

          new : (k : ℕ) → Memᴰ k (chain_from next d from) → (get_or next k 0 ≡ 0) ⊎ (get_or after (get_or next k 0) 0 ≡ 0)
          new k m =
              ⊎_elim inl
              (λ t.
              let room = p.undoing.room in
              let l = (chain_in next d next_in d from b (get_or next k 0) t).1 in
              inr (stored_on 0 (chain_from next d from) marks (get_or next k 0) (omega arith) t))
              (chain_next next d from e k m)

          old : (k : ℕ) → 1 ≤ k → k ≤ d → get_or p.whole k 0 ≡ 1 → get_or marks k 0 ≡ 0 → (get_or next k 0 ≡ 0) ⊎ (get_or after (get_or next k 0) 0 ≡ 0)
          old k a l w f = ⊎_elim inl (λ q. inr (stays (get_or next k 0) q)) (p.undoing.on k a l w f)

      pub all_forget_turns : {marks' : List ℕ} → marks' ≡ after → AllForgetting first next list d (i + 1) marks'
      unfolding chain_of
      all_forget_turns q =
          subst (AllForgetting first next list d (i + 1)) (sym q) (
          record {
            whole = p.whole;
            undoing = undoing_after;
            marked = p.marked;
            left = λ r. ⊎_elim (λ z. inl (stored_kept 0 (chain_from next d from) marks r z)) (λ t. rest r t) (p.left r);
            bytes = stored_length 0 (chain_from next d from) marks ∙ p.bytes;
            done = omega arith;
          })
        where
          rest : (r : ℕ) → ((j : ℕ) × (i ≤ j) × (j < length list) × Memᴰ r (chain_from next d (get_or first (get_or list j 0) 0)))
              → (get_or after r 0 ≡ 0) ⊎ ((j : ℕ) × (i + 1 ≤ j) × (j < length list) × Memᴰ r (chain_from next d (get_or first (get_or list j 0) 0)))
          rest r t = go (ℕ_discrete t.0 i)
            where
              go : Dec (t.0 ≡ i) → (get_or after r 0 ≡ 0)
                  ⊎ ((j : ℕ) × (i + 1 ≤ j) × (j < length list) × Memᴰ r (chain_from next d (get_or first (get_or list j 0) 0)))
              go (yes z) =
                  let m = subst (λ (j : ℕ). Memᴰ r (chain_from next d (get_or first (get_or list j 0) 0))) z t.3 in
                  let room = p.undoing.room in
                  let l = (chain_in next d next_in d from b r m).1 in
                  inl (stored_on 0 (chain_from next d from) marks r (omega arith) m)
              go (no z) = inr (t.0, omega (arith, t.1), t.2, t.3)

  -- with all chains undone nothing is left
  pub all_forget_ends : (i : ℕ) (marks : List ℕ) → AllForgetting first next list d i marks → length list ≤ i → marks ≡ unfollowed
  unfolding unfollowed
  all_forget_ends i marks p h =
      ext_get_or 0 marks (replicate 65536 0) (p.bytes ∙ sym (length-replicate {A = ℕ} 65536 0))
      (λ r l. ⊎_elim (λ z. z ∙ sym (zeros 65536 r)) (λ t. absurd (omega (arith, t.1, t.2))) (p.left r))
