-- The answers of a row, met one after another: a byte has the mark just where an answer so far is its own, and the count is that of the marked
-- bytes. Those of answers 0 and 1 taken off, it is that of the names.
use Prim.Native.Nat.{ℕ, suc, ◌+◌, ◌-◌, ◌≤◌, ◌<◌}
use mathlib.Core.Bool.{Bool, true, false, cond}
use mathlib.Core.List.{List}
use mathlib.Core.Path.{◌≡◌, refl, sym, ap, ◌∙◌}
use native.Mathlib.Decide.{ℕ_discrete}
use native.Mathlib.Numerals.{add-one}
use native.Mathlib.Omega.{arith}
use borrow.Author.Tests.{eq-eqb, ne_eqb}
use lib.Dec.{eqb}
use lib.ListN.{length, get_or, set, length-set}
use lib.Seq.{get_or-set_same, get_or-set_other}
use Rattle.lists.specs.Below.{any_below, count_below}
use Rattle.lists.proofs.Below.{count_same, count_split}
use Rattle.lists.proofs.Count.{count_none, count_more}
use Rattle.sums.specs.Names.{has, met_in, answers_in, names_in, RowReady, AnswersCounted, RowCounted}

abbrev once : Bool → ℕ
once b = cond b 1 0

module _ (row seen₀ : List ℕ) (mark : ℕ) where
  -- the first i answers are met
  pub record Counting (i : ℕ) (seen : List ℕ) (count : ℕ) : Type 0 where
    pub same_length : length seen ≡ length seen₀
    pub marks : (answer : ℕ) → answer < length seen₀ → has seen mark answer ≡ met_in row i answer
    pub within : (answer : ℕ) → get_or seen answer 0 ≤ mark
    pub counted : count ≡ count_below (has seen mark) (length seen₀)
    pub few : count ≤ i

  pub counting_begins : RowReady row seen₀ mark → Counting 0 seen₀ 0
  unfolding met_in any_below
  counting_begins r =
      let none : (answer : ℕ) → has seen₀ mark answer ≡ false = λ answer. ne_eqb (get_or seen₀ answer 0) mark (λ e. omega (arith, r.unmarked answer)) in
      record {
        same_length = refl;
        marks = λ answer h. none answer;
        within = λ answer. omega (arith, r.unmarked answer);
        counted = sym (count_none (has seen₀ mark) (length seen₀) (λ answer h. none answer));
        few = omega arith;
      }

  -- answer i is marked
  module _ (i : ℕ) (seen : List ℕ) (count : ℕ) (s : Counting i seen count) (inside : get_or row i 0 < length seen₀) where
    abbrev answer : ℕ
    answer = get_or row i 0

    abbrev after : List ℕ
    after = set seen answer mark

    in_seen : answer < length seen
    in_seen = omega (arith, s.same_length)

    here : has after mark answer ≡ true
    here = eq-eqb (get_or after answer 0) mark (get_or-set_same seen answer mark 0 in_seen)

    elsewhere : (other : ℕ) → (other ≡ answer → ⊥) → has after mark other ≡ has seen mark other
    elsewhere other h = ap (λ (x : ℕ). eqb x mark) (get_or-set_other seen answer other mark 0 h)

    at : (other : ℕ) → other < length seen₀ → Dec (other ≡ answer) → has after mark other ≡ met_in row (suc i) other
    unfolding met_in any_below
    at other h (yes q) = let t : eqb answer other ≡ true = eq-eqb answer other (sym q) in rw (t, q) here
    at other h (no q) =
        let t : eqb answer other ≡ false = ne_eqb answer other (λ z. q (sym z)) in
        rw t (elsewhere other q ∙ s.marks other h)

    low : (other : ℕ) → Dec (other ≡ answer) → get_or after other 0 ≤ mark
    low other (yes q) = omega (arith, ap (λ (x : ℕ). get_or after x 0) q, get_or-set_same seen answer mark 0 in_seen)
    low other (no q) = omega (arith, get_or-set_other seen answer other mark 0 q, s.within other)

    same : has seen mark answer ≡ true → (other : ℕ) → Dec (other ≡ answer) → has seen mark other ≡ has after mark other
    same old other (yes q) = ap (has seen mark) q ∙ old ∙ sym here ∙ ap (has after mark) (sym q)
    same old other (no q) = sym (elsewhere other q)

    number : (b : Bool) → has seen mark answer ≡ b → count + cond b 0 1 ≡ count_below (has after mark) (length seen₀)
    number true e =
        let zero : count + 0 ≡ count = omega arith in
        zero ∙ s.counted ∙ count_same (has seen mark) (has after mark) (length seen₀) (λ other h. same e other (ℕ_discrete other answer))
    number false e =
        let one : count + 1 ≡ suc count = omega arith in
        one ∙ ap suc s.counted ∙ sym (count_more (has seen mark) (has after mark) (length seen₀) answer inside e here elsewhere)

    small : (b : Bool) → count + cond b 0 1 ≤ suc i
    small true = omega (arith, s.few)
    small false = omega (arith, s.few)

    -- what `meet` leaves
    pub counting_turns : (r : ℕ) → r ≡ cond (has seen mark answer) 0 1 → Counting (i + 1) after (count + r)
    counting_turns r e =
        rw (add-one i, e)
        record {
          same_length = length-set seen answer mark ∙ s.same_length;
          marks = λ other h. at other h (ℕ_discrete other answer);
          within = λ other. low other (ℕ_discrete other answer);
          counted = number (has seen mark answer) refl;
          few = small (has seen mark answer);
        }

  pub counting_ends : (i : ℕ) (seen : List ℕ) (count : ℕ) → Counting i seen count → i ≡ length row → AnswersCounted row seen₀ seen mark count
  unfolding answers_in
  counting_ends i seen count s all =
      record {
        counted =
            s.counted
            ∙ count_same (has seen mark) (met_in row i) (length seen₀) s.marks
            ∙ ap (λ (n : ℕ). count_below (met_in row n) (length seen₀)) all;
        marks = λ answer h. s.marks answer h ∙ ap (λ (n : ℕ). met_in row n answer) all;
        few = omega (arith, s.few);
        same_length = s.same_length;
        within = s.within;
      }

  -- ---- the names among the answers

  module _ {after : List ℕ} {all : ℕ} (two : 2 ≤ length seen₀) (a : AnswersCounted row seen₀ after mark all) (unmatched unnamed : ℕ)
      (p : unmatched ≡ once (has after mark 0)) (q : unnamed ≡ once (has after mark 1)) where
    pub with_unnamed : all ≡ names_in row (length seen₀ - 2) + (unnamed + unmatched)
    unfolding answers_in names_in count_below
    with_unnamed =
        let split : length seen₀ ≡ 2 + (length seen₀ - 2) = omega arith in
        let one : (answer : ℕ) → answer < length seen₀ → once (met_in row (length row) answer) ≡ once (has after mark answer) =
        λ answer h. ap once (sym (a.marks answer h)) in
        let parts = count_split (met_in row (length row)) 2 (length seen₀ - 2) in
        a.counted ∙ ap (count_below (met_in row (length row))) split ∙ parts ∙ omega (arith, one 0 (omega arith), one 1 (omega arith))

    pub names_counted : RowCounted row seen₀ after mark (all - unmatched - unnamed)
    names_counted =
        record {
          counted = omega (arith, with_unnamed);
          few = omega (arith, a.few);
          same_length = a.same_length;
          within = a.within;
        }
