-- The words beside a list: what a block of them rules out, and that they stay the first words where a number is taken off or a row changes.
use Prim.Native.Nat.{ℕ, zero, suc, ◌+◌, ◌*◌, ◌-◌, ◌≤◌, ◌<◌, min}
use mathlib.Core.Bool.{Bool, true, false, cond}
use mathlib.Core.List.{List, ◌++◌, map}
use mathlib.Core.Path.{◌≡◌, refl, sym, ap, ◌∙◌}
use native.Mathlib.Nat.{zero-add}
use native.Mathlib.Omega.{arith}
use borrow.Author.Tests.{ltb-true, ltb-false}
use lib.Dec.{ltb}
use lib.ListN.{length, get_or, set, take, length-set, length-append, get_or-append}
use lib.Seq.{length-take-le, get_or-take, get_or-set_same, get_or-set_other}
use Rattle.lists.specs.Range.{range}
use Rattle.lists.proofs.Map.{get_or_map_range}
use Rattle.lists.proofs.Range.{length_range, get_or_range}
use Rattle.joins.specs.Candidate.{ones_apart}
use Rattle.seeking.specs.Listed.{Ascends, FirstWords, fewer, fewest, without, Removed, Rewritten}
use Rattle.seeking.proofs.Kept.{by_number}
use Rattle.seeking.proofs.Removing.{length_without, without_before, without_after}

-- ---- the fewest of a block

-- the lower of two is the one that is below the other
pub min_fewer : (a b : ℕ) → min a b ≡ fewer a b
min_fewer a b = go (ltb a b) refl
  where
    go : (t : Bool) → ltb a b ≡ t → min a b ≡ fewer a b
    go true e = let l = ltb-true a b e in let m : min a b ≡ a = omega arith in m ∙ sym (ap (λ t. cond t a b) e)
    go false e = let l = ltb-false a b e in let m : min a b ≡ b = omega arith in m ∙ sym (ap (λ t. cond t a b) e)

fewer_least : (a b : ℕ) → (fewer a b ≤ a) × (fewer a b ≤ b)
fewer_least a b = go (ltb a b) refl
  where
    go : (t : Bool) → ltb a b ≡ t → (cond t a b ≤ a) × (cond t a b ≤ b)
    go true e = let l = ltb-true a b e in (omega arith, omega arith)
    go false e = let l = ltb-false a b e in (omega arith, omega arith)

module _ (words : List ℕ) (wanted from : ℕ) where
  pub fewest_small : (n : ℕ) → fewest words wanted from n ≤ 64
  unfolding fewest
  fewest_small zero = omega arith
  fewest_small (suc n) =
      omega (arith, (fewer_least (ones_apart wanted (get_or words (from + n) 0)) (fewest words wanted from n)).1, fewest_small n)

  pub fewest_each : (n k : ℕ) → k < n → fewest words wanted from n ≤ ones_apart wanted (get_or words (from + k) 0)
  unfolding fewest
  fewest_each zero k h = absurd (omega arith)
  fewest_each (suc n) k h =
      let least = fewer_least (ones_apart wanted (get_or words (from + n) 0)) (fewest words wanted from n) in
      by_number k n
      (λ e. rw e least.0)
      (λ e. omega (arith, least.1, fewest_each n k (omega arith)))

-- ---- the first words

-- all rows, in the order of their numbers
pub first_words_all : (there words bits : List ℕ) (n : ℕ) → there ≡ range 0 n → words ≡ map (λ i. get_or bits (4 * i) 0) (range 0 n)
    → length words ≡ n → FirstWords there words bits
first_words_all there words bits n is-there is-words long =
    let count : length there ≡ n = ap length is-there ∙ length_range 0 n in
    record {
      room = omega arith;
      each = λ i h.
          ap (λ l. get_or l i 0) is-words
          ∙ get_or_map_range (λ i. get_or bits (4 * i) 0) n i 0 (omega arith)
          ∙ ap (λ j. get_or bits (4 * j) 0) (sym (ap (λ l. get_or l i 0) is-there ∙ get_or_range 0 n i 0 (omega arith) ∙ zero-add i));
    }

module _ (there words bits : List ℕ) (first : FirstWords there words bits) where
  -- a front of the words that is long enough, and more words behind them
  pub first_words_front : (n : ℕ) → n ≤ length words → length there ≤ n → FirstWords there (take n words) bits
  first_words_front n h l = record {
    room = omega (arith, length-take-le n words h);
    each = λ i b. get_or-take n words i 0 (omega arith) ∙ first.each i b;
  }

  pub first_words_longer : (rest : List ℕ) → FirstWords there (words ++ rest) bits
  first_words_longer rest = record {
    room = omega (arith, length-append words rest, first.room);
    each = λ i b. get_or-append words rest 0 i (omega (arith, first.room)) ∙ first.each i b;
  }

  pub first_words_removed : (number : ℕ) (there' words' left : List ℕ) → length words ≡ length there → length words' ≡ length there
      → (r : Removed number there words there' words') → left ≡ without r.place there → FirstWords left words' bits
  first_words_removed number there' words' left long long' r is-left =
      let p = r.place in
      let inside : p < length there = r.at.inside in
      let count : length left ≡ length there - 1 = ap length is-left ∙ length_without there p inside in
      record { room = omega arith; each = λ i h. each i (omega arith) }
    where
      read : (i : ℕ) → i < length there - 1 → get_or words' i 0 ≡ get_or (without r.place words) i 0
      read i h = sym (get_or-take (length there - 1) words' i 0 h) ∙ ap (λ l. get_or l i 0) r.new_words

      moved : (i j : ℕ) → i < length there - 1 → j < length there → get_or (without r.place there) i 0 ≡ get_or there j 0
          → get_or (without r.place words) i 0 ≡ get_or words j 0 → get_or words' i 0 ≡ get_or bits (4 * get_or left i 0) 0
      moved i j h b number_at word_at =
          read i h ∙ word_at ∙ first.each j b ∙ ap (λ n. get_or bits (4 * n) 0) (sym (ap (λ l. get_or l i 0) is-left ∙ number_at))

      each : (i : ℕ) → i < length there - 1 → get_or words' i 0 ≡ get_or bits (4 * get_or left i 0) 0
      each i h = go (ltb i r.place) refl
        where
          go : (b : Bool) → ltb i r.place ≡ b → get_or words' i 0 ≡ get_or bits (4 * get_or left i 0) 0
          go true e =
              let l = ltb-true i r.place e in
              moved i i h (omega arith) (without_before there r.place r.at.inside i l)
              (without_before words r.place (omega (arith, r.at.inside)) i l)
          go false e =
              let l = ltb-false i r.place e in
              moved i (suc i) h (omega arith) (without_after there r.place r.at.inside i l)
              (without_after words r.place (omega (arith, r.at.inside)) i l)

  pub first_words_rewritten : (number : ℕ) (words' bits' : List ℕ) → Ascends there → Rewritten number there bits' words words'
      → ((i : ℕ) → i < length there → (get_or there i 0 ≡ number → ⊥) → get_or bits' (4 * get_or there i 0) 0 ≡ get_or bits (4 * get_or there i 0) 0)
      → FirstWords there words' bits'
  first_words_rewritten number words' bits' up r others =
      let v = get_or bits' (4 * number) 0 in
      record {
        room = omega (arith, ap length r.new_words, length-set words r.place v, first.room);
        each = λ i h. ap (λ l. get_or l i 0) r.new_words ∙ each i h;
      }
    where
      another : (i : ℕ) → i < length there → (i ≡ r.place → ⊥) → get_or there i 0 ≡ number → ⊥
      another i h n e = go (ltb i r.place) refl
        where
          go : (b : Bool) → ltb i r.place ≡ b → ⊥
          go true q = omega (arith, up i r.place (ltb-true i r.place q) r.at.inside, r.at.its)
          go false q = let l = ltb-false i r.place q in omega (arith, up r.place i (omega arith) h, r.at.its)

      each : (i : ℕ) → i < length there → get_or (set words r.place (get_or bits' (4 * number) 0)) i 0 ≡ get_or bits' (4 * get_or there i 0) 0
      each i h =
          by_number i r.place
          (λ e.
          ap (λ j. get_or (set words r.place (get_or bits' (4 * number) 0)) j 0) e
          ∙ get_or-set_same words r.place (get_or bits' (4 * number) 0) 0 (omega (arith, r.at.inside, first.room))
          ∙ ap (λ n. get_or bits' (4 * n) 0) (sym (ap (λ j. get_or there j 0) e ∙ r.at.its)))
          (λ n.
          get_or-set_other words r.place i (get_or bits' (4 * number) 0) 0 n
          ∙ first.each i h
          ∙ sym (others i h (another i h n)))
