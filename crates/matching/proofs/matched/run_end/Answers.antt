-- `matching::matched::run_end` meets its contract: what is passed has the key of the first.
use Rattle.std.proofs.Common.{◌≡◌, ℕ, ◌+◌, ◌-◌, ◌≤◌, List, length, get_or, take, drop, sym, ap, ◌∙◌, arith, ⊎_elim, eq-or-lt_of_le, length-drop, length-take-le, take_all}
use Rattle.std.proofs.lemmas.List.{get_or-drop}
use Rattle.lists.specs.Packed.{key_of}
use Rattle.matching.proofs.matched.run_end.Goals as goal

-- a number after the first n, in the list
at_rest : (matched : List ℕ) (n run : ℕ) → get_or (take (length matched - n) (drop n matched)) run 0 ≡ get_or matched (n + run) 0
at_rest matched n run =
    ap (λ (l : List ℕ). get_or l run 0) (take_all (length matched - n) (drop n matched) (omega (arith, length-drop n matched)))
    ∙ get_or-drop n matched run 0

rest_length : (matched : List ℕ) (n : ℕ) → length (take (length matched - n) (drop n matched)) ≡ length matched - n
rest_length matched n = length-take-le _ (drop n matched) (omega (arith, length-drop n matched))

pub returns-then-matched-count : goal.returns-then-matched-count
returns-then-matched-count c =
    record {
      some = c.requires.0;
      within = omega arith;
      same = λ i h b. c.requires.1 c.args.from i (length c.args.matched.now - 1) h (omega arith) (omega arith) c.if-matched-count.true;
      stop = λ h. absurd (omega arith);
    }

pub loop-run-init : goal.loop-run-init
loop-run-init c = λ i h b. let e : i ≡ c.args.from = omega arith in ap (λ (k : ℕ). key_of (get_or c.args.matched.now k 0)) e

pub loop-run-preserved : goal.loop-run-preserved
loop-run-preserved c =
    λ i h b. let n = c.args.from + 1 in
    let m = c.args.matched.now in
    let last : i ≤ n + c.loop-run.run = omega arith in
    ⊎_elim (λ e. ap (λ (k : ℕ). key_of (get_or m k 0)) e ∙ ap key_of (sym (at_rest m n c.loop-run.run)) ∙ c.if-number-key.false)
    (λ u. c.loop-run.invariant i h u) (eq-or-lt_of_le last)

pub returns-then-number-key : goal.returns-then-number-key
returns-then-number-key c =
    record {
      some = omega arith;
      within = omega (arith, length-drop (c.args.from + 1) c.args.matched.now);
      same = c.loop-run.invariant;
      stop = λ h e. c.if-number-key.true (ap key_of (at_rest c.args.matched.now (c.args.from + 1) c.loop-run.run) ∙ e);
    }

pub returns : goal.returns
returns c =
    record {
      some = c.requires.0;
      within = omega arith;
      same = λ i h b. c.loop-run.invariant i h (omega (arith, rest_length c.args.matched.now (c.args.from + 1)));
      stop = λ h. absurd (omega arith);
    }
