-- The contract of Capture leaves one answer and one content of the lent areas: two calls over the same input and the same areas agree.
use Prim.Native.Nat.{ℕ, ◌+◌, ◌-◌, ◌<◌}
use mathlib.Core.List.{List}
use mathlib.Core.Path.{◌≡◌, refl, sym, ap, ◌∙◌}
use native.Mathlib.Decide.{dec_lt}
use native.Mathlib.Omega.{arith}
use lib.ListN.{length, get_or, drop}
use lib.Seq.{ext_get_or, get_or-drop}
use Rattle.refusal.specs.Outcome.{Outcome, refused, accepted}
use Rattle.capture.specs.Capture.{Given}
use Rattle.std.specs.Prelude.{Result}
use Rattle.refusal.specs.Answers.{outcome_of}
use Rattle.refusal.specs.declared.Refusal.{Refusal}
use Rattle.capture.specs.Call.{Areas, Written, CaptureCall, capture_outcome}
use Rattle.walk.proofs.Reached.{same_marks}

-- lists of one length that agree below n and from n on are equal
equal_parts : {A : Type 0} (d : A) (n : ℕ) (a b : List A) → length a ≡ length b → ((i : ℕ) → i < n → get_or a i d ≡ get_or b i d) → drop n a ≡ drop n b → a ≡ b
equal_parts {A} d n a b same below past = ext_get_or d a b same (λ i _. go i (dec_lt i n))
  where
    from_n : (i : ℕ) → get_or a (n + i) d ≡ get_or b (n + i) d
    from_n i = sym (get_or-drop n a i d) ∙ ap (λ (l : List A). get_or l i d) past ∙ get_or-drop n b i d

    go : (i : ℕ) → Dec (i < n) → get_or a i d ≡ get_or b i d
    go i (yes h) = below i h
    go i (no h) = let e : n + (i - n) ≡ i = omega arith in rw e at (from_n (i - n))

-- what an accepted capture leaves is one content
pub written_once : (g : Given) (before a b : Areas) → Written g before a → Written g before b → a ≡ b
written_once g before a b x y = λ i. record { marks = marks i; scratch = scratch i }
  where
    marks : a.marks ≡ b.marks
    marks =
        equal_parts 0 g.n a.marks b.marks (x.same_length ∙ sym y.same_length)
        (same_marks (λ m. (λ z. z, λ z. z)) x.marked y.marked)
        (x.past ∙ sym y.past)

    scratch : a.scratch ≡ b.scratch
    scratch = x.cleared ∙ sym y.cleared

module _ (g : Given) (before : Areas) (first second : Result Unit Refusal) (a b : Areas) (x : CaptureCall g first before a) (y : CaptureCall g second before b) where
  -- the answer of a call is one
  pub answer_once : outcome_of first ≡ outcome_of second
  answer_once = x.number ∙ sym y.number

  -- and so is what it leaves, refused or not
  pub call_once : a ≡ b
  call_once = go (capture_outcome g before) refl
    where
      go : (o : Outcome Unit) → capture_outcome g before ≡ o → a ≡ b
      go (refused n) e = x.refusal n e ∙ sym (y.refusal n e)
      go (accepted tt) e = written_once g before a b (x.answered tt e) (y.answered tt e)
