-- One module more: the loop of the pass is one step further, whether the module is in a chunk or in none.
use Prim.Native.Nat.{ℕ, suc, ◌-◌, ◌<◌, ◌≤◌}
use mathlib.Core.List.{List}
use mathlib.Core.Path.{◌≡◌, refl, sym, ap, ◌∙◌}
use native.Mathlib.Omega.{arith}
use borrow.Author.Tests.{eq-eqb, ne_eqb}
use lib.ListN.{length, get_or, drop, length-set}
use lib.Seq.{drop-cons, drop-length}
use Rattle.linking.specs.Links.{Links, pushed_at, slot_of, pushed, linked}

-- the modules from place `left` on are pushed, and the areas have their lengths
pub record Pushing (order chunk_of : List ℕ) (base at : ℕ) (entry now : Links) (left : ℕ) : Type 0 where
  pub state : now ≡ linked chunk_of base at (drop left order) entry
  pub within : left ≤ length order
  pub nexts : length now.next_of ≡ length entry.next_of
  pub firsts : length now.first_of ≡ length entry.first_of

module _ (order chunk_of : List ℕ) (base at : ℕ) (entry : Links) where
  pub push_start : Pushing order chunk_of base at entry entry (length order)
  unfolding linked
  push_start = record {
    state = sym (ap (λ ms. linked chunk_of base at ms entry) (drop-length order));
    within = omega arith;
    nexts = refl;
    firsts = refl;
  }

  pub push_end : {now : Links} {left : ℕ} → Pushing order chunk_of base at entry now left → left ≡ 0 → now ≡ linked chunk_of base at order entry
  push_end p e = p.state ∙ ap (λ n. linked chunk_of base at (drop n order) entry) e

  module _ {now : Links} {left : ℕ} (p : Pushing order chunk_of base at entry now left) (h : 0 < left) where
    abbrev m : ℕ
    m = get_or order (left - 1) 0

    more : linked chunk_of base at (drop (left - 1) order) entry ≡ pushed chunk_of base at m now
    unfolding linked
    more =
        let back : suc (left - 1) ≡ left = omega arith in
        ap (λ ms. linked chunk_of base at ms entry) (drop-cons order (left - 1) 0 (omega (arith, p.within)))
        ∙ ap (λ n. pushed chunk_of base at m (linked chunk_of base at (drop n order) entry)) back
        ∙ ap (pushed chunk_of base at m) (sym p.state)

    pub push_none : get_or chunk_of m 0 ≡ 0 → Pushing order chunk_of base at entry now (left - 1)
    unfolding pushed
    push_none e = record {
      state = sym (more ∙ rw (eq-eqb (get_or chunk_of m 0) 0 e));
      within = omega (arith, p.within);
      nexts = p.nexts;
      firsts = p.firsts;
    }

    pub push_some : 0 < get_or chunk_of m 0 → (after : Links) → after ≡ pushed_at (slot_of base at (get_or chunk_of m 0)) m now
        → Pushing order chunk_of base at entry after (left - 1)
    unfolding pushed
    push_some k after e = record {
      state = sym (more ∙ rw (ne_eqb (get_or chunk_of m 0) 0 (λ z. omega arith)) (sym e));
      within = omega (arith, p.within);
      nexts = ap (λ l. length l.next_of) e ∙ simp length-set p.nexts;
      firsts = ap (λ l. length l.first_of) e ∙ simp length-set p.firsts;
    }
