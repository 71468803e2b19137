-- One record of a chain more laid, from the first to the last.
use Prim.Native.Nat.{ℕ, suc, ◌+◌, ◌≤◌, ◌<◌}
use mathlib.Core.List.Memᴰ
use mathlib.Core.List.{List, ◌∷◌, map, Memᴰ}
use mathlib.Core.Logic.{◌⊎◌, inl, inr, ⊎_elim}
use mathlib.Core.Path.{◌≡◌, refl, sym, ap, ◌∙◌, subst}
use native.Mathlib.Decide.{ℕ_discrete}
use native.Mathlib.Omega.{arith}
use lib.ListN.{length, get_or, set, length-set}
use lib.Seq.{get_or-set_same, get_or-set_other}
use Rattle.walk.specs.Chains.{named_from}
use Rattle.records.proofs.Chain.{chain_rest, rest_ended}
use Rattle.contiguous.specs.Laid.{laid_from, Falls, LayReady, Laying}
use Rattle.contiguous.proofs.Falling.{none_laid, laid_same, one_more}

module _ {dependency next dependency₀ next₀ : List ℕ} {d from at room : ℕ} where
  -- nothing is laid
  pub lay_begins : LayReady dependency next d dependency₀ next₀ from at room → Laying dependency next d from at dependency₀ next₀ 0 at from dependency₀ next₀
  lay_begins p =
      record {
        modules = refl;
        nexts = refl;
        at_in = omega arith;
        to_in = omega (arith, p.at_in, p.nexts_room);
        first_in = p.some;
        record_in = p.from_in;
        ends = p.ends;
        kept = λ q h. (refl, refl);
        falls = p.falls;
        named = λ q h l. absurd (omega arith);
        there = λ k m. inr m;
        back = λ k m. absurd (none_laid dependency₀ next₀ 0 k m);
        rest = λ k m. m;
      }

  module _ (p : LayReady dependency next d dependency₀ next₀ from at room) {first to r : ℕ} {dependency' next' : List ℕ}
      (l : Laying dependency next d from at dependency₀ next₀ first to r dependency' next') (some : r ≡ 0 → ⊥) (within : to < room) where
    free : to < length next'
    free = omega (arith, p.nexts_room, l.nexts)

    next_falls : Falls (set next' to first) (suc to)
    next_falls q h g = go (ℕ_discrete q to)
      where
        go : Dec (q ≡ to) → get_or (set next' to first) q 0 < q
        go (yes e) = rw e (rw (get_or-set_same next' to first 0 free) l.first_in)
        go (no e) = rw (get_or-set_other next' to q first 0 e) (l.falls q h (omega arith))

    next_kept : (q : ℕ) → q < to → get_or (set next' to first) q 0 ≡ get_or next' q 0
    next_kept q h = get_or-set_other next' to q first 0 (λ e. omega arith)

    module_kept : (q : ℕ) → q < to → get_or (set dependency' to (get_or dependency r 0)) q 0 ≡ get_or dependency' q 0
    module_kept q h = get_or-set_other dependency' to q (get_or dependency r 0) 0 (λ e. omega arith)

    module_here : get_or (set dependency' to (get_or dependency r 0)) to 0 ≡ get_or dependency r 0
    module_here = get_or-set_same dependency' to (get_or dependency r 0) 0 (omega (arith, l.modules, p.modules_room))

    -- the new chain names the module of record r, and what it named before
    grown : laid_from (set dependency' to (get_or dependency r 0)) (set next' to first) to ≡ get_or dependency r 0 ∷ laid_from dependency' next' first
    grown =
        one_more (set dependency' to (get_or dependency r 0)) (set next' to first) to next_falls (omega (arith, p.some, l.at_in))
        ∙ ap (λ (x : ℕ). x ∷ laid_from (set dependency' to (get_or dependency r 0)) (set next' to first) (get_or (set next' to first) to 0)) module_here
        ∙ ap (λ (q : ℕ). get_or dependency r 0 ∷ laid_from (set dependency' to (get_or dependency r 0)) (set next' to first) q)
        (get_or-set_same next' to first 0 free)
        ∙ ap (λ (k : List ℕ). get_or dependency r 0 ∷ k)
        (laid_same next' to l.falls (set next' to first) next_kept dependency' (set dependency' to (get_or dependency r 0)) module_kept first
        l.first_in)

    -- what is left of the chain
    left : named_from dependency next d r ≡ get_or dependency r 0 ∷ named_from dependency next d (get_or next r 0)
    left = ap (λ (c : List ℕ). map (λ q. get_or dependency q 0) c) (chain_rest next d r some l.ends)

    here : Memᴰ (get_or dependency r 0) (named_from dependency next d from)
    here = l.rest (get_or dependency r 0) (subst (Memᴰ (get_or dependency r 0)) (sym left) (Memᴰ.head refl))

    pub lay_turns : Laying dependency next d from at dependency₀ next₀ to (to + 1) (get_or next r 0) (set dependency' to (get_or dependency r 0)) (set next' to first)
    lay_turns =
        record {
          modules = simp length-set l.modules;
          nexts = simp length-set l.nexts;
          at_in = omega (arith, l.at_in);
          to_in = simp length-set (omega (arith, free));
          first_in = omega arith;
          record_in = p.next_in r (omega arith) l.record_in;
          ends = rest_ended next d r some l.ends;
          kept = λ q h.
              let g : q < to = omega (arith, l.at_in) in
              (module_kept q g ∙ (l.kept q h).0, next_kept q g ∙ (l.kept q h).1);
          falls = λ q h g. next_falls q h (omega arith);
          named = named;
          there = there;
          back = back;
          rest = λ k m. l.rest k (subst (Memᴰ k) (sym left) (Memᴰ.tail m));
        }
      where
        named : (q : ℕ) → at ≤ q → q < to + 1
            → Memᴰ (get_or (set dependency' to (get_or dependency r 0)) q 0) (named_from dependency next d from)
        named q h g = go (ℕ_discrete q to)
          where
            go : Dec (q ≡ to) → Memᴰ (get_or (set dependency' to (get_or dependency r 0)) q 0) (named_from dependency next d from)
            go (yes e) = rw e (rw module_here here)
            go (no e) = rw (get_or-set_other dependency' to q (get_or dependency r 0) 0 e) (l.named q h (omega arith))

        there : (k : ℕ) → Memᴰ k (named_from dependency next d from)
            → Memᴰ k (laid_from (set dependency' to (get_or dependency r 0)) (set next' to first) to)
            ⊎ Memᴰ k (named_from dependency next d (get_or next r 0))
        there k m =
            ⊎_elim
            (λ t. inl (subst (Memᴰ k) (sym grown) (Memᴰ.tail t)))
            (λ t. ⊎_elim (λ e. inl (subst (Memᴰ k) (sym grown) (Memᴰ.head e))) inr (Memᴰ.cases_cons (subst (Memᴰ k) left t)))
            (l.there k m)

        back : (k : ℕ) → Memᴰ k (laid_from (set dependency' to (get_or dependency r 0)) (set next' to first) to)
            → Memᴰ k (named_from dependency next d from)
        back k m =
            ⊎_elim (λ e. subst (λ (x : ℕ). Memᴰ x (named_from dependency next d from)) (sym e) here) (λ t. l.back k t)
            (Memᴰ.cases_cons (subst (Memᴰ k) grown m))
