-- Along a chain, one visit a record, up to a record that was followed before: what is left to do from record r on is what was to be done from the
-- chain's first record on. The fuel of the definition stays what it is, and the records left get fewer.
use Prim.Native.Nat.{ℕ, ◌≤◌, ◌<◌}
use mathlib.Core.Bool.{Bool, true, false}
use mathlib.Core.List.Memᴰ
use mathlib.Core.List.{List, [], ◌∷◌, map, foldl, Memᴰ}
use mathlib.Core.Logic.{⊎_elim}
use mathlib.Core.Path.{◌≡◌, refl, sym, ap, ◌∙◌, subst}
use native.Mathlib.Omega.{arith}
use lib.ListN.{length, get_or, set}
use Rattle.flags.specs.Flags.{eligible_at}
use Rattle.records.specs.Chain.{chain_from}
use Rattle.lists.specs.Stored.{stored}
use Rattle.records.proofs.Chain.{chain_in, chain_rest}
use Rattle.records.proofs.Marking.{Marking, marking_begins, marking_ends, marking_less, marking_turns}
use Rattle.records.proofs.ChainMarks.{unmarked_some, rest_marked}
use Rattle.lists.proofs.Stored.{one_stored}
use Rattle.records.proofs.Table.{Good}
use Rattle.walk.specs.Names.{Eligible}
use Rattle.walk.specs.Followed.{Followed}
use Rattle.walk.specs.Chains.{named_from}
use Rattle.walk.specs.Walk.{Walk, WalkState, visited}
use Rattle.walk.proofs.Visit.{visit_one, visit_ineligible, visit_marked}

-- visits change nothing where each module is marked already, if it is eligible
visit_done : (flags : List ℕ) (w : Walk) (ks : List ℕ) → ((k : ℕ) → Memᴰ k ks → Eligible flags k → get_or w.marks k 0 ≡ 1)
    → foldl (visited flags) w ks ≡ w
visit_done flags w [] all = refl
visit_done flags w (k ∷ ks) all =
    ap (λ (v : Walk). foldl (visited flags) v ks) (go (eligible_at flags k) refl) ∙ visit_done flags w ks (λ j m. all j (Memᴰ.tail m))
  where
    go : (b : Bool) → eligible_at flags k ≡ b → visited flags w k ≡ w
    go false e = visit_ineligible flags w k e
    go true e = let o = all k (Memᴰ.head refl) e in visit_marked flags w k (λ z. omega arith)

-- w₀ at record r₀ has come to w at record r
pub record Following (flags dependency next : List ℕ) (n d : ℕ) (w₀ : Walk) (followed₀ : List ℕ) (r₀ : ℕ) (w : Walk) (followed : List ℕ) (r : ℕ) : Type 0 where
  pub state : WalkState flags n w
  pub marking : Marking next d followed₀ r₀ followed r
  pub done : (k : ℕ) → 1 ≤ k → k ≤ d → get_or followed k 0 ≡ 1 → Eligible flags (get_or dependency k 0) → get_or w.marks (get_or dependency k 0) 0 ≡ 1
  pub same : foldl (visited flags) w₀ (named_from dependency next d r₀) ≡ foldl (visited flags) w (named_from dependency next d r)
  pub queue_length : length w.queue ≡ length w₀.queue

module _ (flags first dependency next : List ℕ) (n d : ℕ) (g : Good first dependency next n d) where
  -- a module's chain from its first record on
  pub follow_begins : (w : Walk) (followed : List ℕ) (m : ℕ) → WalkState flags n w → Followed flags dependency next d w.marks followed 0 → m < n
      → Following flags dependency next n d w followed (get_or first m 0) w followed (get_or first m 0)
  follow_begins w followed m s f h =
      record {
        state = s;
        marking = marking_begins next d g.next_in followed (get_or first m 0) f.chains (g.first_in m h) (g.chain_ends m h);
        done = f.done;
        same = refl;
        queue_length = refl;
      }

  module _ (w₀ : Walk) (followed₀ : List ℕ) (r₀ : ℕ) (w : Walk) (followed : List ℕ) (r : ℕ)
      (p : Following flags dependency next n d w₀ followed₀ r₀ w followed r) where
    abbrev m : Marking next d followed₀ r₀ followed r
    m = p.marking

    -- at a record that was followed, all is done
    module _ (h : get_or followed r 0 ≡ 1) where
      rest_done : (k : ℕ) → Memᴰ k (named_from dependency next d r) → Eligible flags k → get_or w.marks k 0 ≡ 1
      rest_done k i el =
          let o = Memᴰ.of_map (λ r. get_or dependency r 0) (chain_from next d r) i in
          let b = chain_in next d g.next_in d r m.record_in o.0 o.1 in
          let e = rest_marked next d followed r m.marked h g.next_in d m.record_in o.0 o.1 in
          subst (λ (x : ℕ). get_or w.marks x 0 ≡ 1) o.2 (p.done o.0 b.0 b.1 e (subst (Eligible flags) (sym o.2) el))

      pub follow_ends : foldl (visited flags) w₀ (named_from dependency next d r₀) ≡ w
      follow_ends = p.same ∙ visit_done flags w (named_from dependency next d r) rest_done

      pub followed_ends : followed ≡ stored 1 (chain_from next d r₀) followed₀
      followed_ends = sym (marking_ends next d g.next_in followed₀ r₀ followed r m h)

    module _ (h : get_or followed r 0 ≡ 0) where
      some : r ≡ 0 → ⊥
      some = unmarked_some r m.marked h

      pub named_in : get_or dependency r 0 < n
      named_in = g.module_in r (omega (arith, some)) m.record_in

      pub follow_less : length (chain_from next d (get_or next r 0)) < length (chain_from next d r)
      follow_less = marking_less next d g.next_in followed₀ r₀ followed r m h

      pub follow_turns : {w' : Walk} → visited flags w (get_or dependency r 0) ≡ w'
          → Following flags dependency next n d w₀ followed₀ r₀ w' (set followed r 1) (get_or next r 0)
      follow_turns e =
          let v = visit_one flags n w p.state (get_or dependency r 0) named_in in
          let here = chain_rest next d r some m.ends in
          subst (λ (w' : Walk). Following flags dependency next n d w₀ followed₀ r₀ w' (set followed r 1) (get_or next r 0)) e (
          record {
            state = v.state;
            marking = marking_turns next d g.next_in followed₀ r₀ followed r m h;
            done = λ k a b f el.
                ⊎_elim
                (λ q. v.all (get_or dependency k 0) (Memᴰ.head (ap (λ (j : ℕ). get_or dependency j 0) q.1)) el)
                (λ q. v.marks_stay (get_or dependency k 0) (p.done k a b (sym q ∙ f) el))
                (one_stored 1 followed r k);
            same = p.same ∙ ap (λ (l : List ℕ). foldl (visited flags) w (map (λ r. get_or dependency r 0) l)) here;
            queue_length = v.queue_length ∙ p.queue_length;
          })
