-- Along with the part of a walk that marks: the records marked as followed are those along the chains of the modules that it took off the list, from
-- place `start` on, and zero.
use Prim.Native.Nat.{ℕ, ◌+◌, ◌-◌, ◌≤◌, ◌<◌}
use mathlib.Core.List.Memᴰ
use mathlib.Core.List.{List, foldl, Memᴰ}
use mathlib.Core.Logic.{◌⊎◌, inl, inr, ⊎_elim}
use mathlib.Core.Path.{◌≡◌, sym, ap, ◌∙◌, subst, subst₂}
use native.Mathlib.Decide.{dec_lt}
use native.Mathlib.Omega.{arith}
use lib.ListN.{length, get_or, set, take, drop, replicate, length-drop, length-set, length-replicate}
use lib.Seq.{get_or-drop, get_or-take, length-take-le}
use Rattle.records.specs.Chain.{chain_of, dependencies}
use Rattle.records.specs.Marks.{ChainMarks}
use Rattle.lists.specs.Stored.{stored}
use Rattle.records.specs.Bad.{RecordTables}
use Rattle.records.proofs.Chain.{chain_in, chain_first}
use Rattle.records.proofs.Known.{marks_none, only_zero}
use Rattle.records.proofs.ChainMarks.{chain_marked}
use Rattle.lists.proofs.Stored.{stored_either, stored_kept, stored_length, stored_on}
use Rattle.records.proofs.Table.{Good, dependencies_in}
use Rattle.forget.specs.Unfollowed.{unfollowed, ForgetAllReady}
use Rattle.walk.specs.Names.{Eligible}
use Rattle.walk.specs.Followed.{Followed}
use Rattle.walk.specs.Walk.{Walk, Walking, visited}
use Rattle.walk.specs.Visited.{Visited}
use Rattle.walk.proofs.Visit.{visit_all}
use Rattle.walk.proofs.Walking.{list_within}

pub unfollowed_bytes : {followed : List ℕ} → followed ≡ unfollowed → length followed ≡ 65536
unfolding unfollowed
unfollowed_bytes e = ap length e ∙ length-replicate {A = ℕ} 65536 0

module _ (flags first dependency next : List ℕ) (n d : ℕ) where
  -- record r is on the chain of a module that was taken off
  abbrev Taken : ℕ → ℕ → Walk → ℕ → Type 0
  Taken start head w r = (i : ℕ) × (start ≤ i) × (i < head) × Memᴰ r (chain_of first next d (get_or w.queue i 0))

  pub record Trail (start head : ℕ) (w : Walk) (followed : List ℕ) : Type 0 where
    pub begun : start ≤ head
    pub marks : Followed flags dependency next d w.marks followed 0
    pub bytes : length followed ≡ 65536
    pub each : (i : ℕ) → start ≤ i → i < head → get_or followed (get_or first (get_or w.queue i 0) 0) 0 ≡ 1
    pub only : (r : ℕ) → get_or followed r 0 ≡ 1 → (r ≡ 0) ⊎ Taken start head w r

  -- at first none is, but zero
  pub trail_begins : d ≤ 65535 → (start : ℕ) (w : Walk) (followed : List ℕ) → followed ≡ unfollowed → Trail start start w (set followed 0 1)
  unfolding unfollowed
  trail_begins few start w followed e =
      let h : d < 65536 = omega arith in
      subst (λ (l : List ℕ). Trail start start w (set l 0 1)) (sym e) (
      record {
        begun = omega arith;
        marks = record { chains = marks_none next d 65536 h; done = λ r a b o. let z = only_zero next d 65536 h r o in absurd (omega arith) };
        bytes = length-set (replicate {A = ℕ} 65536 0) 0 1 ∙ length-replicate {A = ℕ} 65536 0;
        each = λ i a b. absurd (omega arith);
        only = λ r o. inl (only_zero next d 65536 h r o);
      })

  -- one module more is taken off, and its chain followed
  module _ (g : Good first dependency next n d) (w₀ : Walk) (head : ℕ) (w : Walk) (p : Walking flags first dependency next n d w₀ head w) (h : head < w.tail)
      (start : ℕ) (followed : List ℕ) (t : Trail start head w followed) where
    abbrev of : ℕ
    of = get_or w.queue head 0

    of_in : of < n
    of_in = (p.state.queued head h).0

    abbrev chain : List ℕ
    chain = chain_of first next d of

    abbrev w' : Walk
    w' = foldl (visited flags) w (dependencies first dependency next d of)

    visits : Visited flags n (dependencies first dependency next d of) w w'
    visits = visit_all flags n _ w p.state (dependencies_in first dependency next n d g of of_in)

    place : (i : ℕ) → i < head → get_or w'.queue i 0 ≡ get_or w.queue i 0
    place i l = visits.places_stay i (omega arith)

    here : get_or w'.queue head 0 ≡ of
    here = visits.places_stay head h

    in_chain : (r : ℕ) → Memᴰ r chain → r < length followed
    unfolding chain_of
    in_chain r m =
        let room = t.marks.chains.room in
        let b = chain_in next d g.next_in d (get_or first of 0) (g.first_in of of_in) r m in
        omega (arith, b.1)

    chains_after : ChainMarks next d (stored 1 chain followed) 0
    unfolding chain_of
    chains_after =
        chain_marked next d followed t.marks.chains (get_or first of 0) (g.chain_ends of of_in)
        (λ r m. (chain_in next d g.next_in d (get_or first of 0) (g.first_in of of_in) r m).1)

    done_after : (r : ℕ) → 1 ≤ r → r ≤ d → get_or (stored 1 chain followed) r 0 ≡ 1 → Eligible flags (get_or dependency r 0)
        → get_or w'.marks (get_or dependency r 0) 0 ≡ 1
    unfolding dependencies
    done_after r a b e el =
        ⊎_elim (λ q. visits.all (get_or dependency r 0) (Memᴰ.map (λ r. get_or dependency r 0) q.1) el)
        (λ q. visits.marks_stay (get_or dependency r 0) (t.marks.done r a b (sym q ∙ e) el)) (stored_either 1 chain followed r)

    -- its first record is followed, which may be zero
    first_followed : get_or (stored 1 chain followed) (get_or first of 0) 0 ≡ 1
    unfolding chain_of
    first_followed =
        ⊎_elim (λ z. ap (λ (k : ℕ). get_or (stored 1 chain followed) k 0) z ∙ chains_after.end)
        (λ m. stored_on 1 chain followed (get_or first of 0) (in_chain (get_or first of 0) m) m) (chain_first next d (get_or first of 0) (g.chain_ends of of_in))

    each_after : (i : ℕ) → start ≤ i → i < head + 1 → get_or (stored 1 chain followed) (get_or first (get_or w'.queue i 0) 0) 0 ≡ 1
    each_after i a l = go (dec_lt i head)
      where
        go : Dec (i < head) → get_or (stored 1 chain followed) (get_or first (get_or w'.queue i 0) 0) 0 ≡ 1
        go (yes b) =
            ap (λ (m : ℕ). get_or (stored 1 chain followed) (get_or first m 0) 0) (place i b)
            ∙ stored_kept 1 chain followed (get_or first (get_or w.queue i 0) 0) (t.each i a b)
        go (no b) =
            let q : i ≡ head = omega arith in
            ap (λ (m : ℕ). get_or (stored 1 chain followed) (get_or first m 0) 0) (ap (λ (j : ℕ). get_or w'.queue j 0) q ∙ here) ∙ first_followed

    before : (r : ℕ) → Taken start head w r → Taken start (head + 1) w' r
    before r o = (o.0, o.1, omega (arith, o.2), subst (λ (m : ℕ). Memᴰ r (chain_of first next d m)) (sym (place o.0 o.2)) o.3)

    only_after : (r : ℕ) → get_or (stored 1 chain followed) r 0 ≡ 1 → (r ≡ 0) ⊎ Taken start (head + 1) w' r
    only_after r e =
        ⊎_elim
        (λ q. inr (head, t.begun, omega arith, subst (λ (m : ℕ). Memᴰ r (chain_of first next d m)) (sym here) q.1))
        (λ q. ⊎_elim inl (λ o. inr (before r o)) (t.only r (sym q ∙ e)))
        (stored_either 1 chain followed r)

    pub trail_turns : {v : Walk} {followed' : List ℕ} → w' ≡ v → followed' ≡ stored 1 chain followed → Trail start (head + 1) v followed'
    trail_turns e f =
        subst₂ (Trail start (head + 1)) e (sym f) (
        record {
          begun = omega (arith, t.begun);
          marks = record { chains = chains_after; done = done_after };
          bytes = stored_length 1 chain followed ∙ t.bytes;
          each = each_after;
          only = only_after;
        })

  -- all are taken off: the marks can be undone along the part of the list from `start` on
  module _ (tables : RecordTables first dependency next n d) (g : Good first dependency next n d) (w₀ : Walk) (head : ℕ) (w : Walk)
      (p : Walking flags first dependency next n d w₀ head w) (h : w.tail ≤ head) (start : ℕ) (followed : List ℕ) (t : Trail start head w followed) where
    -- the part lies in the list
    pub part_in : (start ≤ w.tail) × (w.tail ≤ length w.queue)
    part_in = (omega (arith, t.begun, p.head_in), omega (arith, p.state.room, list_within flags n w p.state))

    abbrev list : List ℕ
    list = take (w.tail - start) (drop start w.queue)

    pub list_length : length list ≡ w.tail - start
    list_length = length-take-le (w.tail - start) (drop start w.queue) (simp length-drop (omega (arith, part_in)))

    below : (i : ℕ) → i < length list → start + i < w.tail
    below i l = omega (arith, list_length, part_in)

    entry : (i : ℕ) → start + i < w.tail → get_or list i 0 ≡ get_or w.queue (start + i) 0
    entry i l = get_or-take (w.tail - start) (drop start w.queue) i 0 (omega arith) ∙ get_or-drop start w.queue i 0

    entry_in : (i : ℕ) → i < length list → get_or list i 0 < n
    entry_in i l = subst (λ (m : ℕ). m < n) (sym (entry i (below i l))) (p.state.queued (start + i) (below i l)).0

    listed : (r : ℕ) → Taken start head w r → (i : ℕ) × (i < length list) × Memᴰ r (chain_of first next d (get_or list i 0))
    listed r o =
        let i = o.0 - start in
        let e : start + i ≡ o.0 = omega (arith, o.1) in
        let l : start + i < w.tail = omega (arith, o.2, p.head_in) in
        let q : get_or list i 0 ≡ get_or w.queue o.0 0 = entry i l ∙ ap (λ (j : ℕ). get_or w.queue j 0) e in
        (i, omega (arith, list_length), subst (λ (m : ℕ). Memᴰ r (chain_of first next d m)) (sym q) o.3)

    pub trail_ends : ForgetAllReady first next list followed d
    trail_ends =
        record {
          within = omega (arith, tables.nexts);
          next_in = g.next_in;
          list_in = λ i l. omega (arith, entry_in i l, tables.firsts);
          first_in = λ i l. g.first_in (get_or list i 0) (entry_in i l);
          ends = λ i l. g.chain_ends (get_or list i 0) (entry_in i l);
          marks =
              record {
                chains = t.marks.chains;
                bytes = t.bytes;
                each = λ i l.
                    ap (λ (m : ℕ). get_or followed (get_or first m 0) 0) (entry i (below i l))
                    ∙ t.each (start + i) (omega arith) (omega (arith, below i l, p.head_in));
                only = λ r e. ⊎_elim inl (λ o. inr (listed r o)) (t.only r e);
              };
        }
