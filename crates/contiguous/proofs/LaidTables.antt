-- The chains of all modules laid one after the other: the new tables are ones that refusal 7 does not turn away, and hold the same dependencies.
use Prim.Native.Nat.{ℕ, suc, ◌+◌, ◌-◌, ◌≤◌, ◌<◌}
use mathlib.Core.Bool.{false, not, ◌||◌}
use mathlib.Core.List.{List, map, Memᴰ}
use mathlib.Core.Logic.{⊎_elim}
use mathlib.Core.Path.{◌≡◌, refl, sym, ap, ◌∙◌, subst}
use native.Mathlib.Decide.{ℕ_discrete, dec_lt}
use native.Mathlib.Omega.{arith}
use borrow.Author.Tests.{le-ltb, lt-leb}
use lib.Dec.{ltb, leb}
use lib.ListN.{length, get_or, set, take, length-set}
use lib.Seq.{get_or-set_same, get_or-set_other, get_or-take, length-take-le}
use Rattle.lists.proofs.Below.{any_none}
use Rattle.records.specs.Chain.{chain_of, dependencies, ended}
use Rattle.walk.specs.Chains.{named_from}
use Rattle.records.specs.Bad.{bad_first, bad_record, bad_chain, bad_records}
use Rattle.records.proofs.Table.{Good, good, dependencies_in}
use Rattle.contiguous.specs.Laid.{laid_from, Falls, LayReady, Laying, LayAllReady, SameDependencies}
use Rattle.contiguous.proofs.Falling.{falling_ends, falling_fuel, laid_same, none_laid}

-- tables without a first, a next, a module or a chain that refusal 7 turns away
pub not_bad : (first dependency next : List ℕ) (n d : ℕ) → Good first dependency next n d → bad_records first dependency next n d ≡ false
unfolding bad_records bad_first bad_record bad_chain
not_bad first dependency next n d g =
    rw (any_none (λ m. ltb d (get_or first m 0)) n (λ m h. le-ltb d (get_or first m 0) (g.first_in m h)))
    (rw (any_none (λ k. ltb d (get_or next (suc k) 0) || leb n (get_or dependency (suc k) 0)) d records)
    (any_none (λ m. not (ended next d (get_or first m 0))) n (λ m h. ap not (g.chain_ends m h))))
  where
    records : (k : ℕ) → k < d → (ltb d (get_or next (suc k) 0) || leb n (get_or dependency (suc k) 0)) ≡ false
    records k h =
        rw (le-ltb d (get_or next (suc k) 0) (g.next_in (suc k) (omega arith) h))
        (lt-leb n (get_or dependency (suc k) 0) (g.module_in (suc k) (omega arith) h))

-- the dependencies of module m, which lie on the chain that begins with its first record
dependencies_from : (first dependency next : List ℕ) (d m : ℕ) → dependencies first dependency next d m ≡ named_from dependency next d (get_or first m 0)
unfolding dependencies chain_of
dependencies_from first dependency next d m = refl

-- module m has the same dependencies along a chain that is laid below `at`
pub record LaidModule (first dependency next : List ℕ) (d at : ℕ) (first' dependency' next' : List ℕ) (m : ℕ) : Type 0 where
  pub below : get_or first' m 0 < at
  pub there : (k : ℕ) → Memᴰ k (dependencies first dependency next d m) → Memᴰ k (laid_from dependency' next' (get_or first' m 0))
  pub back : (k : ℕ) → Memᴰ k (laid_from dependency' next' (get_or first' m 0)) → Memᴰ k (dependencies first dependency next d m)

-- the chains of the modules below m are laid below `at`
pub record LayingAll (first dependency next : List ℕ) (n d room : ℕ) (first₀ dependency₀ next₀ : List ℕ) (m at : ℕ)
    (first' dependency' next' : List ℕ) : Type 0 where
  pub firsts : length first' ≡ length first₀
  pub modules : length dependency' ≡ length dependency₀
  pub nexts : length next' ≡ length next₀
  pub some : 1 ≤ at
  pub at_in : at ≤ room
  pub falls : Falls next' at
  pub module_in : (q : ℕ) → 1 ≤ q → q < at → get_or dependency' q 0 < n
  pub each : (l : ℕ) → l < m → LaidModule first dependency next d at first' dependency' next' l

module _ {first dependency next : List ℕ} {n d room : ℕ} where
  module _ {first₀ dependency₀ next₀ : List ℕ} (p : LayAllReady first dependency next n d first₀ dependency₀ next₀ room) where
    tables_good : Good first dependency next n d
    tables_good = good first dependency next n d p.good

    pub all_begins : LayingAll first dependency next n d room first₀ dependency₀ next₀ 0 1 first₀ dependency₀ next₀
    all_begins =
        record {
          firsts = refl;
          modules = refl;
          nexts = refl;
          some = omega arith;
          at_in = p.some;
          falls = λ q h l. absurd (omega arith);
          module_in = λ q h l. absurd (omega arith);
          each = λ l h. absurd (omega arith);
        }

    module _ {m at : ℕ} {first' dependency' next' : List ℕ}
        (a : LayingAll first dependency next n d room first₀ dependency₀ next₀ m at first' dependency' next') (h : m < n) where
      pub chain_ready : LayReady dependency next d dependency' next' (get_or first m 0) at room
      chain_ready =
          record {
            few = p.tables.few;
            modules = p.tables.modules;
            nexts = p.tables.nexts;
            next_in = tables_good.next_in;
            from_in = tables_good.first_in m h;
            ends = tables_good.chain_ends m h;
            modules_room = omega (arith, a.modules, p.modules);
            nexts_room = omega (arith, a.nexts, p.nexts);
            room_few = p.few;
            some = a.some;
            at_in = a.at_in;
            falls = a.falls;
          }

      module _ {head end : ℕ} {dependency'' next'' : List ℕ}
          (l : Laying dependency next d (get_or first m 0) at dependency' next' head end 0 dependency'' next'') (within : end ≤ room) where
        -- what lay below `at` names what it named
        earlier : (r : ℕ) → r < at → laid_from dependency'' next'' r ≡ laid_from dependency' next' r
        earlier = laid_same next' at a.falls next'' (λ q g. (l.kept q g).1) dependency' dependency'' (λ q g. (l.kept q g).0)

        module _ (first'' : List ℕ) (stored : first'' ≡ set first' m head) where
          first_here : get_or first'' m 0 ≡ head
          first_here = ap (λ (f : List ℕ). get_or f m 0) stored ∙ get_or-set_same first' m head 0 (omega (arith, a.firsts, p.firsts))

          first_kept : (k : ℕ) → k < m → get_or first'' k 0 ≡ get_or first' k 0
          first_kept k g = ap (λ (f : List ℕ). get_or f k 0) stored ∙ get_or-set_other first' m k head 0 (λ e. omega arith)

          new_module : LaidModule first dependency next d end first'' dependency'' next'' m
          new_module =
              record {
                below = rw first_here l.first_in;
                there = λ k i. rw first_here (whole k i);
                back = λ k i. rw (dependencies_from first dependency next d m) (l.back k (rw first_here at i));
              }
            where
              whole : (k : ℕ) → Memᴰ k (dependencies first dependency next d m) → Memᴰ k (laid_from dependency'' next'' head)
              whole k i =
                  ⊎_elim (λ t. t) (λ t. absurd (none_laid dependency next d k t))
                  (l.there k (rw (dependencies_from first dependency next d m) at i))

          old_module : (k : ℕ) → k < m → LaidModule first dependency next d end first'' dependency'' next'' k
          old_module k g =
              let o = a.each k g in
              record {
                below = rw (first_kept k g) (omega (arith, o.below, l.at_in));
                there = λ x i. rw (first_kept k g) (subst (Memᴰ x) (sym (earlier (get_or first' k 0) o.below)) (o.there x i));
                back = λ x i. o.back x (subst (Memᴰ x) (earlier (get_or first' k 0) o.below) (rw (first_kept k g) at i));
              }

          pub all_turns_lem : LayingAll first dependency next n d room first₀ dependency₀ next₀ (m + 1) end first'' dependency'' next''
          all_turns_lem =
              record {
                firsts = ap length stored ∙ simp length-set a.firsts;
                modules = l.modules ∙ a.modules;
                nexts = l.nexts ∙ a.nexts;
                some = omega (arith, a.some, l.at_in);
                at_in = within;
                falls = l.falls;
                module_in = module_in;
                each = each;
              }
            where
              module_in : (q : ℕ) → 1 ≤ q → q < end → get_or dependency'' q 0 < n
              module_in q g e = go (dec_lt q at)
                where
                  go : Dec (q < at) → get_or dependency'' q 0 < n
                  go (yes b) = rw (l.kept q b).0 (a.module_in q g b)
                  go (no b) =
                      dependencies_in first dependency next n d tables_good m h (get_or dependency'' q 0)
                      (rw (dependencies_from first dependency next d m) (l.named q (omega arith) e))

              each : (k : ℕ) → k < m + 1 → LaidModule first dependency next d end first'' dependency'' next'' k
              each k g = go (ℕ_discrete k m)
                where
                  go : Dec (k ≡ m) → LaidModule first dependency next d end first'' dependency'' next'' k
                  go (yes e) = rw e new_module
                  go (no e) = old_module k (omega arith)

    -- the part of the tables that holds them
    module _ {many at : ℕ} {first' dependency' next' : List ℕ}
        (a : LayingAll first dependency next n d room first₀ dependency₀ next₀ many at first' dependency' next') (all : n ≤ many) where
      laid : (m : ℕ) → m < n → LaidModule first dependency next d at first' dependency' next' m
      laid m h = a.each m (omega arith)

      next_part : (q : ℕ) → q < at → get_or (take at next') q 0 ≡ get_or next' q 0
      next_part q h = get_or-take at next' q 0 h

      module_part : (q : ℕ) → q < at → get_or (take at dependency') q 0 ≡ get_or dependency' q 0
      module_part q h = get_or-take at dependency' q 0 h

      falls_part : Falls (take at next') at
      falls_part q h l = rw (next_part q l) (a.falls q h l)

      first_part : (m : ℕ) → m < n → get_or (take n first') m 0 ≡ get_or first' m 0
      first_part m h = get_or-take n first' m 0 h

      -- what a module's chain names there
      part_named : (m : ℕ) → m < n
          → dependencies (take n first') (take at dependency') (take at next') (at - 1) m ≡ laid_from dependency' next' (get_or first' m 0)
      part_named m h =
          let b = (laid m h).below in
          dependencies_from (take n first') (take at dependency') (take at next') (at - 1) m
          ∙ ap (named_from (take at dependency') (take at next') (at - 1)) (first_part m h)
          ∙ ap (λ (c : List ℕ). map (λ q. get_or (take at dependency') q 0) c)
          (falling_fuel (take at next') at falls_part (at - 1) (get_or first' m 0) (omega (arith, a.some)) b)
          ∙ laid_same next' at a.falls (take at next') next_part dependency' (take at dependency') module_part (get_or first' m 0) b

      one_more : at ≡ at - 1 + 1
      one_more = omega (arith, a.some)

      pub all_same : SameDependencies first dependency next n d (take n first') (take at dependency') (take at next') (at - 1)
      all_same =
          record {
            tables =
                record {
                  few_modules = p.tables.few_modules;
                  few = omega (arith, p.few, a.at_in);
                  firsts = length-take-le n first' (omega (arith, a.firsts, p.firsts));
                  modules = length-take-le at dependency' (omega (arith, a.modules, a.at_in, p.modules)) ∙ one_more;
                  nexts = length-take-le at next' (omega (arith, a.nexts, a.at_in, p.nexts)) ∙ one_more;
                };
            good = not_bad (take n first') (take at dependency') (take at next') n (at - 1) (record {
              first_in = λ m h. let b = (laid m h).below in rw (first_part m h) (omega arith);
              next_in = λ r h l. let b = falls_part r h (omega (arith, a.some)) in omega arith;
              module_in = λ r h l. let b : r < at = omega (arith, a.some) in rw (module_part r b) (a.module_in r h b);
              chain_ends = λ m h.
                  let b = (laid m h).below in
                  rw (first_part m h) (falling_ends (take at next') at falls_part (at - 1) (get_or first' m 0) (omega arith) b);
            });
            there = λ m h k i. rw (part_named m h) ((laid m h).there k i);
            back = λ m h k i. (laid m h).back k (rw (part_named m h) at i);
          }
