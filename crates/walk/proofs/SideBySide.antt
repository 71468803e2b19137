-- Along several chains side by side: a turn visits what each of their records names and goes on to the next of each, and at the end what is left of
-- each chain is gone along by itself. In which order modules are visited is all one, so visits are told by which modules they are of.
use Prim.Native.Nat.{ℕ, suc, ◌+◌, ◌*◌, ◌≤◌, ◌<◌}
use mathlib.Core.Bool.{Bool, true, false, not, ◌&&◌, false≢true}
use mathlib.Core.List.Memᴰ
use mathlib.Core.List.{List, [], ◌∷◌, ◌++◌, map, flat_map, foldl, Memᴰ}
use mathlib.Core.List.{append-nil}
use mathlib.Core.Logic.{⊎_elim}
use mathlib.Core.Path.{◌≡◌, refl, sym, ap, ◌∙◌, subst}
use native.Mathlib.Nat.{suc-mul}
use native.Mathlib.Omega.{arith}
use borrow.Author.Tests.{eqb-false}
use lib.Dec.{eqb}
use lib.ListN.{length, get_or, length-append}
use lib.Seq.{drop-cons}
use Rattle.lists.proofs.FlatMap.{flat_map_append, flat_map_mem, mem_flat_map}
use Rattle.records.specs.Chain.{chain_from, chain_of, dependencies}
use Rattle.records.proofs.Chain.{chain_in}
use Rattle.walk.specs.Walk.{Walk, WalkState, VisitReady, visited}
use Rattle.walk.specs.Visited.{Visited}
use Rattle.walk.specs.Chains.{named_from, named_from_all, named_by_part, go_on, LinkTables, Chain, FollowAllReady, RecordsReady}
use Rattle.walk.proofs.Visit.{visit_all, none_new, then_visited, visited_same}
use Rattle.walk.proofs.Passing.{named_length, named_in, named_rest, chain_on}

-- what holds of a record and of each of some others
pub each_of : {P : ℕ → Type 0} {x : ℕ} {rs : List ℕ} → P x → ((r : ℕ) → Memᴰ r rs → P r) → (r : ℕ) → Memᴰ r (x ∷ rs) → P r
each_of {P} h rest r m = ⊎_elim (λ q. subst P (sym q) h) (λ t. rest r t) (Memᴰ.cases_cons m)

-- where all chains go on, none is at the zero
none_ended : (rs : List ℕ) → go_on rs ≡ true → (r : ℕ) → Memᴰ r rs → r ≡ 0 → ⊥
unfolding go_on
none_ended [] e r m = absurd (Memᴰ.not-nil m)
none_ended (x ∷ rs) e r m = go (eqb x 0) refl e (none_ended rs)
  where
    go : (b : Bool) → eqb x 0 ≡ b → (not b && go_on rs) ≡ true → (go_on rs ≡ true → (r : ℕ) → Memᴰ r rs → r ≡ 0 → ⊥) → r ≡ 0 → ⊥
    go true q e rest = absurd (false≢true e)
    go false q e rest = ⊎_elim (λ s z. eqb-false x 0 q (sym s ∙ z)) (λ t. rest e r t) (Memᴰ.cases_cons m)

-- ---- visits of the modules that records name

module _ {flags dependency : List ℕ} {w : Walk} where
  -- of the first of some records
  pub first_ready : {r : ℕ} {rs : List ℕ} → RecordsReady flags dependency w (r ∷ rs) → VisitReady flags w (get_or dependency r 0)
  first_ready p = record { state = p.state; module_in = p.module_in _ (Memᴰ.head refl) }

  module _ (rs more : List ℕ) (p : RecordsReady flags dependency w (rs ++ more)) where
    -- of some records
    pub some_ready : RecordsReady flags dependency w rs
    some_ready =
        record {
          state = p.state;
          record_in = λ r m. p.record_in r (Memᴰ.append_left more m);
          module_in = λ r m. p.module_in r (Memᴰ.append_left more m);
        }

    -- and after them of the others
    pub more_ready : {w' : Walk} → foldl (visited flags) w (map (λ r. get_or dependency r 0) rs) ≡ w' → RecordsReady flags dependency w' more
    more_ready e =
        let v = visit_all flags (length flags) (map (λ r. get_or dependency r 0) rs) w p.state below in
        record {
          state = subst (WalkState flags (length flags)) e v.state;
          record_in = λ r m. p.record_in r (Memᴰ.append_right rs m);
          module_in = λ r m. p.module_in r (Memᴰ.append_right rs m);
        }
      where
        below : (k : ℕ) → Memᴰ k (map (λ r. get_or dependency r 0) rs) → k < length flags
        below k m =
            let o = Memᴰ.of_map (λ r. get_or dependency r 0) rs m in
            subst (λ (x : ℕ). x < length flags) o.2 (p.module_in o.0 (Memᴰ.append_left more o.1))

-- ---- all along

-- w₀ at the records rs₀ has come to w at the records rs, and the records gone along from `gone` to `count`
pub record SideBySide (flags dependency next : List ℕ) (n d : ℕ) (w₀ : Walk) (gone : ℕ) (rs₀ : List ℕ) (w : Walk) (count : ℕ) (rs : List ℕ) : Type 0 where
  pub state : WalkState flags n w
  pub chains : (r : ℕ) → Memᴰ r rs → Chain next d r
  pub counted : count + length (named_from_all dependency next d rs) ≡ gone + length (named_from_all dependency next d rs₀)
  pub rest : {w' : Walk} → Visited flags n (named_from_all dependency next d rs) w w' → Visited flags n (named_from_all dependency next d rs₀) w₀ w'
  pub queue_length : length w.queue ≡ length w₀.queue

module _ (dependency next : List ℕ) (d : ℕ) where
  -- no chain has more than d records
  names_length : (rs : List ℕ) → length (named_from_all dependency next d rs) ≤ length rs * d
  unfolding flat_map
  names_length [] = omega arith
  names_length (r ∷ rs) = simp (length-append, suc-mul) (omega (arith, named_length dependency next d r, names_length rs))

  -- a turn visits one for each record
  turn_length : (n : ℕ) → LinkTables dependency next n d → (rs : List ℕ) → ((r : ℕ) → Memᴰ r rs → Chain next d r)
      → ((r : ℕ) → Memᴰ r rs → r ≡ 0 → ⊥)
      → length (named_from_all dependency next d rs) ≡ length rs + length (named_from_all dependency next d (map (λ r. get_or next r 0) rs))
  unfolding flat_map
  turn_length n t [] c some = refl
  turn_length n t (r ∷ rs) c some =
      let here = ap length (named_rest t (c r (Memᴰ.head refl)) (some r (Memᴰ.head refl))) in
      let rest = turn_length n t rs (λ k m. c k (Memᴰ.tail m)) (λ k m. some k (Memᴰ.tail m)) in
      simp length-append (omega arith)

-- one chain that is gone along to its end
chain_visited : {flags dependency next : List ℕ} {n d : ℕ} → LinkTables dependency next n d → {r : ℕ} → Chain next d r → {w w' : Walk}
    → WalkState flags n w → foldl (visited flags) w (named_from dependency next d r) ≡ w' → Visited flags n (named_from_all dependency next d (r ∷ [])) w w'
unfolding flat_map
chain_visited {flags} {dependency} {next} {n} {d} t {r} c {w} s e =
    rw append-nil (subst (Visited flags n (named_from dependency next d r) w) e (visit_all flags n (named_from dependency next d r) w s below))
  where
    below : (k : ℕ) → Memᴰ k (named_from dependency next d r) → k < n
    below k m =
        let o = Memᴰ.of_map (λ r. get_or dependency r 0) (chain_from next d r) m in
        let b = chain_in next d t.next_in d r c.record_in o.0 o.1 in
        subst (λ (x : ℕ). x < n) o.2 (t.module_in o.0 b.0 b.1)

module _ {flags dependency next : List ℕ} {n d : ℕ} (t : LinkTables dependency next n d) where
  pub side_begins : (w : Walk) (gone : ℕ) (rs : List ℕ) → WalkState flags n w → ((r : ℕ) → Memᴰ r rs → Chain next d r)
      → SideBySide flags dependency next n d w gone rs w gone rs
  side_begins w gone rs s c = record { state = s; chains = c; counted = refl; rest = λ v. v; queue_length = refl }

  module _ {w₀ : Walk} {gone : ℕ} {rs₀ : List ℕ} {w : Walk} {count : ℕ} where
    -- the records can be counted
    pub side_few : {rs : List ℕ} → SideBySide flags dependency next n d w₀ gone rs₀ w count rs → count ≤ gone + length rs₀ * d
    side_few p = omega (arith, p.counted, names_length dependency next d rs₀)

    -- all chains go on
    module _ {rs : List ℕ} (p : SideBySide flags dependency next n d w₀ gone rs₀ w count rs) (e : go_on rs ≡ true) where
      some : (r : ℕ) → Memᴰ r rs → r ≡ 0 → ⊥
      some = none_ended rs e

      abbrev dependency_of : ℕ → ℕ
      dependency_of r = get_or dependency r 0

      abbrev next_of : ℕ → ℕ
      next_of r = get_or next r 0

      records_named : (r : ℕ) → Memᴰ r rs → (r ≤ d) × (get_or dependency r 0 < n)
      records_named r m = ((p.chains r m).record_in, named_in t (p.chains r m) (some r m))

      pub side_length : length (named_from_all dependency next d rs) ≡ length rs + length (named_from_all dependency next d (map next_of rs))
      side_length = turn_length dependency next d n t rs p.chains some

      first_or_later : (k : ℕ) → Memᴰ k (named_from_all dependency next d rs) → Memᴰ k (map dependency_of rs ++ named_from_all dependency next d (map next_of rs))
      first_or_later k m =
          let o = flat_map_mem (named_from dependency next d) rs k m in
          let r = o.0 in
          ⊎_elim
          (λ q. Memᴰ.append_left _ (subst (λ (x : ℕ). Memᴰ x (map dependency_of rs)) (sym q) (Memᴰ.map dependency_of o.1)))
          (λ i. Memᴰ.append_right (map dependency_of rs) (mem_flat_map (named_from dependency next d) (next_of r) k (Memᴰ.map next_of o.1) i))
          (Memᴰ.cases_cons (subst (Memᴰ k) (named_rest t (p.chains r o.1) (some r o.1)) o.2))

      either : (k : ℕ) → Memᴰ k (map dependency_of rs ++ named_from_all dependency next d (map next_of rs)) → Memᴰ k (named_from_all dependency next d rs)
      either k m = ⊎_elim here later (Memᴰ.append_cases (map dependency_of rs) m)
        where
          on : (r : ℕ) → Memᴰ r rs → Memᴰ k (dependency_of r ∷ named_from dependency next d (next_of r)) → Memᴰ k (named_from_all dependency next d rs)
          on r i j =
              mem_flat_map (named_from dependency next d) r k i
              (subst (Memᴰ k) (sym (named_rest t (p.chains r i) (some r i))) j)

          here : Memᴰ k (map dependency_of rs) → Memᴰ k (named_from_all dependency next d rs)
          here i = let o = Memᴰ.of_map dependency_of rs i in on o.0 o.1 (Memᴰ.head (sym o.2))

          later : Memᴰ k (named_from_all dependency next d (map next_of rs)) → Memᴰ k (named_from_all dependency next d rs)
          later i =
              let o = flat_map_mem (named_from dependency next d) (map next_of rs) k i in
              let s = Memᴰ.of_map next_of rs o.1 in
              on s.0 s.1 (Memᴰ.tail (subst (λ (x : ℕ). Memᴰ k (named_from dependency next d x)) (sym s.2) o.2))

      turn : Visited flags n (map dependency_of rs) w (foldl (visited flags) w (map dependency_of rs))
      turn = visit_all flags n (map dependency_of rs) w p.state below
        where
          below : (k : ℕ) → Memᴰ k (map dependency_of rs) → k < n
          below k m = let o = Memᴰ.of_map dependency_of rs m in subst (λ (x : ℕ). x < n) o.2 (records_named o.0 o.1).1

      on_chains : (r : ℕ) → Memᴰ r (map next_of rs) → Chain next d r
      on_chains r m =
          let o = Memᴰ.of_map next_of rs m in
          subst (Chain next d) o.2 (chain_on t (p.chains o.0 o.1) (some o.0 o.1))

      pub side_turns : {w' : Walk} → foldl (visited flags) w (map dependency_of rs) ≡ w'
          → SideBySide flags dependency next n d w₀ gone rs₀ w' (count + length rs) (map next_of rs)
      side_turns q =
          subst (λ (w' : Walk). SideBySide flags dependency next n d w₀ gone rs₀ w' (count + length rs) (map next_of rs)) q (
          record {
            state = turn.state;
            chains = on_chains;
            counted = omega (arith, p.counted, side_length);
            rest = λ v. p.rest (visited_same (λ k. (either k, first_or_later k)) (then_visited (map dependency_of rs) turn v));
            queue_length = turn.queue_length ∙ p.queue_length;
          })

    -- some of the chains are gone along to their ends
    module _ (ended rs : List ℕ) (p : SideBySide flags dependency next n d w₀ gone rs₀ w count (ended ++ rs)) where
      pub rest_ready : {most : ℕ} → count ≤ most → FollowAllReady flags dependency next n d w count most ended
      rest_ready few = record { tables = t; state = p.state; few = few; chains = λ r m. p.chains r (Memᴰ.append_left rs m) }

      pub side_rest : {w' : Walk} {count' : ℕ} → Visited flags n (named_from_all dependency next d ended) w w'
          → count' ≡ count + length (named_from_all dependency next d ended) → SideBySide flags dependency next n d w₀ gone rs₀ w' count' rs
      side_rest v q =
          let both = flat_map_append (named_from dependency next d) ended rs in
          record {
            state = v.state;
            chains = λ r m. p.chains r (Memᴰ.append_right ended m);
            counted = omega (arith, p.counted, ap length both ∙ length-append (named_from_all dependency next d ended) (named_from_all dependency next d rs));
            rest = λ {w' = u} after. p.rest (subst (λ (ks : List ℕ). Visited flags n ks w u) (sym both) (then_visited (named_from_all dependency next d ended) v after));
            queue_length = v.queue_length ∙ p.queue_length;
          }

    -- the first of them is
    pub side_one : {r : ℕ} {rs : List ℕ} (p : SideBySide flags dependency next n d w₀ gone rs₀ w count (r ∷ rs)) {w' : Walk} {count' : ℕ}
        → foldl (visited flags) w (named_from dependency next d r) ≡ w' → count' ≡ count + length (named_from dependency next d r)
        → SideBySide flags dependency next n d w₀ gone rs₀ w' count' rs
    unfolding flat_map
    side_one {r} {rs} p e q =
        let alone = append-nil (named_from dependency next d r) in
        side_rest (r ∷ []) rs p (chain_visited t (p.chains r (Memᴰ.head refl)) p.state e) (omega (arith, ap length alone))

    -- no chain is left: what was named from the first records on is visited
    pub side_ends : SideBySide flags dependency next n d w₀ gone rs₀ w count []
        → Visited flags n (named_from_all dependency next d rs₀) w₀ w × (count ≡ gone + length (named_from_all dependency next d rs₀))
    unfolding flat_map
    side_ends p = (p.rest (none_new flags n [] w p.state (λ k m. absurd (Memᴰ.not-nil m))), omega (arith, p.counted))

-- the modules that the records of a turn name can be visited
pub turn_ready : {flags dependency next : List ℕ} {d : ℕ} (t : LinkTables dependency next (length flags) d) {w₀ : Walk} {gone : ℕ} {rs₀ : List ℕ} {w : Walk}
    {count : ℕ} {rs : List ℕ} → SideBySide flags dependency next (length flags) d w₀ gone rs₀ w count rs → go_on rs ≡ true → RecordsReady flags dependency w rs
turn_ready t p e =
    record {
      state = p.state;
      record_in = λ r m. omega (arith, (records_named t p e r m).0, t.modules);
      module_in = λ r m. (records_named t p e r m).1;
    }

-- the same modules, named otherwise
pub named_as : {flags : List ℕ} {n : ℕ} {ks js : List ℕ} {w w' : Walk} → ks ≡ js → Visited flags n ks w w' → Visited flags n js w w'
named_as {flags} {n} {w = w} {w'} q v = subst (λ (ks : List ℕ). Visited flags n ks w w') q v

-- what four modules of a list name is what is named from their first records on
pub four_named : (first dependency next : List ℕ) (d : ℕ) (queue : List ℕ) (head : ℕ) {a b c e : ℕ} → head + 4 ≤ length queue
    → a ≡ get_or first (get_or queue head 0) 0
    → b ≡ get_or first (get_or queue (head + 1) 0) 0
    → c ≡ get_or first (get_or queue (head + 2) 0) 0
    → e ≡ get_or first (get_or queue (head + 3) 0) 0
    → named_from_all dependency next d (a ∷ b ∷ c ∷ e ∷ []) ≡ named_by_part first dependency next d queue head 4
unfolding flat_map dependencies chain_of
four_named first dependency next d queue head h p q r s =
    let one : head + 1 ≡ suc head = omega arith in
    let two : head + 2 ≡ suc (suc head) = omega arith in
    let three : head + 3 ≡ suc (suc (suc head)) = omega arith in
    rw (
      p,
      q,
      r,
      s,
      one,
      two,
      three,
      drop-cons queue head 0 (omega arith),
      drop-cons queue (suc head) 0 (omega arith),
      drop-cons queue (suc (suc head)) 0 (omega arith),
      drop-cons queue (suc (suc (suc head))) 0 (omega arith),
    )
