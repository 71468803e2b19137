-- The walk itself. All along it, what is marked is reached, the starts are marked, and so is every eligible module that a module taken off
-- the list names. With all taken off, just what is reached is marked: what is reached by one step more was named by one taken off.
use Prim.Native.Nat.{ℕ, ◌+◌, ◌-◌, ◌≤◌, ◌<◌}
use mathlib.Core.List.{List, foldl, flat_map, append-nil, Memᴰ}
use mathlib.Core.Logic.{inl, inr, ⊎_elim}
use mathlib.Core.Path.{◌≡◌, refl, sym, ap, ◌∙◌, subst, subst₂}
use native.Mathlib.Decide.{dec_lt}
use native.Mathlib.Nat.{not-suc-le-zero, lt_of_lt_of_le}
use native.Mathlib.Omega.{arith}
use lib.Dec.{eqb}
use lib.ListN.{length, get_or, take, drop, length-drop, get_or-eq_default}
use lib.Seq.{drop-cons, get_or-drop}
use Rattle.records.specs.Chain.{chain_of, dependencies}
use Rattle.records.proofs.Table.{Good, dependencies_in}
use Rattle.walk.specs.Reached.{start, further, Marks}
use Rattle.walk.specs.Names.{Eligible, Names}
use Rattle.walk.specs.Walk.{Walk, marked_count, WalkState, Walked, FromMarked, Walking, visited}
use Rattle.walk.specs.Visited.{Visited}
use Rattle.walk.specs.Chains.{named_from, named_by_part}
use Rattle.lists.proofs.Count.{count_le}
use Rattle.lists.proofs.FlatMap.{flat_map_mem, mem_flat_map}
use Rattle.lists.proofs.Position.{take_position, position_take}
use Rattle.walk.proofs.Reached.{reached_all, more_starts, marks_of}
use Rattle.walk.proofs.Visit.{visit_all}

-- no more modules are on the list than there are
pub list_within : (flags : List ℕ) (n : ℕ) (w : Walk) → WalkState flags n w → w.tail ≤ n
unfolding marked_count
list_within flags n w s = omega (arith, s.count, count_le (λ m. eqb (get_or w.marks m 0) 1) n)

-- so the list has room for them
pub list_room : (flags : List ℕ) (n : ℕ) (w : Walk) → WalkState flags n w → w.tail ≤ length w.queue
list_room flags n w s = omega (arith, s.room, list_within flags n w s)

module _ (flags first dependency next : List ℕ) (n d : ℕ) where
  -- a marked module is one of the n
  marked_in_lem : (w : Walk) → WalkState flags n w → (m : ℕ) → get_or w.marks m 0 ≡ 1 → m < n
  marked_in_lem w s m e = go (dec_lt m n)
    where
      go : Dec (m < n) → m < n
      go (yes l) = l
      go (no l) = let z = get_or-eq_default w.marks 0 {n = m} (omega (arith, s.mark_bytes)) in omega arith

  abbrev On : Walk → ℕ → Walk → Type 0
  On = Walking flags first dependency next n d

  -- it goes on with some taken off
  pub walk_resumes : (w : Walk) → WalkState flags n w → (head : ℕ) → head ≤ w.tail
      → ((i : ℕ) → i < head → (k : ℕ) → Names first dependency next d (get_or w.queue i 0) k → Eligible flags k → get_or w.marks k 0 ≡ 1) → On w head w
  walk_resumes w s head h closed =
      record {
        state = s;
        head_in = h;
        started = λ m e. e;
        sound = λ m e. start e (s.eligible_ones m (marked_in_lem w s m e) e);
        closed = closed;
        queue_length = refl;
      }

  -- it starts with nothing taken off
  pub walk_begins : (w : Walk) → WalkState flags n w → On w 0 w
  walk_begins w s = walk_resumes w s 0 (omega arith) (λ i l. absurd (not-suc-le-zero l))

  -- `count` modules more are taken off, and what they name is visited
  module _ (w₀ : Walk) (head : ℕ) (w : Walk) (p : On w₀ head w) (count : ℕ) (h : head + count ≤ w.tail) {w' : Walk}
      (v : Visited flags n (named_by_part first dependency next d w.queue head count) w w') where
    abbrev part : List ℕ
    part = take count (drop head w.queue)

    still_closed : (i : ℕ) → i < head + count → (k : ℕ) → Names first dependency next d (get_or w'.queue i 0) k → Eligible flags k → get_or w'.marks k 0 ≡ 1
    still_closed i l k names el = go (dec_lt i head) (subst (λ (x : ℕ). Names first dependency next d x k) (v.places_stay i (omega arith)) names)
      where
        in_part : head ≤ i → Memᴰ (get_or w.queue i 0) part
        in_part b =
            let q : head + (i - head) ≡ i = omega arith in
            let inside : i - head < length (drop head w.queue) = simp length-drop (omega (arith, list_room flags n w p.state)) in
            subst (λ (x : ℕ). Memᴰ x part) (get_or-drop head w.queue (i - head) 0 ∙ ap (λ (j : ℕ). get_or w.queue j 0) q)
            (position_take count (drop head w.queue) (i - head) 0 (omega arith) inside)

        go : Dec (i < head) → Names first dependency next d (get_or w.queue i 0) k → get_or w'.marks k 0 ≡ 1
        go (yes b) named = v.marks_stay k (p.closed i b k named el)
        go (no b) named = v.all k (mem_flat_map (dependencies first dependency next d) (get_or w.queue i 0) k (in_part (omega arith)) named) el

    -- what the modules taken off name is reached
    still_sound : (m : ℕ) → Memᴰ m (named_by_part first dependency next d w.queue head count) → Eligible flags m
        → FromMarked flags first dependency next d w₀.marks m
    still_sound m i el =
        let o = flat_map_mem (dependencies first dependency next d) part m i in
        let s = take_position count (drop head w.queue) 0 o.1 in
        let q : get_or w.queue (head + s.0) 0 ≡ o.0 = sym (get_or-drop head w.queue s.0 0) ∙ s.3 in
        let marked = (p.state.queued (head + s.0) (omega (arith, s.1))).1 in
        further (p.sound o.0 (subst (λ (x : ℕ). get_or w.marks x 0 ≡ 1) q marked)) o.2 el

    pub walk_takes : On w₀ (head + count) w'
    walk_takes =
        record {
          state = v.state;
          head_in = omega (arith, v.longer);
          started = λ m e. v.marks_stay m (p.started m e);
          sound = λ m e. ⊎_elim (λ o. p.sound m o) (λ t. still_sound m t.0 t.1) (v.only m e);
          closed = still_closed;
          queue_length = v.queue_length ∙ p.queue_length;
        }

  -- one module more is taken off, and its chain followed
  module _ (g : Good first dependency next n d) (w₀ : Walk) (head : ℕ) (w : Walk) (p : On w₀ head w) (h : head < w.tail) where
    -- a module on the list is one of the n
    pub taken_in : get_or w.queue head 0 < n
    taken_in = (p.state.queued head h).0

    one_named : dependencies first dependency next d (get_or w.queue head 0) ≡ named_by_part first dependency next d w.queue head 1
    unfolding flat_map
    one_named =
        let inside : head < length w.queue = omega (arith, list_room flags n w p.state) in
        rw (drop-cons w.queue head 0 inside, append-nil)

    pub walk_turns : {w' : Walk} → foldl (visited flags) w (dependencies first dependency next d (get_or w.queue head 0)) ≡ w' → On w₀ (head + 1) w'
    walk_turns {w'} e =
        let visits = visit_all flags n _ w p.state (dependencies_in first dependency next n d g (get_or w.queue head 0) taken_in) in
        walk_takes w₀ head w p 1 (omega arith) (subst₂ (λ (ks : List ℕ). Visited flags n ks w) one_named e visits)

    -- the same from its first record on
    pub walk_turns_from : {r : ℕ} {w' : Walk} → r ≡ get_or first (get_or w.queue head 0) 0
        → foldl (visited flags) w (named_from dependency next d r) ≡ w' → On w₀ (head + 1) w'
    unfolding dependencies chain_of
    walk_turns_from q e = walk_turns (ap (λ (r : ℕ). foldl (visited flags) w (named_from dependency next d r)) (sym q) ∙ e)

  -- all are taken off
  module _ (w₀ : Walk) (head : ℕ) (w : Walk) (p : On w₀ head w) (h : w.tail ≤ head) where
    complete : {m : ℕ} → FromMarked flags first dependency next d w₀.marks m → get_or w.marks m 0 ≡ 1
    complete r = reached_all (λ m. get_or w.marks m 0 ≡ 1) p.started step r
      where
        step : (m k : ℕ) → get_or w.marks m 0 ≡ 1 → Names first dependency next d m k → Eligible flags k → get_or w.marks k 0 ≡ 1
        step m k e names el =
            let o = p.state.listed m (marked_in_lem w p.state m e) e in
            p.closed o.0 (lt_of_lt_of_le o.1 h) k (subst (λ (x : ℕ). Names first dependency next d x k) (sym o.2) names) el

    all_marked : Marks (FromMarked flags first dependency next d w₀.marks) n w.marks
    all_marked = record { each = λ m l. ⊎_elim (λ e. inl (e, p.sound m e)) (λ e. inr (e, λ r. let z = complete r in omega arith)) (p.state.byte m l) }

    pub walk_ends : length w₀.marks ≡ n → Walked flags first dependency next n d w₀.marks w
    walk_ends same = record { marked = all_marked; state = p.state; same_length = p.state.mark_bytes ∙ sym same }

-- a walk that went on from where a walk on its way had come to ends as one walk
pub walk_joins : (flags first dependency next : List ℕ) (n d : ℕ) (w₀ : Walk) (head : ℕ) (w after : Walk) → Walking flags first dependency next n d w₀ head w
    → length w₀.marks ≡ n → Walked flags first dependency next n d w.marks after → Walked flags first dependency next n d w₀.marks after
walk_joins flags first dependency next n d w₀ head w after p same q =
    record {
      marked = marks_of (λ m. (
        λ r. reached_all (FromMarked flags first dependency next d w₀.marks) p.sound (λ m k r names el. further r names el) r,
        λ r. more_starts p.started r,
      )) q.marked;
      state = q.state;
      same_length = q.same_length ∙ p.state.mark_bytes ∙ sym same;
    }
