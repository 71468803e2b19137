-- `records::bad_chain` meets its contract. The outer loop's invariant: every chain passed has its zero within d records, and so has that of every
-- known record. The inner one: the chain from `start` has its zero within some records more just where the rest of it, from record r on, has.
use Prim.Native.Nat.{ℕ, ◌≤◌, ◌<◌}
use mathlib.Core.Bool.{true, false, not}
use mathlib.Core.List.{List}
use mathlib.Core.Path.{◌≡◌, refl, sym, ap, ◌∙◌, subst}
use native.Mathlib.Nat.{not-suc-le-zero}
use native.Mathlib.Omega.{arith}
use mir.Facts.{Fits-32_64}
use borrow.Author.Count.{below_more}
use lib.ListN.{length, get_or, set, take, length-set}
use lib.Seq.{get_or-take, length-take-le}
use Rattle.lists.proofs.Below.{any_none, any_some}
use Rattle.records.specs.Bad.{bad_chain, ChainTables}
use Rattle.records.specs.Chain.{ended}
use Rattle.records.specs.Marks.{Known}
use Rattle.records.proofs.ChainMarks.{record_marked, unmarked_some}
use Rattle.records.proofs.Known.{known_none, known_more, Along, along_start, along_next, along_known, along_none}
use Rattle.records.proofs.bad_chain.Goals as goal

-- the chain was left at a record that is known to end, so it ends
left-ends : (next : List ℕ) (d : ℕ) → ((r : ℕ) → 1 ≤ r → r ≤ d → get_or next r 0 ≤ d) → {known : List ℕ} (start left r : ℕ) → Known next d known
    → Along next d start left r → r ≤ d → start ≤ d → (get_or known r 0 ≡ 0 → ⊥) → ended next d start ≡ true
left-ends next d next_in start left r p along r-in start_in marked =
    along_known next d next_in start left r along start_in (p.ends r r-in (record_marked r p.marks marked))

-- the first record of a module that the loop comes to
here : (first : List ℕ) (n i : ℕ) → n ≤ length first → i < length (take n first) → get_or (take n first) i 0 ≡ get_or first i 0
here first n i h l = let few : i < n = omega (arith, length-take-le n first h) in get_or-take n first i 0 few

start_in_table : {first next : List ℕ} {n d : ℕ} → ChainTables first next n d → (i : ℕ) → i < length (take n first) → get_or (take n first) i 0 ≤ d
start_in_table {first} {n} p i l = rw (here first n i p.firsts l) (p.first_in i (omega (arith, length-take-le n first p.firsts)))

pub bounds-known-0 : goal.bounds-known-0
bounds-known-0 c = omega (arith, c.requires.1.room)

pub modules-init : goal.modules-init
modules-init c =
    let marked = known_none c.args.next.now c.args.d (length c.args.known.now) c.requires.1.room in (
      refl,
      λ k l. absurd (not-suc-le-zero l),
      subst (λ (l : List ℕ). Known c.args.next.now c.args.d (set l 0 1)) (sym c.requires.1.clear) marked,
      refl,
    )

pub loop-r-init : goal.loop-r-init
loop-r-init c =
    let o = c.modules in
    (o.invariant.0, start_in_table c.requires.0 o.from-index c.modules-test.true, omega arith, along_start c.args.next.now c.args.d _)

pub bounds-known-r : goal.bounds-known-r
bounds-known-r c = omega (arith, c.loop-r.invariant.1, c.modules.invariant.2.marks.room)

pub offset_bounds-next-r : goal.offset_bounds-next-r
offset_bounds-next-r c = omega (arith, c.loop-r.invariant.1, c.requires.0.few)

pub bounds-next-r : goal.bounds-next-r
bounds-next-r c = omega (arith, c.loop-r.invariant.1, c.requires.0.nexts)

pub overflow_cast-r : goal.overflow_cast-r
overflow_cast-r c = Fits-32_64 (c.type_inv.next _)

pub loop-r-preserved : goal.loop-r-preserved
loop-r-preserved c =
    let l = c.loop-r in
    let some = unmarked_some l.r c.modules.invariant.2.marks c.loop-r-test.true in (
      l.invariant.0,
      c.requires.0.next_in l.r (omega (arith, some)) l.invariant.1,
      omega (arith, l.invariant.2),
      along_next c.args.next.now c.args.d _ l.left l.r l.invariant.3 c.if-left-eq0.false l.invariant.2 some,
    )

pub know_chain-requires : goal.know_chain-requires
know_chain-requires c =
    let o = c.modules in
    let l = c.loop-r in
    let start_in = start_in_table c.requires.0 o.from-index c.modules-test.true in
    record {
      within = omega (arith, c.requires.0.nexts);
      next_in = c.requires.0.next_in;
      marks = o.invariant.2.marks;
      from_in = start_in;
      ends = left-ends c.args.next.now c.args.d c.requires.0.next_in _ l.left l.r o.invariant.2 l.invariant.3 l.invariant.1 start_in c.loop-r-test.false;
    }

pub modules-preserved : goal.modules-preserved
modules-preserved c =
    let o = c.modules in
    let l = c.loop-r in
    let start_in = start_in_table c.requires.0 o.from-index c.modules-test.true in
    let ends = left-ends c.args.next.now c.args.d c.requires.0.next_in _ l.left l.r o.invariant.2 l.invariant.3 l.invariant.1 start_in c.loop-r-test.false in (
      l.invariant.0,
      below_more (λ k. not (ended c.args.next.now c.args.d (get_or c.args.first.now k 0)) ≡ false) o.from-index o.invariant.1 (rw (sym (here c.args.first.now c.args.n o.from-index c.requires.0.firsts c.modules-test.true)) (ap not ends)),
      subst (Known c.args.next.now c.args.d) (sym c.know_chain.ensures)
          (known_more c.args.next.now c.args.d c.requires.0.next_in o.known o.invariant.2 _ start_in ends),
      c.know_chain.auto.known ∙ o.invariant.3,
    )

pub shape_of-known-after-modules : goal.shape_of-known-after-modules
shape_of-known-after-modules c = c.modules.invariant.3 ∙ simp length-set

pub returns-after-modules : goal.returns-after-modules
unfolding bad_chain
returns-after-modules c =
    let s = c.args in
    let o = c.modules in
    o.invariant.0 ∙ sym (any_none (λ k. not (ended s.next.now s.d (get_or s.first.now k 0))) s.n (λ k h. o.invariant.1 k (omega (arith, length-take-le s.n s.first.now c.requires.0.firsts))))

pub shape_of-known-then-left-eq0 : goal.shape_of-known-then-left-eq0
shape_of-known-then-left-eq0 c = c.modules.invariant.3 ∙ simp length-set

pub returns-then-left-eq0 : goal.returns-then-left-eq0
unfolding bad_chain
returns-then-left-eq0 c =
    let s = c.args in
    let o = c.modules in
    let l = c.loop-r in
    let some = unmarked_some l.r o.invariant.2.marks c.loop-r-test.true in
    let none = along_none s.next.now s.d _ l.left l.r l.invariant.3 c.if-left-eq0.true some in
    let below : o.from-index < s.n = omega (arith, length-take-le s.n s.first.now c.requires.0.firsts) in
    let e = here s.first.now s.n o.from-index c.requires.0.firsts c.modules-test.true in
    sym (any_some (λ k. not (ended s.next.now s.d (get_or s.first.now k 0))) s.n o.from-index below (rw (sym e) (ap not none)))
