-- `walk::four::take_four` meets its contract: the four modules are on the list, so they have first records, whose chains can be gone along.
use Prim.Native.Nat.{ℕ, ◌+◌, ◌≤◌, ◌<◌}
use mathlib.Core.List.Memᴰ
use mathlib.Core.List.{List}
use mathlib.Core.Path.{◌≡◌, sym, ap, ◌∙◌, subst}
use native.Mathlib.Omega.{arith}
use lib.ListN.{length, get_or}
use Rattle.records.proofs.Table.{Good, good}
use Rattle.walk.specs.Walk.{Walk}
use Rattle.walk.specs.Chains.{Chain, FirstReady, TakeFourReady}
use Rattle.walk.proofs.Passing.{link_tables, chain_begins}
use Rattle.walk.proofs.Walking.{list_room}
use Rattle.walk.proofs.SideBySide.{each_of, four_named, named_as}
use Rattle.walk.proofs.four.take_four.Goals as goal

module _ {flags first dependency next : List ℕ} {n d : ℕ} {w : Walk} {gone head : ℕ} (p : TakeFourReady flags first dependency next n d w gone head) where
  -- the records are those that refusal 7 does not turn away
  tables_good : Good first dependency next n d
  tables_good = good _ _ _ _ _ p.tables.good

  -- the four are on the list, and modules
  room : head + 4 ≤ length w.queue
  room = omega (arith, p.four, list_room flags n w p.state)

  taken : (i : ℕ) → i < head + 4 → get_or w.queue i 0 < n
  taken i h = (p.state.queued i (omega (arith, p.four))).0

  first_ready : (i : ℕ) → i < head + 4 → FirstReady first w.queue i
  first_ready i h = record { place_in = omega (arith, room); module_in = omega (arith, taken i h, p.tables.records.firsts) }

  first_chain : (i : ℕ) → i < head + 4 → {r : ℕ} → r ≡ get_or first (get_or w.queue i 0) 0 → Chain next d r
  first_chain i h e = subst (Chain next d) (sym e) (chain_begins p.tables tables_good _ (taken i h))

pub first_at-a-requires : goal.first_at-a-requires
first_at-a-requires c = first_ready c.requires _ (omega arith)

pub first_at-b-requires : goal.first_at-b-requires
first_at-b-requires c = first_ready c.requires _ (omega arith)

pub first_at-c-requires : goal.first_at-c-requires
first_at-c-requires c = first_ready c.requires _ (omega arith)

pub first_at-d-requires : goal.first_at-d-requires
first_at-d-requires c = first_ready c.requires _ (omega arith)

pub follow_four-requires : goal.follow_four-requires
follow_four-requires c =
    let p = c.requires in
    record {
      tables = link_tables p.tables (tables_good p);
      state = p.state;
      few = p.few;
      chains = each_of (first_chain p _ (omega arith) c.first_at-a.ensures)
          (each_of (first_chain p _ (omega arith) c.first_at-b.ensures)
          (each_of (first_chain p _ (omega arith) c.first_at-c.ensures)
          (each_of (first_chain p _ (omega arith) c.first_at-d.ensures) (λ r m. absurd (Memᴰ.not-nil m)))));
    }

pub returns : goal.returns
returns c =
    let a = c.args in
    let e = c.follow_four.ensures in
    let q = four_named a.records.now.first.now a.records.now.dependency.now a.records.now.next.now _ a.queue.now a.head (room c.requires)
    c.first_at-a.ensures c.first_at-b.ensures c.first_at-c.ensures c.first_at-d.ensures in
    record { visited = named_as q e.visited; gone_value = e.gone_value ∙ ap (λ (ks : List ℕ). a.gone + length ks) q }
