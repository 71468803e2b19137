-- `walk::four::follow_two` meets its contract: what is left to do after the first chain is what is named along the second.
use Prim.Native.Nat.{◌-◌}
use mathlib.Core.List.Memᴰ
use mathlib.Core.List.{[], ◌∷◌}
use mathlib.Core.Path.{refl}
use native.Mathlib.Omega.{arith}
use lib.ListN.{length}
use Rattle.walk.proofs.SideBySide.{SideBySide, side_begins, side_few, side_one, side_ends}
use Rattle.walk.proofs.four.follow_two.Goals as goal

pub follow_plain-p-requires : goal.follow_plain-p-requires
follow_plain-p-requires c =
    let p = c.requires in
    record { tables = p.tables; state = p.state; few = omega (arith, p.few); chain = p.chains _ (Memᴰ.head refl) }

pub follow_plain-requires : goal.follow_plain-requires
follow_plain-requires c =
    let begins : SideBySide c.args.flags.now c.args.dependency.now c.args.next.now (length c.args.flags.now) (length c.args.next.now - 1)
    (record { marks = c.args.marks.now; queue = c.args.queue.now; tail = c.args.tail }) c.args.gone (c.args.a ∷ c.args.b ∷ [])
    (record { marks = c.args.marks.now; queue = c.args.queue.now; tail = c.args.tail }) c.args.gone (c.args.a ∷ c.args.b ∷ []) =
    side_begins c.requires.tables _ _ _ c.requires.state c.requires.chains in
    let e = c.follow_plain-p.ensures in
    let p = side_one c.requires.tables begins e.from_value e.gone_value in
    record {
      tables = c.requires.tables;
      state = p.state;
      few = omega (arith, side_few c.requires.tables p, c.requires.few);
      chain = p.chains _ (Memᴰ.head refl);
    }

pub returns : goal.returns
returns c =
    let begins : SideBySide c.args.flags.now c.args.dependency.now c.args.next.now (length c.args.flags.now) (length c.args.next.now - 1)
    (record { marks = c.args.marks.now; queue = c.args.queue.now; tail = c.args.tail }) c.args.gone (c.args.a ∷ c.args.b ∷ [])
    (record { marks = c.args.marks.now; queue = c.args.queue.now; tail = c.args.tail }) c.args.gone (c.args.a ∷ c.args.b ∷ []) =
    side_begins c.requires.tables _ _ _ c.requires.state c.requires.chains in
    let e = c.follow_plain-p.ensures in
    let q = c.follow_plain.ensures in
    let z = side_ends c.requires.tables (side_one c.requires.tables (side_one c.requires.tables begins e.from_value e.gone_value) q.from_value q.gone_value) in
    record { visited = z.0; gone_value = z.1 }
