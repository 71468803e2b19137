-- `items::convert::emit_item` meets its contract: by its maximum an item is emitted whole or in pieces.
use Prim.Native.Nat.{ℕ}
use mathlib.Core.Bool.{Bool}
use mathlib.Core.List.{List}
use mathlib.Core.Path.{◌≡◌, sym, ap, ◌∙◌}
use lib.Ieee.{Float}
use Rattle.std.specs.Prelude.{Some}
use Rattle.emitting.specs.declared.emit.Head.{Head}
use Rattle.items.specs.declared.convert.Limits.{Limits}
use Rattle.items.specs.Turn.{Tables, in_pieces, emitted_over, emitted_within}
use Rattle.items.proofs.Within.{whole_room, whole_number, whole_converted, emitted_by_lem, anew_head, same_head, same_converted}
use Rattle.items.proofs.convert.emit_item.Goals as goal

pub emit_chunk-requires : goal.emit_chunk-requires
emit_chunk-requires c =
    let p = c.requires in
    record { room = whole_room p.item_ready p.totalled.some; number_bound = whole_number p.item_ready p.totalled.some }

pub emit_over_maximum-requires : goal.emit_over_maximum-requires
emit_over_maximum-requires c = c.requires

pub emit_over_maximum-requires-2 : goal.emit_over_maximum-requires-2
emit_over_maximum-requires-2 c = c.requires

pub returns-in_default-clause-emitted : goal.returns-in_default-clause-emitted
returns-in_default-clause-emitted c =
    let a = c.args in
    let t : Tables = record { bytes = a.ids.now.bytes.now; offsets = a.ids.now.offsets.now; sizes = a.sizes.now; rank = a.rank.now } in
    whole_converted t a.members.now c.requires.totalled.whole
    (emitted_by_lem t a.members.now c.requires.totalled.whole a.limits.maximum a.head a.limits.minimum (sym c.over_limit.ensures ∙ c.in_default.is))
    c.emit_chunk.ensures.emitted

-- the pieces of an item above its maximum, under its head made anew
made_anew : (t : Tables) (limits : Limits) (head : Head) (members : List ℕ) (maximum : Float) {aware : Bool}
    → emitted_within limits.maximum t head limits.minimum members ≡ emitted_over (Some maximum) t head limits.minimum members → head.entries_aware ≡ aware
    → emitted_within limits.maximum t head limits.minimum members ≡ in_pieces t (anew_head head aware) limits.minimum maximum members
made_anew t limits head members maximum e h = e ∙ sym (ap (λ (x : Head). in_pieces t x limits.minimum maximum members) (same_head head h))

pub returns-then-head-clause-emitted : goal.returns-then-head-clause-emitted
returns-then-head-clause-emitted c =
    let a = c.args in
    let t : Tables = record { bytes = a.ids.now.bytes.now; offsets = a.ids.now.offsets.now; sizes = a.sizes.now; rank = a.rank.now } in
    same_converted
    (made_anew t a.limits a.head a.members.now c.in-Some.maximum
    (emitted_by_lem t a.members.now c.requires.totalled.whole a.limits.maximum a.head a.limits.minimum (sym c.over_limit.ensures ∙ c.in-Some.is))
    c.if-head.true)
    c.emit_over_maximum.ensures.emitted

pub returns-clause-emitted : goal.returns-clause-emitted
returns-clause-emitted c =
    let a = c.args in
    let t : Tables = record { bytes = a.ids.now.bytes.now; offsets = a.ids.now.offsets.now; sizes = a.sizes.now; rank = a.rank.now } in
    same_converted
    (made_anew t a.limits a.head a.members.now c.in-Some.maximum
    (emitted_by_lem t a.members.now c.requires.totalled.whole a.limits.maximum a.head a.limits.minimum (sym c.over_limit.ensures ∙ c.in-Some.is))
    c.if-head.false)
    c.emit_over_maximum-2.ensures.emitted
