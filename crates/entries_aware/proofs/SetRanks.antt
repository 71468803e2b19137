-- The modules of a set of a build have ranks of their own, which follow their ids.
use Prim.Native.Nat.{ℕ, ◌<◌}
use mathlib.Core.Bool.{false}
use mathlib.Core.List.Memᴰ
use mathlib.Core.List.{List, Memᴰ}
use mathlib.Core.Path.{◌≡◌, sym, ap, ap₂, ◌∙◌}
use native.Mathlib.Omega.{arith}
use borrow.Author.Tests.{le-ltb}
use lib.Dec.{ltb}
use lib.ListN.{length, get_or}
use Rattle.lists.proofs.Position.{get_or_mem}
use Rattle.ids.specs.Order.{before}
use Rattle.ids.specs.Parts.{id_at}
use Rattle.ids.proofs.ByteOrder.{equal_of_neither}
use Rattle.grouping.specs.Given.{Given}
use Rattle.grouping.specs.Tree.{places_of}
use Rattle.grouping_laws.proofs.OneId.{one_id}
use Rattle.grouping_laws.proofs.SetPlaces.{Placed}
use Rattle.settling.specs.Modules.{module_at, modules_at}
use Rattle.items.specs.Turn.{Tables}
use Rattle.running.specs.Fits.{ItemFits}
use Rattle.running.proofs.ModulesAt.{id_at_lem, module_below, module_listed, modules_below}
use Rattle.subgroups.specs.Merged.{Ranked}
use Rattle.subgroups.proofs.TurnOrder.{OwnRanks}
use Rattle.subgroups.proofs.ItemsInTurn.{RanksById}

module _ (t : Tables) (bits : List ℕ) (b : Given) (fits : ItemFits b t bits) (places : List ℕ) (placed : Placed (length (places_of b)) places) where
  abbrev id : ℕ → List ℕ
  id = id_at b.shared.bytes b.shared.offsets

  abbrev rank : ℕ → ℕ
  rank m = get_or t.rank m 0

  by_id : (p q : ℕ) → Memᴰ p places → Memᴰ q places → ltb (rank (module_at b p)) (rank (module_at b q)) ≡ before (id (module_at b p)) (id (module_at b q))
  by_id p q m n =
      let u = placed.below p m in
      let v = placed.below q n in
      fits.ranks.by_id (module_at b p) (module_at b q) (module_below b p u) (module_below b q v) (module_listed b p u) (module_listed b q v)

  pub ranks_by_id : RanksById b t.rank places
  ranks_by_id p q m n = by_id p q m n ∙ sym (ap₂ before (id_at_lem b p (placed.below p m)) (id_at_lem b q (placed.below q n)))

  has_rank : (m : ℕ) → Memᴰ m (modules_at b places) → m < length t.rank
  has_rank m i = omega (arith, fits.ranks.for_all, modules_below b places placed.below m i)

  pub set_ranked : Ranked t.rank (modules_at b places)
  set_ranked i h = has_rank (get_or (modules_at b places) i 0) (get_or_mem (modules_at b places) i 0 h)

  pub own_ranks : OwnRanks t.rank (modules_at b places)
  own_ranks = record { small = λ m i. fits.ranks.small m (has_rank m i); apart = apart }
    where
      apart : (l m : ℕ) → Memᴰ l (modules_at b places) → Memᴰ m (modules_at b places) → rank l ≡ rank m → l ≡ m
      apart l m i j e =
          let o = Memᴰ.of_map (module_at b) places i in
          let q = Memᴰ.of_map (module_at b) places j in
          let u = placed.below o.0 o.1 in
          let v = placed.below q.0 q.1 in
          let same : rank (module_at b o.0) ≡ rank (module_at b q.0) = ap rank o.2 ∙ e ∙ sym (ap rank q.2) in
          let one : before (id (module_at b o.0)) (id (module_at b q.0)) ≡ false =
          sym (by_id o.0 q.0 o.1 q.1) ∙ le-ltb (rank (module_at b o.0)) (rank (module_at b q.0)) (omega (arith, same)) in
          let two : before (id (module_at b q.0)) (id (module_at b o.0)) ≡ false =
          sym (by_id q.0 o.0 q.1 o.1) ∙ le-ltb (rank (module_at b q.0)) (rank (module_at b o.0)) (omega (arith, same)) in
          sym o.2
          ∙ one_id b fits.passed.ids_apart (module_at b o.0) (module_at b q.0) (module_below b o.0 u) (module_below b q.0 v) (module_listed b o.0 u)
          (module_listed b q.0 v) (equal_of_neither (id (module_at b o.0)) (id (module_at b q.0)) one two)
          ∙ q.2
