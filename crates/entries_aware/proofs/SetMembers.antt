-- A set of a build has what its division asks: a size, a rank and a row of bits for each module, and sizes that add exactly. Its part of scratch has room.
use Prim.Native.Nat.{ℕ, ◌+◌, ◌-◌, ◌≤◌}
use mathlib.Core.List.{List}
use mathlib.Core.Path.{sym, ap, subst}
use native.Mathlib.Omega.{arith}
use lib.ListN.{length, take, drop, length-take, length-drop}
use Rattle.settling.specs.Modules.{modules_at}
use Rattle.emitting.specs.Emitted.{Work}
use Rattle.items.specs.Turn.{Tables}
use Rattle.running.specs.Turns.{SetTurning}
use Rattle.running.proofs.ItemReady.{cuttable, has_bits}
use Rattle.subgroups.specs.Finding.{Members}
use Rattle.subgroups.specs.Merged.{Ranked}
use Rattle.entries_aware.proofs.SetRanks.{set_ranked}

pub set_members : {t : Tables} {bits : List ℕ} {number at : ℕ} {now : Work} {set : List ℕ} → SetTurning t bits number at now set → length set ≤ 4096
    → Members bits t.sizes set
set_members {t} {bits} {number} {at} {now} {set} s few =
    let b = s.turning.b in
    let fits = s.turning.fits in
    let sized = (cuttable b t bits fits s.places s.placed).sized in
    let few_modules : length (modules_at b s.places) ≤ 4096 = omega (arith, ap length s.are) in
    subst (λ (l : List ℕ). Members bits t.sizes l) (sym s.are)
    (record { count = few_modules; has_size = sized.has_size; has_bits = has_bits b t bits fits s.places s.placed; exact = sized.exact })

pub set_ranks : {t : Tables} {bits : List ℕ} {number at : ℕ} {now : Work} {set : List ℕ} → SetTurning t bits number at now set → Ranked t.rank set
set_ranks {t} {bits} s =
    let u = s.turning in
    subst (Ranked t.rank) (sym s.are) (set_ranked t bits u.b u.fits s.places s.placed)

-- the part of a list from `from` to `to`
pub part_room : (m from to : ℕ) (l : List ℕ) → from + m ≤ to → to ≤ length l → m ≤ length (take (to - from) (drop from l))
part_room m from to l h b = simp (length-take, length-drop) (omega arith)
