-- The eligible ones of the normal included modules in execution order are the places of a build.
use mathlib.Core.Bool.{Bool, true, false, ◌&&◌, not}
use mathlib.Core.Path.{◌≡◌, refl, ap, ◌∙◌}
use Prim.Native.Nat.{ℕ}
use lib.ListN.{get_or}
use Rattle.lists.specs.Keep.{keep}
use Rattle.lists.specs.Range.{range}
use Rattle.lists.specs.Sort.{sort_by}
use Rattle.lists.proofs.KeepTests.{keep_keep, keep_same}
use Rattle.lists.proofs.Orders.{key_order}
use Rattle.lists.proofs.SortKeep.{sort_keep}
use Rattle.flags.specs.Flags.{listed, assigned, eligible, eligible_at}
use Rattle.grouping.specs.Given.{Given, is_listed, is_eligible}
use Rattle.grouping.specs.Tree.{runs_before, places_of}
use Rattle.places.specs.Ordered.{listed_of}

-- "A module is eligible when normal, included and not assigned."
listed_first : (flags : ℕ) → (listed flags && eligible flags) ≡ eligible flags
unfolding eligible
listed_first flags = go (listed flags)
  where
    go : (t : Bool) → (t && (t && not (assigned flags))) ≡ (t && not (assigned flags))
    go true = refl
    go false = refl

pub places_by_order : (b : Given) → keep (is_eligible b) (sort_by (runs_before b) (listed_of b)) ≡ places_of b
unfolding places_of listed_of eligible_at
places_by_order b =
    let all = range 0 b.shared.n in
    sort_keep (runs_before b) (is_eligible b) (key_order (λ m. get_or b.shared.orders m 0)) (keep (is_listed b) all)
    ∙ ap (sort_by (runs_before b))
    (keep_keep (is_eligible b) (is_listed b) all
    ∙ keep_same (λ m. is_listed b m && is_eligible b m) (is_eligible b) all (λ m i. listed_first (get_or b.variant.flags m 0)))
