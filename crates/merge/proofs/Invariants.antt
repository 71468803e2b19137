-- What holds of the subgroups and the numbers of a merge, and is kept by each join, is kept by the merge.
use Prim.Native.Nat.{ℕ, zero, suc}
use mathlib.Core.Bool.{◌&&◌}
use mathlib.Core.List.{List, Memᴰ}
use mathlib.Core.Option.{Option, none, some}
use lib.Dec.{ltb}
use lib.Ieee.{Float, lt}
use lib.ListN.{length}
use Rattle.lists.specs.Keep.{keep}
use Rattle.lists.specs.Least.{least}
use Rattle.lists.proofs.Least.{OfOption, cond_holds, least_holds}
use Rattle.lists.proofs.Members.{keep_mem}
use Rattle.whole.specs.Double.{to_f64}
use Rattle.joins.specs.Subgroup.{Subgroup, seeks, smaller, nearer}
use Rattle.merge.specs.Merge.{Merging, Join, stop, joins, others, join_of, join_for, next_join, joined, follow, merge_steps, merged}

-- what joins is there, and joins another that is there
abbrev OfJoin : List Subgroup → Join → Type 0
OfJoin there stop = Unit {0}
OfJoin there (joins s t) = Memᴰ s there × Memᴰ t (others s there)

next_of : (threshold : Float) (there : List Subgroup) → OfJoin there (next_join threshold there)
unfolding next_join
next_of threshold there =
    go (least smaller (keep (seeks threshold) there))
    (least_holds (λ s. Memᴰ s there) smaller (keep (seeks threshold) there) (λ s m. (keep_mem (seeks threshold) there s m).0))
  where
    target : (s : Subgroup) → Memᴰ s there → (o : Option Subgroup) → OfOption (λ t. Memᴰ t (others s there)) o → OfJoin there (join_of s o)
    target s i none h = tt
    target s i (some t) h = (i, h)

    go : (o : Option Subgroup) → OfOption (λ s. Memᴰ s there) o → OfJoin there (join_for there o)
    go none h = tt
    go (some s) h = target s h (least (nearer s) (others s there)) (least_holds (λ t. Memᴰ t (others s there)) (nearer s) (others s there) (λ t m. m))

module _ (I : Merging → Type 0)
    (keeps : (s t : Subgroup) (m : Merging) → Memᴰ s m.there → Memᴰ t (others s m.there) → I m → I (joined s t m)) where
  steps_keep : (most : ℕ) (threshold : Float) (m : Merging) → I m → I (merge_steps most threshold m)
  unfolding merge_steps
  steps_keep zero threshold m h = h
  steps_keep (suc most) threshold m h = go (next_join threshold m.there) (next_of threshold m.there) (steps_keep most threshold)
    where
      go : (j : Join) → OfJoin m.there j → ((m : Merging) → I m → I (merge_steps most threshold m)) → I (follow j m (merge_steps most threshold))
      go stop o rest = h
      go (joins s t) o rest = rest (joined s t m) (keeps s t m o.0 o.1 h)

  pub merged_keeps : (threshold : Float) (m : Merging) → I m → I (merged threshold m)
  unfolding merged
  merged_keeps threshold m h =
      cond_holds I (lt (to_f64 0) threshold && ltb 1 (length m.there)) (merge_steps (length m.there) threshold m) m
      (steps_keep (length m.there) threshold m h) h
