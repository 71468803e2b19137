-- Merge (`merge_entries_aware_subgroups`), join by join.
use Rattle.std.specs.Prelude.{ℕ, zero, suc, not, ◌&&◌, cond, List, map, ltb, eqb, Float, length}
use Rattle.std.proofs.Math.Option.{Option, none, some}
use Rattle.std.specs.Float.Ieee.{lt}
use Rattle.lists.specs.Keep.{keep}
use Rattle.lists.specs.Least.{least}
use Rattle.whole.specs.Double.{to_f64}
use Rattle.joins.specs.Subgroup.{Subgroup, seeks, smaller, nearer, united}

-- the subgroups that are still there, and for each number on entry the number that it has now
pub record Merging : Type 0 where
  pub there : List Subgroup
  pub finals : List ℕ

-- a join: the first joins the second; or there is none to make
pub data Join : Type 0 where
  stop : Join
  joins : Subgroup → Subgroup → Join

-- the subgroups other than s
unfoldable pub others : Subgroup → List Subgroup → List Subgroup
unfolding keep
others s there = keep (λ u. not (eqb u.number s.number)) there

-- s joins the nearest other subgroup, if another exists
abbrev pub join_of : Subgroup → Option Subgroup → Join
join_of s none = stop
join_of s (some t) = joins s t

abbrev pub join_for : List Subgroup → Option Subgroup → Join
join_for there none = stop
join_for there (some s) = join_of s (least (nearer s) (others s there))

-- "while some subgroup has 0 < size < threshold and another exists, the smallest such … joins the other subgroup with the fewest …"
unfoldable pub next_join : Float → List Subgroup → Join
unfolding least keep seeks smaller nearer others
next_join threshold there = join_for there (least smaller (keep (seeks threshold) there))

-- s has joined t: s vanishes, t is united with it, and whatever had the number of s has that of t
unfoldable pub joined : Subgroup → Subgroup → Merging → Merging
unfolding others united
joined s t m =
    record {
      there = map (λ u. cond (eqb u.number t.number) (united s t) u) (others s m.there);
      finals = map (λ n. cond (eqb n s.number) t.number n) m.finals;
    }

-- one join after the other; the rest is computed only if there is a join
abbrev pub follow : Join → Merging → (Merging → Merging) → Merging
follow stop m rest = m
follow (joins s t) m rest = rest (joined s t m)

unfoldable pub merge_steps : ℕ → Float → Merging → Merging
unfolding next_join joined
merge_steps zero threshold m = m
merge_steps (suc most) threshold m = follow (next_join threshold m.there) m (merge_steps most threshold)

-- "If the threshold is above 0 and k above 1". A join leaves one subgroup less, so that there are fewer joins than subgroups.
unfoldable pub merged : Float → Merging → Merging
unfolding lt merge_steps
merged threshold m = cond (lt (to_f64 0) threshold && ltb 1 (length m.there)) (merge_steps (length m.there) threshold m) m
