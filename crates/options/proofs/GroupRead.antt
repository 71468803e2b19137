-- A group as a read of each table gives it: beyond a table a read gives NaN where the definition has 0, and within one the two are the same.
use Prim.Native.Nat.{ℕ, zero, suc, ◌<◌}
use mathlib.Core.List.{List, [], ◌∷◌}
use mathlib.Core.Path.{◌≡◌, refl}
use native.Mathlib.Nat.{not-suc-le-zero, le_of_suc-le-suc}
use lib.Ieee.{nan}
use lib.ListN.{length, get_or}
use Rattle.whole.specs.Double.{to_f64}
use Rattle.bitset.specs.Word.{bit}
use Rattle.options.specs.declared.Group.{Group}
use Rattle.options.specs.Tables.{GroupTables, HasGroup, options_by, group_at}

-- within a list the default does not matter
pub any_default : {A : Type 0} (l : List A) (i : ℕ) (d e : A) → i < length l → get_or l i d ≡ get_or l i e
any_default [] i d e h = absurd (not-suc-le-zero h)
any_default (x ∷ l) zero d e h = refl
any_default (x ∷ l) (suc i) d e h = any_default l i d e (le_of_suc-le-suc h)

-- the reads of group g
abbrev group_read : GroupTables → ℕ → Group
group_read t g =
    record {
      options =
          options_by (get_or t.given g 0) (get_or t.min_size g nan) (get_or t.max_size g nan) (get_or t.min_module_size g nan)
          (get_or t.max_module_size g nan) (get_or t.min_share_count g 0);
      tags = get_or t.tags g 0;
      priority = get_or t.priority g 0;
      entries_aware = bit (get_or t.given g 0) 7;
      threshold = get_or t.threshold g nan;
    }

pub group_read_lem : (t : GroupTables) (g : ℕ) → HasGroup t g → group_read t g ≡ group_at t g
unfolding group_at
group_read_lem t g h =
    rw (
      any_default t.min_size g nan (to_f64 0) h.min_size_in,
      any_default t.max_size g nan (to_f64 0) h.max_size_in,
      any_default t.min_module_size g nan (to_f64 0) h.min_module_size_in,
      any_default t.max_module_size g nan (to_f64 0) h.max_module_size_in,
      any_default t.threshold g nan (to_f64 0) h.threshold_in,
    )
