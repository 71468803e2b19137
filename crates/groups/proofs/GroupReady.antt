-- What the tests leave for a group on its turn: its row of answers, and what it is matched by.
use Prim.Native.Nat.{ℕ, ◌+◌, ◌*◌, ◌≤◌, ◌<◌}
use mathlib.Core.List.{List}
use mathlib.Core.Path.{◌≡◌, ap₂}
use native.Mathlib.Nat.{mul-le-mul_right, suc-mul}
use native.Mathlib.Omega.{arith}
use lib.ListN.{length}
use lib.Dec.{ltb}
use Rattle.lists.specs.Sort.{sort_by}
use Rattle.filter.specs.declared.StaticFilter.{StaticFilter}
use Rattle.grouping.specs.Given.{Given}
use Rattle.grouping.specs.Tree.{places_of}
use Rattle.conditions.proofs.CountsLeft.{counts_passed}
use Rattle.conditions.proofs.TablesLeft.{tables_passed}
use Rattle.settling.specs.Modules.{Passed}
use Rattle.matching.specs.Matched.{Matching, keys_of}
use Rattle.sets.specs.OfBuild.{matching_of, matched_of}

-- what a group is matched by, part by part
pub same_matching : {f f' : StaticFilter} {a a' t t' s s' h h' : List ℕ} → f ≡ f' → a ≡ a' → t ≡ t' → s ≡ s' → h ≡ h'
    → ◌≡◌ {A = Matching} (record { filter = f; answers = a; tags = t; sizes = s; shares = h })
    (record { filter = f'; answers = a'; tags = t'; sizes = s'; shares = h' })
same_matching p q r u v = rw (p, q, r, u, v)

pub same_matched : (b : Given) (g : ℕ) {m : Matching} {order : List ℕ} → m ≡ matching_of b g → order ≡ places_of b → sort_by ltb (keys_of m order) ≡ matched_of b g
unfolding matched_of
same_matched b g p q = ap₂ (λ (m : Matching) (order : List ℕ). sort_by ltb (keys_of m order)) p q

module _ (b : Given) (passed : Passed b) where
  pub groups_few : b.variant.g ≤ 64
  groups_few = (counts_passed b passed.counts).groups

  pub module_count : b.shared.n ≤ 4096
  module_count = (counts_passed b passed.counts).modules

  pub flag_count : length b.variant.flags ≡ b.shared.n
  flag_count = (tables_passed b passed.tables).flag_bytes

  module _ (g : ℕ) (h : g < b.variant.g) where
    -- the row of the group is within the answers
    pub row_in : g * b.shared.n + b.shared.n ≤ length b.variant.answers
    row_in = omega (arith, (tables_passed b passed.tables).answers, mul-le-mul_right b.shared.n h, suc-mul g b.shared.n)
