-- Capture (`add_module_and_dependencies_to_group_recursively`).
use Rattle.std.specs.Prelude.{ℕ, Bool, true, List, ◌≡◌}
use Rattle.walk.specs.Reached.{Reached}
use Rattle.walk.specs.Names.{Eligible, Names}

-- What a capture is handed: the counts N and D, whether it recurs, the start module, the flag bytes, each module's first record,
-- and the records' modules and nexts.
pub record Given : Type 0 where
  pub n : ℕ
  pub d : ℕ
  pub recursive : Bool
  pub from : ℕ
  pub flags : List ℕ
  pub first : List ℕ
  pub dependency : List ℕ
  pub next : List ℕ

-- "with recursion off, the start alone": then no dependency is followed
abbrev pub Follows : Given → ℕ → ℕ → Type 0
Follows g m k = (g.recursive ≡ true) × Names g.first g.dependency g.next g.d m k

-- "From a start module: the eligible modules reached through eligible modules only … nothing if the start isn't eligible."
abbrev pub Captured : Given → ℕ → Type 0
Captured g m = Reached (Eligible g.flags) (Follows g) (λ k. k ≡ g.from) m
