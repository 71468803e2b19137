-- What a walk over the tables goes by: who is eligible, and what a module names.
use Rattle.std.specs.Prelude.{ℕ, true, ◌≡◌}
use mathlib.Core.List.{List, Memᴰ}
use Rattle.flags.specs.Flags.{eligible_at}
use Rattle.records.specs.Chain.{dependencies}

-- module m is eligible
abbrev pub Eligible : List ℕ → ℕ → Type 0
Eligible flags m = eligible_at flags m ≡ true

-- module m names module k along its chain
abbrev pub Names : List ℕ → List ℕ → List ℕ → ℕ → ℕ → ℕ → Type 0
Names first dependency next d m k = Memᴰ k (dependencies first dependency next d m)
