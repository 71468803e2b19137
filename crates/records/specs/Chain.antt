-- "Dependencies: records (module, next), numbered from 1 … Each module has a first record. Zero ends the chain."
use Rattle.std.specs.Prelude.{ℕ, zero, suc, Bool, true, false, ◌||◌, List, [], ◌∷◌, map, eqb, get_or}

-- one record more, unless the number is zero; by cases, so that the rest is computed only if there is one
unfoldable pub link : Bool → ℕ → List ℕ → List ℕ
link true r rest = []
link false r rest = r ∷ rest

-- the numbers of the records along a chain that starts at record r, at most `fuel` of them
unfoldable pub chain_from : List ℕ → ℕ → ℕ → List ℕ
unfolding link
chain_from next zero r = []
chain_from next (suc fuel) r = link (eqb r 0) r (chain_from next fuel (get_or next r 0))

-- the chain of a module: record numbers, within d records
unfoldable pub chain_of : List ℕ → List ℕ → ℕ → ℕ → List ℕ
unfolding chain_from
chain_of first next d m = chain_from next d (get_or first m 0)

-- the modules that are named along a module's chain
unfoldable pub dependencies : List ℕ → List ℕ → List ℕ → ℕ → ℕ → List ℕ
unfolding chain_of
dependencies first dependency next d m = map (λ r. get_or dependency r 0) (chain_of first next d m)

-- a chain that starts at record r has its zero within `fuel` records
unfoldable pub ended : List ℕ → ℕ → ℕ → Bool
ended next zero r = eqb r 0
ended next (suc fuel) r = eqb r 0 || ended next fuel (get_or next r 0)
