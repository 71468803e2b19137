-- The keys that occur among the elements of a list, ascending, each once.
use Rattle.std.specs.Prelude.{ℕ, List, map}
use Rattle.lists.specs.Elem.{elem}
use Rattle.lists.specs.Keep.{keep}
use Rattle.lists.specs.Range.{range}

-- those below the bound
unfoldable pub keys_in : {A : Type 0} → (A → ℕ) → ℕ → List A → List ℕ
unfolding elem keep range
keys_in key bound l = keep (λ k. elem k (map key l)) (range 0 bound)
