-- The same value stored at each place of a list.
use Rattle.std.specs.Prelude.{ℕ, List, [], ◌∷◌, set}

unfoldable pub stored : ℕ → List ℕ → List ℕ → List ℕ
stored v [] area = area
stored v (r ∷ rs) area = stored v rs (set area r v)
