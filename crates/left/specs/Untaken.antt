-- The modules of an item that no chunk has taken.
use Rattle.std.specs.Prelude.{ℕ, ◌≤◌, List, ◌≡◌, eqb, length, get_or, take}
use Rattle.lists.specs.Keep.{keep}
use Rattle.emitting.specs.Emitted.{HasEntry}

-- the modules of a list that no chunk has taken
unfoldable pub untaken : List ℕ → List ℕ → List ℕ
unfolding keep
untaken chunk_of list = keep (λ m. eqb (get_or chunk_of m 0) 0) list

-- each module of a list has an entry in the table of chunk numbers, and there is room for all of them
pub record Listed (chunk_of list members : List ℕ) : Type 0 where
  pub numbered : HasEntry chunk_of list
  pub space : length list ≤ length members

-- what is left of a list, in the first `count` entries of an area; what lies past them is free
pub record Kept (left : List ℕ) (count : ℕ) (before after : List ℕ) : Type 0 where
  pub number : count ≡ length left
  pub written : take count after ≡ left
  pub long : length after ≡ length before
