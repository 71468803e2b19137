-- Closed sets: once a set that was found along dependencies is in chunks whole, so is all that its modules reach. Later walks pass over it, and what
-- they find without it is all that is left, since an item is read without the modules that have a chunk.
use Rattle.std.specs.Prelude.{ℕ, ◌-◌, Bool, not, cond, ◌&&◌, List, ◌≡◌, eqb, length, get_or}
use Rattle.lists.specs.Below.{any_below}
use Rattle.lists.specs.Stored.{stored}
use Rattle.walk.specs.Names.{Eligible, Names}
use Rattle.options.specs.declared.Settings.{Settings}

-- sets of the group can be closed: they hold all that their modules reach, and each is one item
unfoldable pub closes : Settings → Bool
closes r = not r.entries_aware && r.recursive

-- the module at a position of the set has no chunk
abbrev pub left_at : List ℕ → List ℕ → ℕ → Bool
left_at chunk_of set i = eqb (get_or chunk_of (get_or set i 0) 0) 0

-- some module of the set has none
unfoldable pub some_left : List ℕ → List ℕ → Bool
unfolding any_below
some_left chunk_of set = any_below (left_at chunk_of set) (length set)

-- the flag bytes that the walks of a group go by: a group whose sets can be closed passes over the closed ones
unfoldable pub live_by : Bool → List ℕ → List ℕ → List ℕ
live_by closing flags closed = cond closing closed flags

-- the flag bytes after a set: if it is in chunks whole, its modules count as assigned
unfoldable pub closed_after : Bool → List ℕ → List ℕ → List ℕ → List ℕ
unfolding stored some_left
closed_after closing chunk_of set live = cond (closing && not (some_left chunk_of set)) (stored 7 set live) live

-- Flag bytes that pass over some modules: every eligible module that `live` passes over has a chunk, and whatever it names, if eligible, is
-- passed over too.
pub record Closed (flags first dependency next live chunk_of : List ℕ) : Type 0 where
  pub bytes : length live ≡ length flags
  pub eligible_still : (m : ℕ) → Eligible live m → Eligible flags m
  pub taken : (m : ℕ) → Eligible flags m → (Eligible live m → ⊥) → get_or chunk_of m 0 ≡ 0 → ⊥
  pub named_too : (m k : ℕ) → Eligible flags m → (Eligible live m → ⊥) → Names first dependency next (length next - 1) m k → Eligible flags k
      → Eligible live k → ⊥
