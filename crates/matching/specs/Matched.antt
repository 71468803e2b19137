-- "Each eligible module that matches, passes the filter and has a name": those of one group, by name.
use Rattle.std.specs.Prelude.{◌≡◌, ℕ, ◌-◌, ◌^◌, ◌<◌, ◌≤◌, Bool, ◌&&◌, ◌≢◌, List, map, length, nat_le, slice_index, slice_index_or}
use Rattle.lists.specs.Keep.{keep}
use Rattle.lists.specs.Packed.{packed, key_of}
use Rattle.lists.specs.Range.{range}
use Rattle.filter.specs.Filter.{passes}
use Rattle.filter.specs.declared.StaticFilter.{StaticFilter}

-- what a group reads: its filter, its answer for each module, and the modules' tags, sizes and share counts
pub record Matching : Type 0 where
  pub filter : StaticFilter
  pub answers : List ℕ
  pub tags : List ℕ
  pub sizes : List ℕ
  pub shares : List ℕ

-- an answer of 2 or more matches with a name
unfoldable pub takes : StaticFilter → ℕ → ℕ → ℕ → ℕ → Bool
unfolding passes
takes filter answer tags size shares = nat_le 2 answer && passes filter tags size shares

-- module m takes part
unfoldable pub takes_module : Matching → ℕ → Bool
unfolding takes
takes_module g m = takes g.filter (slice_index g.answers m) (slice_index g.tags m) (slice_index g.sizes m) (slice_index g.shares m)

-- "2+k matched with name k": the name of module m
abbrev pub name_of : Matching → ℕ → ℕ
name_of g m = slice_index g.answers m - 2

-- the name and the place of the module at a place
unfoldable pub key_at : Matching → List ℕ → ℕ → ℕ
key_at g order i = packed (name_of g (slice_index order i)) i

-- the places whose modules take part
unfoldable pub taking_part : Matching → List ℕ → List ℕ
unfolding keep takes_module range
taking_part g order = keep (λ i. takes_module g (slice_index order i)) (range 0 (length order))

-- their names and places, in execution order
unfoldable pub keys_of : Matching → List ℕ → List ℕ
unfolding key_at taking_part
keys_of g order = map (key_at g order) (taking_part g order)

-- the module at a place can be asked for
pub record Readable (g : Matching) (m : ℕ) : Type 0 where
  pub answered : m < length g.answers
  pub tagged : m < length g.tags
  pub sized : m < length g.sizes
  pub shared : m < length g.shares
  pub whole : slice_index_or g.sizes m 0 ≤ 2 ^ 53
  pub name : slice_index_or g.answers m 0 < 65537

-- each module of the order can be asked for, and there is room for all of them
pub record Matchable (g : Matching) (order area : List ℕ) : Type 0 where
  pub few : length order ≤ 4096
  pub readable : (i : ℕ) → i < length order → Readable g (slice_index order i)
  pub room : length order ≤ length area

-- numbers of one key stand together
abbrev pub Together : List ℕ → Type 0
Together l =
    (i j k : ℕ) → i ≤ j → j ≤ k → k < length l → key_of (slice_index l k) ≡ key_of (slice_index l i) → key_of (slice_index l j) ≡ key_of (slice_index l i)

-- [from, end) is all of the numbers from `from` on that have the key of the first of them
pub record RunEnd (matched : List ℕ) (from end : ℕ) : Type 0 where
  pub some : from < end
  pub within : end ≤ length matched
  pub same : (i : ℕ) → from ≤ i → i < end → key_of (slice_index matched i) ≡ key_of (slice_index matched from)
  pub stop : end < length matched → key_of (slice_index matched end) ≢ key_of (slice_index matched from)
