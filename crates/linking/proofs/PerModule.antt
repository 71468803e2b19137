-- Areas with an entry for each module, those past them as they were.
use Prim.Native.Nat.{ℕ, ◌≤◌, ◌<◌}
use mathlib.Core.List.{List, ◌++◌, map}
use mathlib.Core.Path.{◌≡◌, sym, ap₂, ◌∙◌}
use native.Mathlib.Omega.{arith}
use lib.ListN.{length, get_or, take, drop, length-append, length-map, length-drop, take-append-drop, get_or-append}
use lib.Seq.{length-take-le, get_or-take, ext_get_or, drop_at}
use Rattle.lists.specs.Range.{range}
use Rattle.lists.proofs.Map.{get_or_map_range}
use Rattle.lists.proofs.Range.{length_range}
use Rattle.grouping.specs.Written.{per_module}

module _ (n : ℕ) (value : ℕ → ℕ) where
  count : length (map value (range 0 n)) ≡ n
  count = length-map (range 0 n) value ∙ length_range 0 n

  entry : (m : ℕ) → m < n → get_or (map value (range 0 n)) m 0 ≡ value m
  entry m h = get_or_map_range value n m 0 h

  pub module_read : (before : List ℕ) (m : ℕ) → m < n → get_or (per_module n value before) m 0 ≡ value m
  module_read before m h = get_or-append (map value (range 0 n)) (drop n before) 0 m (rw count h) ∙ entry m h

  pub module_rest : (before : List ℕ) → drop n (per_module n value before) ≡ drop n before
  module_rest before = drop_at (map value (range 0 n)) (drop n before) n count

  pub module_long : (before : List ℕ) → n ≤ length (per_module n value before)
  module_long before = rw (length-append (map value (range 0 n)) (drop n before), count) (omega arith)

  pub module_length : (before : List ℕ) → n ≤ length before → length (per_module n value before) ≡ length before
  module_length before h = simp (length-append, count, length-drop) (omega arith)

  -- read entry by entry
  pub per_module_lem : (before now : List ℕ) → n ≤ length now → ((m : ℕ) → m < n → get_or now m 0 ≡ value m) → drop n now ≡ drop n before
      → now ≡ per_module n value before
  per_module_lem before now h read rest =
      sym (take-append-drop n now) ∙ ap₂ ◌++◌ (ext_get_or 0 (take n now) (map value (range 0 n)) (short ∙ sym count) same) rest
    where
      short : length (take n now) ≡ n
      short = length-take-le n now h

      same : (m : ℕ) → m < length (take n now) → get_or (take n now) m 0 ≡ get_or (map value (range 0 n)) m 0
      same m k = let u : m < n = rw short at k in get_or-take n now m 0 u ∙ read m u ∙ sym (entry m u)
