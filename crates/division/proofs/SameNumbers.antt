-- A division goes by the numbers of its positions alone, wherever they were read.
use Prim.Native.Nat.{ℕ, ◌<◌}
use mathlib.Core.List.{List, map, Memᴰ}
use mathlib.Core.Path.{◌≡◌, ap, ap₂, ◌∙◌}
use native.Mathlib.Omega.{arith}
use lib.Dec.{ltb, eqb}
use lib.ListN.{length, get_or}
use Rattle.lists.specs.Packed.{packed}
use Rattle.lists.specs.Range.{range}
use Rattle.lists.specs.Sort.{sort_by}
use Rattle.lists.proofs.KeepTests.{keep_same}
use Rattle.lists.proofs.Members.{range_mem, map_same}
use Rattle.lists.proofs.Sort.{lower, sort_mem}
use Rattle.lists.proofs.SortMap.{sort_same}
use Rattle.division.specs.Divided.{number_at, position_key, lowest_rank, modules_of, lowest_at, divided}

module _ (finals finals' kind_of set rank : List ℕ) (same : (i : ℕ) → i < length kind_of → number_at finals kind_of i ≡ number_at finals' kind_of i) where
  abbrev positions : List ℕ
  positions = range 0 (length kind_of)

  number_same : (i : ℕ) → Memᴰ i positions → number_at finals kind_of i ≡ number_at finals' kind_of i
  number_same i m = let w = range_mem 0 (length kind_of) i m in same i (omega arith)

  modules_same : (s : ℕ) → modules_of finals kind_of set (length kind_of) s ≡ modules_of finals' kind_of set (length kind_of) s
  unfolding modules_of
  modules_same s =
      ap (map (λ i. get_or set i 0))
      (keep_same (λ i. eqb (number_at finals kind_of i) s) (λ i. eqb (number_at finals' kind_of i) s) positions
      (λ i m. ap (λ n. eqb n s) (number_same i m)))

  lowest_same : (i : ℕ) → Memᴰ i positions → lowest_at finals kind_of set rank i ≡ lowest_at finals' kind_of set rank i
  unfolding lowest_at
  lowest_same i m =
      ap (λ n. lowest_rank rank (modules_of finals kind_of set (length kind_of) n)) (number_same i m)
      ∙ ap (lowest_rank rank) (modules_same (number_at finals' kind_of i))

  pub divided_same : divided finals kind_of set rank ≡ divided finals' kind_of set rank
  unfolding divided
  divided_same =
      let low = lowest_at finals kind_of set rank in
      let low' = lowest_at finals' kind_of set rank in
      map_same (position_key finals kind_of) (position_key finals' kind_of) (sort_by (lower low) positions)
      (λ i m. ap (λ n. packed n i) (number_same i (sort_mem (lower low) positions i m)))
      ∙ ap (map (position_key finals' kind_of)) (sort_same (lower low) (lower low') positions (λ i j m n. ap₂ ltb (lowest_same i m) (lowest_same j n)))
