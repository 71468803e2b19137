-- The names and places that a group gathers: no more than there are places, and each fits in 32 bits.
use Rattle.std.proofs.Common.{◌≡◌, ℕ, ◌+◌, ◌-◌, ◌*◌, ◌^◌, ◌<◌, ◌≤◌, ltb, List, ◌++◌, length, get_or, take, sym, ap, ◌∙◌, subst, arith}
use mathlib.Core.List.Memᴰ
use mathlib.Core.List.{Memᴰ}
use lib.ListN.{length-map}
use Rattle.lists.specs.Keep.{keep}
use Rattle.lists.specs.Range.{range}
use Rattle.lists.specs.Sort.{sort_by}
use Rattle.lists.proofs.KeepLength.{keep_le}
use Rattle.lists.proofs.Members.{keep_mem, range_mem}
use Rattle.lists.proofs.Position.{get_or_mem}
use Rattle.lists.proofs.Range.{length_range}
use Rattle.lists.proofs.Rearranged.{sort_length}
use Rattle.lists.specs.Area.{Holds}
use Rattle.matching.specs.ByName.{Fits}
use Rattle.matching.specs.Matched.{Matching, Matchable, takes_module, key_at, taking_part, keys_of}
use Rattle.matching.proofs.Writing.{front}

module _ (g : Matching) (order : List ℕ) where
  pub taking_in : (i : ℕ) → Memᴰ i (taking_part g order) → i < length order
  unfolding taking_part
  taking_in i m =
      let r = range_mem 0 (length order) i (keep_mem (λ p. takes_module g (get_or order p 0)) (range 0 (length order)) i m).0 in
      omega arith

  pub keys_few : length (keys_of g order) ≤ length order
  unfolding keys_of taking_part
  keys_few =
      let k = keep_le (λ p. takes_module g (get_or order p 0)) (range 0 (length order)) in
      let e = length-map (keep (λ p. takes_module g (get_or order p 0)) (range 0 (length order))) (key_at g order) in
      omega (arith, length_range 0 (length order))

  -- the sorted numbers at the front of an area
  abbrev sorted : List ℕ
  sorted = sort_by ltb (keys_of g order)

  module _ {keys : List ℕ} (ready : Matchable g order keys) where
    key_narrow : (x : ℕ) → Memᴰ x (keys_of g order) → x < 2 ^ 32
    unfolding keys_of key_at
    key_narrow x m =
        let o = Memᴰ.of_map (key_at g order) (taking_part g order) m in
        let b : o.0 < length order = taking_in o.0 o.1 in
        let n = (ready.readable o.0 b).name in
        let small : (get_or g.answers (get_or order o.0 0) 0 - 2) * 4096 + o.0 < 2 ^ 32 = omega (arith, ready.few) in
        subst (λ (k : ℕ). k < 2 ^ 32) o.2 small

    pub keys_fit : Fits (keys_of g order)
    keys_fit i h = key_narrow (get_or (keys_of g order) i 0) (get_or_mem (keys_of g order) i 0 h)

  module _ {keys : List ℕ} {count : ℕ} (h : Holds (keys_of g order) count keys) where
    pub count_few : count ≤ length order
    count_few = omega (arith, h.number, keys_few)

    count_sorted : length sorted ≡ count
    count_sorted = sort_length ltb (keys_of g order) ∙ sym h.number

    pub sorted_holds : {m : List ℕ} (rest : List ℕ) → m ≡ sort_by ltb (take count keys) → Holds sorted count (m ++ rest)
    sorted_holds rest e = record { number = sym count_sorted; entries = front rest count (e ∙ ap (sort_by ltb) h.entries) count_sorted }
