-- One module more: the chunk numbers and the union of the entry bits after it.
use Prim.Native.Nat.{ℕ, suc, ◌+◌, ◌-◌, ◌<◌}
use mathlib.Core.List.{List, [], ◌∷◌, foldl}
use mathlib.Core.Path.{◌≡◌, ap, ◌∙◌}
use native.Mathlib.Numerals.{add-one}
use native.Mathlib.Omega.{arith}
use lib.ListN.{length, get_or, set, take, drop}
use lib.Seq.{take-suc, drop-cons}
use Rattle.bitset.specs.Entries.{union_of, row_of}
use Rattle.lists.proofs.Fold.{foldl_append}
use Rattle.emitting.specs.Emitted.{union_of_modules, with_number}

-- the chunk numbers after the first i modules and one more
pub number_more : (members chunk_of : List ℕ) (number i : ℕ) → i < length members
    → with_number (take (i + 1) members) number chunk_of ≡ set (with_number (take i members) number chunk_of) (get_or members i 0) number
unfolding with_number
number_more members chunk_of number i h =
    let put : List ℕ → ℕ → List ℕ = λ l m. set l m number in
    ap (λ l. foldl put chunk_of l) (ap (λ n. take n members) (add-one i) ∙ take-suc members i 0 h)
    ∙ foldl_append put chunk_of (take i members) (get_or members i 0 ∷ [])

-- the union over the last k modules and one before them
pub union_more : (bits members : List ℕ) (k : ℕ) → k < length members
    → union_of_modules bits (drop (length members - (k + 1)) members)
    ≡ union_of (row_of bits (get_or members (length members - 1 - k) 0)) (union_of_modules bits (drop (length members - k) members))
unfolding union_of_modules
union_more bits members k h =
    let at : ℕ = length members - 1 - k in
    let first : length members - (k + 1) ≡ at = omega arith in
    let back : suc at ≡ length members - k = omega arith in
    ap (λ n. union_of_modules bits (drop n members)) first
    ∙ ap (union_of_modules bits) (drop-cons members at 0 (omega arith))
    ∙ ap (λ n. union_of (row_of bits (get_or members at 0)) (union_of_modules bits (drop n members))) back
