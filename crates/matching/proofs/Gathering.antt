-- The loop that gathers a group's modules: what one place more adds.
use Rattle.std.proofs.Common.{◌≡◌, ℕ, ◌+◌, ◌≤◌, Bool, true, false, leb, List, [], ◌∷◌, ◌++◌, map, length, get_or, sym, refl, ap, ◌∙◌, leb-true}
use mathlib.Core.Bool.{and-true}
use Rattle.lists.specs.Keep.{keep}
use Rattle.lists.specs.Packed.{packed}
use Rattle.lists.specs.Range.{range}
use Rattle.lists.proofs.Below.{both}
use Rattle.lists.proofs.KeepLoop.{keep_range_in, keep_range_out}
use Rattle.filter.specs.Filter.{asks_nothing}
use Rattle.filter.specs.declared.StaticFilter.{StaticFilter}
use Rattle.filter.proofs.FilterLaws.{all_pass}
use Rattle.matching.specs.Matched.{Matching, takes, takes_module, name_of, key_at, taking_part, keys_of}
use Rattle.matching.proofs.Writing.{map_snoc}

-- those of the first i places
unfoldable pub keys_below : Matching → List ℕ → ℕ → List ℕ
keys_below g order i = map (key_at g order) (keep (λ p. takes_module g (get_or order p 0)) (range 0 i))

-- who takes part has a name
takes_named : (g : Matching) (m : ℕ) → takes_module g m ≡ true → 2 ≤ get_or g.answers m 0
unfolding takes_module takes
takes_named g m e = leb-true 2 (get_or g.answers m 0) (both (leb 2 (get_or g.answers m 0)) _ e).0

pub keys_none : (g : Matching) (order : List ℕ) → keys_below g order 0 ≡ []
unfolding keys_below keep range
keys_none g order = refl

module _ (g : Matching) (order : List ℕ) (i : ℕ) where
  -- with x for the key of a module that has a name
  pub keys_in : (x : ℕ) → (2 ≤ get_or g.answers (get_or order i 0) 0 → x ≡ packed (name_of g (get_or order i 0)) i) → takes_module g (get_or order i 0) ≡ true
      → keys_below g order (i + 1) ≡ keys_below g order i ++ (x ∷ [])
  unfolding keys_below key_at
  keys_in x k e =
      let p : ℕ → Bool = λ k. takes_module g (get_or order k 0) in
      ap (map (key_at g order)) (keep_range_in p i e)
      ∙ map_snoc (key_at g order) (keep p (range 0 i)) i
      ∙ ap (λ (y : ℕ). keys_below g order i ++ (y ∷ [])) (sym (k (takes_named g (get_or order i 0) e)))

  pub keys_out : takes_module g (get_or order i 0) ≡ false → keys_below g order (i + 1) ≡ keys_below g order i
  unfolding keys_below
  keys_out e = ap (map (key_at g order)) (keep_range_out (λ k. takes_module g (get_or order k 0)) i e)

  pub keys_all : i ≡ length order → keys_below g order i ≡ keys_of g order
  unfolding keys_below keys_of taking_part
  keys_all e = ap (λ (n : ℕ). map (key_at g order) (keep (λ p. takes_module g (get_or order p 0)) (range 0 n))) e

-- a name is enough to take part where the filter asks nothing
pub takes_by_name : (filter : StaticFilter) (answer tags size shares : ℕ) → asks_nothing filter ≡ true → takes filter answer tags size shares ≡ leb 2 answer
unfolding takes
takes_by_name filter answer tags size shares e = rw (all_pass filter e tags size shares) (and-true _)
