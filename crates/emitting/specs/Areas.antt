-- What the areas hold once several chunks were emitted, area by area.
use Rattle.std.specs.Prelude.{ℕ, suc, cond}
use mathlib.Core.List.{List, [], ◌∷◌, ◌++◌, foldr}
use Rattle.lists.specs.Elem.{elem}
use Rattle.emitting.specs.Emitted.{Emission, bits_of_chunk, union_of_modules}
use Rattle.bitset.specs.Rows.{words_of}

-- the number plus 1 of the chunk that has module m, or 0; the first chunk has the number `number`
unfoldable pub number_of : ℕ → ℕ → List (List ℕ) → ℕ
unfolding elem
number_of number m [] = 0
number_of number m (modules ∷ chunks) = cond (elem m modules) (suc number) (number_of (suc number) m chunks)

-- the words of the chunks' entry bits, one chunk after the other
unfoldable pub chunk_words : List ℕ → List Emission → List ℕ
unfolding union_of_modules
chunk_words bits es = foldr (λ e words. words_of (bits_of_chunk bits e.head e.modules) ++ words) [] es
