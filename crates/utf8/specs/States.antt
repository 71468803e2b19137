-- What stands between two bytes of text: a number for each list of values that can be due.
use Rattle.std.specs.Prelude.{ℕ, Bool, ◌&&◌, List, [], ◌∷◌, ltb, get_or}
use Rattle.utf8.specs.Table.{Values, values, tail}
use Rattle.utf8.specs.Utf8.{goes_on}

-- what is due in states 0 to 7
unfoldable pub due_in : ℕ → List Values
due_in state =
    get_or
    ([]
    ∷ (tail ∷ [])
    ∷ (tail ∷ tail ∷ [])
    ∷ (tail ∷ tail ∷ tail ∷ [])
    ∷ (values 160 191 ∷ tail ∷ [])
    ∷ (values 128 159 ∷ tail ∷ [])
    ∷ (values 144 191 ∷ tail ∷ tail ∷ [])
    ∷ (values 128 143 ∷ tail ∷ tail ∷ [])
    ∷ [])
    state
    []

-- whether bytes are text from a state on; from 8 on nothing is
unfoldable pub goes_from : ℕ → List ℕ → Bool
unfolding due_in goes_on
goes_from state l = ltb state 8 && goes_on (due_in state) l
