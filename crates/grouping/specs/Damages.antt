-- Changes of a count, of a table, or of two such things.
use Rattle.std.specs.Prelude.{ℕ, ◌-◌, cond, List, [], ◌∷◌, ◌++◌, eqb, Float, length, take, set, replicate, Some}
use Rattle.std.specs.Float.{nan}
use Rattle.whole.specs.Double.{to_f64}
use Rattle.grouping.specs.Changes.{Handed, Changes, changed}

abbrev pub Damage : Type 0
Damage = Handed → Handed

-- both, one after the other
abbrev pub both : Damage → Damage → Damage
both first second h = second (first h)

-- f where the numbers are equal, elsewhere nothing
abbrev pub only : {A : Type 0} → ℕ → (A → A) → ℕ → A → A
only chosen f this x = cond (eqb chosen this) (f x) x

abbrev pub same : {A : Type 0} → ℕ → A → A
same this x = x

abbrev pub change_count : ℕ → (ℕ → ℕ) → Damage
change_count chosen f = changed (record { count = only chosen f; numbers = same; doubles = same; limit = same })

abbrev pub change_numbers : ℕ → (List ℕ → List ℕ) → Damage
change_numbers chosen f = changed (record { count = same; numbers = only chosen f; doubles = same; limit = same })

abbrev pub change_doubles : ℕ → (List Float → List Float) → Damage
change_doubles chosen f = changed (record { count = same; numbers = same; doubles = only chosen f; limit = same })

-- a count of another value
abbrev pub count : ℕ → ℕ → Damage
count chosen x = change_count chosen (λ y. x)

-- one entry of a table of numbers
abbrev pub entry : ℕ → ℕ → ℕ → Damage
entry chosen i x = change_numbers chosen (λ l. set l i x)

-- a table without its last entry, and with so many zeros more
abbrev pub without_last : {A : Type 0} → List A → List A
without_last l = take (length l - 1) l

abbrev pub short : ℕ → Damage
short chosen = change_numbers chosen without_last

abbrev pub longer : ℕ → ℕ → Damage
longer chosen more = change_numbers chosen (λ l. l ++ replicate more 0)

abbrev pub short_doubles : ℕ → Damage
short_doubles chosen = change_doubles chosen without_last

abbrev pub longer_doubles : ℕ → Damage
longer_doubles chosen = change_doubles chosen (λ l. l ++ (to_f64 0 ∷ []))

-- NaN in a table of doubles, and as a global limit
abbrev pub nan_at : ℕ → ℕ → Damage
nan_at chosen i = change_doubles chosen (λ l. set l i nan)

abbrev pub nan_limit : ℕ → Damage
nan_limit chosen = changed (record { count = same; numbers = same; doubles = same; limit = only chosen (λ l. Some nan) })
