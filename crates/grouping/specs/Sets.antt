-- Step 1: "Each eligible module that matches, passes the filter and has a name puts its capture into the set of its (group, name)."
use Rattle.std.specs.Prelude.{ℕ, zero, suc, ◌+◌, Bool, true, false, ◌&&◌, ◌||◌, List, [], ◌∷◌, map, eqb, length, get_or}
use Rattle.lists.specs.Keep.{keep_head}
use Rattle.filter.specs.Filter.{passes}
use Rattle.options.specs.declared.Settings.{Settings}
use Rattle.grouping.specs.Tree.{Member, Tree}

-- a member is matched by group g with a name, and passes the filter
unfoldable pub takes_part : Settings → ℕ → ℕ → Member → Bool
unfolding passes
takes_part r g name m = eqb (get_or m.answers g 0) (2 + name) && passes r.filter m.tags m.size m.shares

-- marks united place by place
unfoldable pub or_marks : List Bool → List Bool → List Bool
or_marks [] more = []
or_marks (a ∷ marks) [] = a ∷ marks
or_marks (a ∷ marks) (b ∷ more) = (a || b) ∷ or_marks marks more

-- what a marked member names is marked too
abbrev pub followed : Bool → Member → List Bool → List Bool
followed true m marks = or_marks marks m.edges
followed false m marks = marks

unfoldable pub follow : Tree → List Bool → List Bool → List Bool
unfolding or_marks
follow [] old marks = marks
follow (m ∷ tree) [] marks = marks
follow (m ∷ tree) (a ∷ old) marks = follow tree old (followed a m marks)

-- what is reached from marked places in so many rounds; every place is eligible
unfoldable pub rounds : ℕ → Tree → List Bool → List Bool
unfolding follow
rounds zero tree marks = marks
rounds (suc n) tree marks = rounds n tree (follow tree marks marks)

-- the captures of marked places, taken together; "with recursion off, the start alone"
abbrev pub captured : Bool → Tree → List Bool → List Bool
captured true tree marks = rounds (length tree) tree marks
captured false tree marks = marks

-- the places that are marked, ascending, counted from p
unfoldable pub marked_from : ℕ → List Bool → List ℕ
unfolding keep_head
marked_from p [] = []
marked_from p (a ∷ marks) = keep_head a p (marked_from (suc p) marks)

-- the set of (group, name): its places, ascending
unfoldable pub set_of : Settings → ℕ → Tree → ℕ → List ℕ
unfolding takes_part rounds marked_from
set_of r g tree name = marked_from 0 (captured r.recursive tree (map (takes_part r g name) tree))

-- some member takes part with this name
unfoldable pub named : Settings → ℕ → Tree → ℕ → Bool
unfolding takes_part
named r g [] name = false
named r g (m ∷ tree) name = takes_part r g name m || named r g tree name
