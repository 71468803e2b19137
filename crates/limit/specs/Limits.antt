-- What an optional limit asks of a number, by IEEE 754's comparisons. None asks nothing.
use Rattle.std.specs.Prelude.{Bool, true, false, Float, Option, None, Some}
use Rattle.std.specs.Float.Ieee.{is_nan, le}

-- refusal 8: "a given limit or threshold is NaN"
abbrev pub is_nan_limit : Option Float → Bool
is_nan_limit None = false
is_nan_limit (Some x) = is_nan x

-- x is at least the limit
abbrev pub at_least : Option Float → Float → Bool
at_least None x = true
at_least (Some l) x = le l x

-- x is at most the limit
abbrev pub at_most : Option Float → Float → Bool
at_most None x = true
at_most (Some l) x = le x l
