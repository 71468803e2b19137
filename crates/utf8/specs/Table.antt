-- RFC 3629, section 4: the values that the bytes of one character may have.
use Rattle.std.specs.Prelude.{ℕ, Bool, false, ◌&&◌, ◌||◌, cond, List, [], ◌∷◌, leb}

-- the values from the lowest to the highest, both among them
pub record Values : Type 0 where
  pub lowest : ℕ
  pub highest : ℕ

abbrev pub values : ℕ → ℕ → Values
values l h = record { lowest = l; highest = h }

abbrev pub among : Values → ℕ → Bool
among v b = leb v.lowest b && leb b v.highest

-- "UTF8-tail", 80 to BF in hexadecimal
abbrev pub tail : Values
tail = values 128 191

-- one kind of character: the values of its first byte, and of each byte that follows it
pub data Character : Type 0 where
  character : Values → List Values → Character

-- "UTF8-1" to "UTF8-4", row by row
unfoldable pub characters : List Character
characters =
    -- 00-7F
    character (values 0 127) []
    -- C2-DF
    ∷ character (values 194 223) (tail ∷ [])
    -- E0, A0-BF
    ∷ character (values 224 224) (values 160 191 ∷ tail ∷ [])
    -- E1-EC
    ∷ character (values 225 236) (tail ∷ tail ∷ [])
    -- ED, 80-9F: surrogates are left out
    ∷ character (values 237 237) (values 128 159 ∷ tail ∷ [])
    -- EE-EF
    ∷ character (values 238 239) (tail ∷ tail ∷ [])
    -- F0, 90-BF
    ∷ character (values 240 240) (values 144 191 ∷ tail ∷ tail ∷ [])
    -- F1-F3
    ∷ character (values 241 243) (tail ∷ tail ∷ tail ∷ [])
    -- F4, 80-8F: nothing above U+10FFFF
    ∷ character (values 244 244) (values 128 143 ∷ tail ∷ tail ∷ [])
    ∷ []

-- whether a byte is the first one of some kind
unfoldable pub begins : List Character → ℕ → Bool
begins [] b = false
begins (character first rest ∷ kinds) b = among first b || begins kinds b

-- the values of the bytes that have to follow a first byte
unfoldable pub following : List Character → ℕ → List Values
following [] b = []
following (character first rest ∷ kinds) b = cond (among first b) rest (following kinds b)
