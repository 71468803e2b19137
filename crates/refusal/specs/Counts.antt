-- Refusals 1 and 2: the limits of the counts, and the lengths that counts imply.
use Rattle.std.specs.Prelude.{ℕ, Bool, not, List, eqb, length}

-- "N modules (at most 4,096), G groups (64), E entries (256), K names (65,535), D dependency records (65,535)"
abbrev pub module_limit : ℕ
module_limit = 4096

abbrev pub group_limit : ℕ
group_limit = 64

abbrev pub entry_limit : ℕ
entry_limit = 256

abbrev pub name_limit : ℕ
name_limit = 65535

abbrev pub record_limit : ℕ
record_limit = 65535

-- refusal 2 of one table: its length is not the one that its counts imply
abbrev pub bad_length : {A : Type 0} → List A → ℕ → Bool
bad_length table count = not (eqb (length table) count)
