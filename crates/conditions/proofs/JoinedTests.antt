-- The tests of lengths as code joins them, one after another, against the conditions, which join them from the right.
use Prim.Native.Nat.{ℕ, ◌+◌, ◌*◌}
use mathlib.Core.Bool.{Bool, not, ◌||◌, or_assoc}
use mathlib.Core.Path.{◌≡◌, sym}
use lib.Dec.{ltb, eqb}
use lib.ListN.{length}
use Rattle.refusal.specs.Counts.{bad_length}
use Rattle.options.specs.Tables.{GroupTables}
use Rattle.grouping.specs.Given.{Given, Areas}
use Rattle.grouping.specs.Conditions.{bad_module_table, bad_record_table, bad_group_table, bad_table, short_module_area, short_record_area, bad_area}
use Rattle.conditions.specs.declared.ModuleLengths.{ModuleLengths}
use Rattle.conditions.specs.declared.RecordLengths.{RecordLengths}
use Rattle.conditions.specs.declared.GroupLengths.{GroupLengths}
use Rattle.conditions.specs.declared.AreaLengths.{AreaLengths}
use Rattle.conditions.specs.HandsIn.{module_lengths, record_lengths, group_lengths, area_lengths}

abbrev other : ℕ → ℕ → Bool
other length count = not (eqb length count)

pub module_tables : (b : Given) (n : ℕ) (l : ModuleLengths) → b.shared.n ≡ n → module_lengths b ≡ l
    → (((((other l.flags n || other l.sizes n) || other l.orders n) || other l.shares n) || other l.tags n) || other l.bits
    (4 * n)) ≡ bad_module_table b
unfolding bad_module_table
module_tables b n l count e = rw (sym e, sym count) (simp or_assoc)

pub record_tables : (b : Given) (n d : ℕ) (l : RecordLengths) → b.shared.n ≡ n → b.shared.d ≡ d → record_lengths b ≡ l
    → (((other l.offsets (n + 1) || other l.first n) || other l.dependency (d + 1)) || other l.next (d + 1)) ≡ bad_record_table b
unfolding bad_record_table
record_tables b n d l count records e = rw (sym e, sym count, sym records) (simp or_assoc)

pub group_tables : (t : GroupTables) (g : ℕ) (l : GroupLengths) → group_lengths t ≡ l
    → ((((((((other l.given g || other l.min_size g) || other l.max_size g) || other l.min_module_size g) || other l.max_module_size g)
    || other l.min_share_count g) || other l.tags g) || other l.priority g) || other l.threshold g) ≡ bad_group_table t g
unfolding bad_group_table
group_tables t g l e = rw (sym e) (simp or_assoc)

pub tables : (b : Given) (g : ℕ) → b.variant.g ≡ g
    → (((bad_module_table b || bad_record_table b) || bad_group_table b.variant.groups g) || bad_length b.variant.answers
    (b.variant.g * b.shared.n)) ≡ bad_table b
unfolding bad_table
tables b g count = rw (sym count) (simp or_assoc)

pub areas : (a : Areas) (n : ℕ) (l : AreaLengths) → area_lengths a ≡ l
    → (((((((ltb l.chunk_of n || ltb l.next_of n) || ltb l.first_of n) || ltb l.group_of n) || ltb l.name_of n) || ltb l.size_of n)
    || ltb l.bits_of (4 * n)) || ltb l.mark_of n) ≡ bad_area n a
unfolding bad_area short_module_area short_record_area
areas a n l e = rw (sym e) (simp or_assoc)
