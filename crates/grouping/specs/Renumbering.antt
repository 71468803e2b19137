-- The renumbering rule: builds that are alike but for load numbers get the same chunk list.
use Rattle.std.specs.Prelude.{ℕ, zero, suc, ◌<◌, ◌≡◌, get_or}
use mathlib.Core.List.{Memᴰ}
use Rattle.refusal.specs.Outcome.{accepted}
use Rattle.whole.specs.Double.{to_f64}
use Rattle.bitset.specs.Entries.{row_of}
use Rattle.ids.specs.Parts.{id_at}
use Rattle.options.specs.Tables.{group_at}
use Rattle.grouping.specs.Given.{Given, Areas, answer_of}
use Rattle.grouping.specs.Tree.{named_by}
use Rattle.grouping.specs.Call.{ChunksCall}

-- "A renumbering sends each number from 0 to N−1 to one of them, no two to the same."
pub record Renumbering (n : ℕ) (ρ : ℕ → ℕ) : Type 0 where
  pub within : (m : ℕ) → m < n → ρ m < n
  pub apart : (l m : ℕ) → l < n → m < n → ρ l ≡ ρ m → l ≡ m

-- "apart from its chain, all that the first hands in for a module … the second hands in for the module its number goes to"
pub record SameModule (a b : Given) (m m' : ℕ) : Type 0 where
  pub flags : get_or a.variant.flags m 0 ≡ get_or b.variant.flags m' 0
  pub size : get_or a.shared.sizes m 0 ≡ get_or b.shared.sizes m' 0
  pub order : get_or a.shared.orders m 0 ≡ get_or b.shared.orders m' 0
  pub shares : get_or a.shared.shares m 0 ≡ get_or b.shared.shares m' 0
  pub tags : get_or a.shared.tags m 0 ≡ get_or b.shared.tags m' 0
  pub bits : row_of a.shared.bits m ≡ row_of b.shared.bits m'
  pub id : id_at a.shared.bytes a.shared.offsets m ≡ id_at b.shared.bytes b.shared.offsets m'
  pub answers : (g : ℕ) → g < a.variant.g → answer_of a g m ≡ answer_of b g m'

-- "the modules named along its chain, as a set and translated, are those along that module's chain"
pub record SameChain (ρ : ℕ → ℕ) (a b : Given) (m : ℕ) : Type 0 where
  pub there : (l : ℕ) → Memᴰ l (named_by a m) → Memᴰ (ρ l) (named_by b (ρ m))
  pub back : (l' : ℕ) → Memᴰ l' (named_by b (ρ m)) → (l : ℕ) × Memᴰ l (named_by a m) × (ρ l ≡ l')

-- "Two builds are alike under it when …": D, the records and where the ids lie are free, and the lent areas are not part of a build. Of the
-- groups only what each hands in counts, so the entries of absent options are free.
pub record Alike (ρ : ℕ → ℕ) (a b : Given) : Type 0 where
  pub n : a.shared.n ≡ b.shared.n
  pub g : a.variant.g ≡ b.variant.g
  pub e : a.shared.e ≡ b.shared.e
  pub k : a.shared.k ≡ b.shared.k
  pub options : a.shared.options ≡ b.shared.options
  pub groups : (g : ℕ) → g < a.variant.g → group_at a.variant.groups g ≡ group_at b.variant.groups g
  pub on_entry : a.on_entry ≡ b.on_entry
  pub modules : (m : ℕ) → m < a.shared.n → SameModule a b m (ρ m)
  pub chains : (m : ℕ) → m < a.shared.n → SameChain ρ a b m

-- a number plus 1, translated; "Zeros stay zeros."
abbrev pub translated : (ℕ → ℕ) → ℕ → ℕ
translated ρ zero = zero
translated ρ (suc m) = suc (ρ m)

-- "each new chunk's record is equal in every field, first module translated"
pub record SameRecord (ρ : ℕ → ℕ) (a b : Areas) (chunk : ℕ) : Type 0 where
  pub first : get_or b.records.first_of chunk 0 ≡ translated ρ (get_or a.records.first_of chunk 0)
  pub group : get_or b.records.group_of chunk 0 ≡ get_or a.records.group_of chunk 0
  pub name : get_or b.records.name_of chunk 0 ≡ get_or a.records.name_of chunk 0
  pub size : get_or b.records.size_of chunk (to_f64 0) ≡ get_or a.records.size_of chunk (to_f64 0)
  pub bits : row_of b.records.bits_of chunk ≡ row_of a.records.bits_of chunk
  pub mark : get_or b.records.mark_of chunk 0 ≡ get_or a.records.mark_of chunk 0

-- "each module has the chunk number of the module its number goes to, and that one's next is its next translated"
pub record SamePlace (ρ : ℕ → ℕ) (a b : Areas) (m : ℕ) : Type 0 where
  pub chunk : get_or b.modules.chunk_of (ρ m) 0 ≡ get_or a.modules.chunk_of m 0
  pub next : get_or b.modules.next_of (ρ m) 0 ≡ translated ρ (get_or a.modules.next_of m 0)

pub record SameList (ρ : ℕ → ℕ) (n count : ℕ) (a b : Areas) : Type 0 where
  pub records : (chunk : ℕ) → chunk < count → SameRecord ρ a b chunk
  pub modules : (m : ℕ) → m < n → SamePlace ρ a b m

-- the rule, of two accepted calls, whatever scratch each of them asks for
abbrev pub RenumberingRule : Type 0
RenumberingRule =
    (ρ : ℕ → ℕ) (need need' : Given → ℕ) (a b : Given) (count count' : ℕ) (before after before' after' : Areas)
    → Renumbering a.shared.n ρ
    → Alike ρ a b
    → ChunksCall need a (accepted count) before after
    → ChunksCall need' b (accepted count') before' after'
    → (count ≡ count') × SameList ρ a.shared.n count after after'
