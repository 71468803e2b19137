-- The tables that a run reads, and that they are those of a build which passed the tests.
use Rattle.std.specs.Prelude.{ℕ, ◌<◌, true, false, List, ◌≡◌, ltb, length, get_or}
use Rattle.std.proofs.Math.Option.{Option, none, some}
use Rattle.ids.specs.Order.{before}
use Rattle.ids.specs.Parts.{id_at}
use Rattle.bitset.specs.declared.entries.BitSet.{BitSet}
use Rattle.options.specs.declared.Settings.{Settings}
use Rattle.emitting.specs.declared.emit.Head.{Head}
use Rattle.items.specs.declared.convert.Limits.{Limits}
use Rattle.items.specs.Turn.{Tables}
use Rattle.grouping.specs.Given.{Given, is_listed}
use Rattle.grouping.specs.Tree.{places_of}
use Rattle.grouping.specs.Item.{Item}
use Rattle.settling.specs.Modules.{Passed}

-- ranks of the modules in id order: of two normal included modules the one whose id stands first has the lower rank
pub record Ranks (b : Given) (rank : List ℕ) : Type 0 where
  pub for_all : length rank ≡ b.shared.n
  pub small : (m : ℕ) → m < length rank → get_or rank m 0 < 4096
  pub by_id : (l m : ℕ) → l < b.shared.n → m < b.shared.n → is_listed b l ≡ true → is_listed b m ≡ true
      → ltb (get_or rank l 0) (get_or rank m 0) ≡ before (id_at b.shared.bytes b.shared.offsets l) (id_at b.shared.bytes b.shared.offsets m)

-- the tables by which items are read are those of a build that passed the tests
pub record ItemFits (b : Given) (t : Tables) (bits : List ℕ) : Type 0 where
  pub passed : Passed b
  pub bytes : t.bytes ≡ b.shared.bytes
  pub offsets : t.offsets ≡ b.shared.offsets
  pub sizes : t.sizes ≡ b.shared.sizes
  pub words : bits ≡ b.shared.bits
  pub ranks : Ranks b t.rank

-- "for an entries-aware item, the subgroup's bits": its head has them, four words
pub record OwnBits (own : BitSet) (head : Head) : Type 0 where
  pub aware : head.entries_aware ≡ true
  pub bits : head.bits ≡ own
  pub four_words : length own.words ≡ 4

abbrev pub BitsOf : Option BitSet → Head → Type 0
BitsOf none head = head.entries_aware ≡ false
BitsOf (some own) head = OwnBits own head

-- the head that the chunks of an item share
pub record HeadOf (i : Item) (head : Head) : Type 0 where
  pub group : head.group ≡ i.group
  pub name : head.name ≡ i.name
  pub bits : BitsOf i.bits head

-- the limits in force for the chunks of a group
pub record LimitsOf (r : Settings) (l : Limits) : Type 0 where
  pub minimum : l.minimum ≡ r.min_size
  pub maximum : l.maximum ≡ r.max_size

-- the tables along which sets are found: flag bytes, dependency records, and the eligible modules in execution order
pub record Walking : Type 0 where
  pub flags : List ℕ
  pub first : List ℕ
  pub dependency : List ℕ
  pub next : List ℕ
  pub order : List ℕ

pub record WalkFits (b : Given) (t : Walking) : Type 0 where
  pub flags : t.flags ≡ b.variant.flags
  pub first : t.first ≡ b.shared.first
  pub dependency : t.dependency ≡ b.shared.dependency
  pub next : t.next ≡ b.shared.next
  pub order : t.order ≡ places_of b
