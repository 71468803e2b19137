-- What the grouping reads of the modules, by place. A place is a position among the eligible modules in execution order, so that no load
-- number is left in the tree.
use Rattle.std.specs.Prelude.{ℕ, Bool, List, [], map, ltb, get_or}
use Rattle.lists.specs.Elem.{elem}
use Rattle.lists.specs.Keep.{keep}
use Rattle.lists.specs.Range.{range}
use Rattle.lists.specs.Sort.{sort_by}
use Rattle.bitset.specs.Entries.{empty, row_of}
use Rattle.bitset.specs.declared.entries.BitSet.{BitSet}
use Rattle.ids.specs.Parts.{id_at}
use Rattle.flags.specs.Flags.{eligible_at}
use Rattle.records.specs.Chain.{dependencies}
use Rattle.grouping.specs.Given.{Given, is_eligible, answer_of}

-- what is handed in for one eligible module: `edges` says of each place whether the module's chain names the module there
pub record Member : Type 0 where
  pub id : List ℕ
  pub size : ℕ
  pub shares : ℕ
  pub tags : ℕ
  pub bits : BitSet
  pub answers : List ℕ
  pub edges : List Bool

abbrev pub Tree : Type 0
Tree = List Member

-- module l comes before module m in execution order
abbrev pub runs_before : Given → ℕ → ℕ → Bool
runs_before b l m = ltb (get_or b.shared.orders l 0) (get_or b.shared.orders m 0)

-- the eligible modules in execution order
unfoldable pub places_of : Given → List ℕ
unfolding sort_by keep range eligible_at
places_of b = sort_by (runs_before b) (keep (is_eligible b) (range 0 b.shared.n))

-- the modules that are named along a module's chain
abbrev pub named_by : Given → ℕ → List ℕ
named_by b m = dependencies b.shared.first b.shared.dependency b.shared.next b.shared.d m

-- module m, whose dependencies are looked for among the modules at `places`
unfoldable pub member_of : Given → List ℕ → ℕ → Member
unfolding elem range row_of id_at dependencies
member_of b places m =
    record {
      id = id_at b.shared.bytes b.shared.offsets m;
      size = get_or b.shared.sizes m 0;
      shares = get_or b.shared.shares m 0;
      tags = get_or b.shared.tags m 0;
      bits = row_of b.shared.bits m;
      answers = map (λ g. answer_of b g m) (range 0 b.variant.g);
      edges = map (λ q. elem q (named_by b m)) places;
    }

unfoldable pub tree_of : Given → Tree
unfolding places_of member_of
tree_of b = map (member_of b (places_of b)) (places_of b)

-- the member at a place
abbrev pub member_at : Tree → ℕ → Member
member_at tree p = get_or tree p (record { id = []; size = 0; shares = 0; tags = 0; bits = empty; answers = []; edges = [] })
