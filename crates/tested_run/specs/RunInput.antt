-- What the run of a tested build is handed: the tables that it reads, and the normal included modules in both orders.
use Rattle.std.specs.Prelude.{ℕ, ◌≤◌, List, ◌≡◌}
use Rattle.lists.specs.Sort.{sort_by}
use Rattle.options.specs.declared.Options.{Options}
use Rattle.options.specs.Tables.{GroupTables}
use Rattle.grouping.specs.Given.{Given, Areas}
use Rattle.grouping.specs.Tree.{runs_before}
use Rattle.settling.specs.Modules.{Passed}
use Rattle.places.specs.Ordered.{listed_of}
use Rattle.running.specs.Fits.{Ranks}
use Rattle.run.specs.Ran.{RunRoom, Ran}

pub record RunInput : Type 0 where
  pub n : ℕ
  pub g : ℕ
  pub flags : List ℕ
  pub sizes : List ℕ
  pub shares : List ℕ
  pub tags : List ℕ
  pub bits : List ℕ
  pub bytes : List ℕ
  pub offsets : List ℕ
  pub first : List ℕ
  pub dependency : List ℕ
  pub next : List ℕ
  pub options : Options
  pub groups : GroupTables
  pub answers : List ℕ
  pub by_order : List ℕ
  pub rank : List ℕ
  pub on_entry : ℕ

-- the tables of a build, beside both orders
abbrev pub input_of : Given → List ℕ → List ℕ → RunInput
input_of b by_order rank =
    let s = b.shared in
    let v = b.variant in
    record {
      n = s.n;
      g = v.g;
      flags = v.flags;
      sizes = s.sizes;
      shares = s.shares;
      tags = s.tags;
      bits = s.bits;
      bytes = s.bytes;
      offsets = s.offsets;
      first = s.first;
      dependency = s.dependency;
      next = s.next;
      options = s.options;
      groups = v.groups;
      answers = v.answers;
      by_order = by_order;
      rank = rank;
      on_entry = b.on_entry;
    }

-- the input is that of a build which passed the tests of its input, with its modules in execution order and by the ranks of their ids
pub record InputFits (b : Given) (t : RunInput) : Type 0 where
  pub handed : t ≡ input_of b t.by_order t.rank
  pub passed : Passed b
  pub order : t.by_order ≡ sort_by (runs_before b) (listed_of b)
  pub ranks : Ranks b t.rank

-- there is such a build, and the areas have room for it
pub record Runnable (t : RunInput) (at : ℕ) (a : Areas) : Type 0 where
  pub b : Given
  pub fits : InputFits b t
  pub small : t.on_entry ≤ 69631
  pub room : RunRoom t.n at a

-- its chunk list is written
pub record TestedRan (t : RunInput) (at count : ℕ) (entry exit : Areas) : Type 0 where
  pub of_build : (b : Given) → InputFits b t → Ran b at count entry exit
