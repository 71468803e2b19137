-- Places turned back into modules, and what the tests have shown of a build before a run.
use Rattle.std.specs.Prelude.{ℕ, false, List, map, ◌≡◌, get_or}
use Rattle.grouping.specs.Given.{Given}
use Rattle.grouping.specs.Tree.{places_of}
use Rattle.grouping.specs.Conditions.{
  count_above,
  bad_table,
  bad_id,
  shared_id,
  shared_order,
  bad_total,
  bad_dependency,
  bad_limit,
  bad_bit,
  bad_answer,
}

-- the module at a place
abbrev pub module_at : Given → ℕ → ℕ
module_at b p = get_or (places_of b) p 0

-- the modules at places, in their order
abbrev pub modules_at : Given → List ℕ → List ℕ
modules_at b places = map (module_at b) places

-- none of the conditions of the input applies
pub record Passed (b : Given) : Type 0 where
  pub counts : count_above b ≡ false
  pub tables : bad_table b ≡ false
  pub ids : bad_id b ≡ false
  pub ids_apart : shared_id b ≡ false
  pub orders_apart : shared_order b ≡ false
  pub total : bad_total b ≡ false
  pub records : bad_dependency b ≡ false
  pub limits : bad_limit b ≡ false
  pub bits : bad_bit b ≡ false
  pub answers : bad_answer b ≡ false
