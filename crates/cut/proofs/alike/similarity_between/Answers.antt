-- `cut::alike::similarity_between` meets its contract: both ids are in the table and within the limit.
use mathlib.Core.Path.{ap₂, ◌∙◌}
use Rattle.ids.specs.Offsets.{id_limit}
use Rattle.ids.proofs.IdParts.{in_table, id_length}
use Rattle.similarity.specs.Similarity.{similarity}
use Rattle.cut.proofs.alike.similarity_between.Goals as goal

pub id_at-lhs-requires : goal.id_at-lhs-requires
id_at-lhs-requires c = in_table id_limit _ _ _ c.requires.good c.requires.has_before

pub id_at-rhs-requires : goal.id_at-rhs-requires
id_at-rhs-requires c = in_table id_limit _ _ _ c.requires.good c.requires.has_after

pub similarity_within-requires : goal.similarity_within-requires
similarity_within-requires c =
    rw c.id_at-lhs.ensures (id_length id_limit _ _ _ c.requires.good c.requires.has_before)

pub returns : goal.returns
returns c = c.similarity_within.ensures ∙ ap₂ similarity c.id_at-lhs.ensures c.id_at-rhs.ensures
