-- Lent areas that stay the ones that were lent, over no step and over two.
use mathlib.Core.Path.{refl, ◌∙◌}
use Rattle.emitting.specs.Emitted.{SameAreas}
use Rattle.emitting.proofs.Chunk.{same_lengths, lengths_kept}
use Rattle.emitting.specs.declared.ChunkAreas.{ChunkAreas}

pub same_areas : (a : ChunkAreas) → SameAreas a a
same_areas a = record { chunk_of = refl; group_of = refl; name_of = refl; size_of = refl; bits_of = refl; mark_of = refl; lengths = same_lengths _ }

pub still_same : {a b c : ChunkAreas} → SameAreas a b → SameAreas b c → SameAreas a c
still_same ab bc =
    record {
      chunk_of = bc.chunk_of ∙ ab.chunk_of;
      group_of = bc.group_of ∙ ab.group_of;
      name_of = bc.name_of ∙ ab.name_of;
      size_of = bc.size_of ∙ ab.size_of;
      bits_of = bc.bits_of ∙ ab.bits_of;
      mark_of = bc.mark_of ∙ ab.mark_of;
      lengths = lengths_kept bc.lengths ab.lengths;
    }
