-- `emitting::emit::emit_chunk` meets its contract: what the calls write, field by field, is the chunk.
use mathlib.Core.Path.{ap, ◌∙◌}
use Rattle.bitset.specs.Rows.{with_row}
use Rattle.emitting.proofs.Chunk.{written_chunk}
use Rattle.emitting.proofs.emit.emit_chunk.Goals as goal

pub returns-clause-emitted : goal.returns-clause-emitted
returns-clause-emitted c =
    let a = c.args in
    written_chunk (record {
      numbers = c.add_modules_to_chunk.ensures;
      group = c.store_fields.ensures.group_of_after;
      name = c.store_fields.ensures.name_of_after;
      size = c.store_fields.ensures.size_of_after;
      words = c.store_row.ensures ∙ ap (with_row a.areas.now.bits_of.now a.at) c.chunk_bits-own.ensures;
      mark = c.store_fields.ensures.mark_of_after;
    })
