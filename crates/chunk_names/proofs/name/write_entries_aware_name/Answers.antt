-- `chunk_names::name::write_entries_aware_name` meets its contract: the front of the full name is the name itself, or is cut as the whole would be.
use mathlib.Core.Path.{refl, sym}
use native.Mathlib.Omega.{arith}
use lib.Seq.{length-take-le}
use Rattle.chunk_names.proofs.Appending.{appended_as, mid_within}
use Rattle.chunk_names.proofs.FrontOfName.{short_name, long_name}
use Rattle.chunk_names.proofs.name.write_entries_aware_name.Goals as goal

pub slice_bounds-append-end : goal.slice_bounds-append-end
slice_bounds-append-end c =
    let full = c.write_full_name-length in
    sym (length-take-le full.result full.new.area (mid_within (omega arith) full.ensures))

pub returns : goal.returns
returns c = appended_as (long_name c.write_full_name-length.ensures refl c.args.hash.now (omega arith)) c.write_shortened.ensures

pub returns-then-length-le-MAX_CHUNK_NAME_LEN : goal.returns-then-length-le-MAX_CHUNK_NAME_LEN
returns-then-length-le-MAX_CHUNK_NAME_LEN c = appended_as (short_name c.write_full_name-length.ensures refl c.args.hash.now c.if-length-le-MAX_CHUNK_NAME_LEN.true) c.append.ensures
