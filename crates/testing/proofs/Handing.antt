-- What a build that hands in all tables hands in for each part of the ladder, and what the first part leaves for the others.
use Prim.Native.Nat.{ℕ, ◌+◌, ◌*◌, ◌≤◌}
use mathlib.Core.List.{List}
use mathlib.Core.Path.{◌≡◌, refl, sym, ap, ap₂, ◌∙◌}
use native.Mathlib.Omega.{arith}
use lib.ListN.{length}
use Rattle.refusal.specs.Counts.{module_limit}
use Rattle.grouping.specs.Given.{Given, Shared, Variant}
use Rattle.grouping.specs.Conditions.{bad_id}
use Rattle.conditions.specs.declared.ModuleLengths.{ModuleLengths}
use Rattle.conditions.specs.declared.RecordLengths.{RecordLengths}
use Rattle.conditions.specs.declared.GroupLengths.{GroupLengths}
use Rattle.conditions.specs.HandsIn.{module_lengths, record_lengths, group_lengths}
use Rattle.conditions.specs.Ladder.{shape_tests, HandsShape}
use Rattle.refusal.specs.Outcome.{first_number}
use Rattle.conditions.proofs.CountsLeft.{counts_passed}
use Rattle.conditions.proofs.InputParts.{shape_left}
use Rattle.conditions.proofs.TablesLeft.{TablesPassed, tables_passed}
use Rattle.places.specs.Ordered.{Handed, Hands}
use Rattle.testing.specs.Content.{ContentReady, HandsContent}
use Rattle.testing.specs.Tested.{HandsAll}

-- a build of these parts, with no chunks on entry
abbrev pub build : Shared → Variant → Given
build s v = record { shared = s; variant = v; on_entry = 0 }

module _ (s : Shared) (v : Variant) where
  pub hands_itself : HandsAll (build s v) s v
  hands_itself = record { shared = refl; variant = refl }

  module _ (modules : ModuleLengths) (records : RecordLengths) (groups : GroupLengths)
      (by_module : modules ≡ module_lengths (build s v)) (by_record : records ≡ record_lengths (build s v)) (by_group : groups ≡ group_lengths v.groups) where
    pub hands_shape : {b : Given} → HandsAll b s v
        → HandsShape b s.n v.g s.e s.k s.d modules records groups (length v.answers) (length s.bytes) s.offsets
    hands_shape h =
        let n = ap (λ (x : Shared). x.n) h.shared in
        let d = ap (λ (x : Shared). x.d) h.shared in
        let g = ap (λ (x : Variant). x.g) h.variant in
        record {
          counts =
              record {
                modules = n;
                groups = g;
                entries = ap (λ (x : Shared). x.e) h.shared;
                names = ap (λ (x : Shared). x.k) h.shared;
                records = d;
              };
          lengths =
              record {
                module_count = n;
                group_count = g;
                record_count = d;
                by_module = ap₂ (λ (x : Shared) (y : Variant). module_lengths (build x y)) h.shared h.variant ∙ sym by_module;
                by_record = ap₂ (λ (x : Shared) (y : Variant). record_lengths (build x y)) h.shared h.variant ∙ sym by_record;
                by_group = ap (λ (y : Variant). group_lengths y.groups) h.variant ∙ sym by_group;
                by_answer = ap (λ (y : Variant). length y.answers) h.variant;
              };
          bytes_end = ap (λ (x : Shared). length x.bytes) h.shared;
          id_offsets = ap (λ (x : Shared). x.offsets) h.shared;
        }

  module _ (shaped : 0 ≡ first_number (shape_tests (build s v))) where
    tables : TablesPassed (build s v)
    tables = tables_passed (build s v) (shape_left (build s v) shaped).1

    pub hands_order : {b : Given} → HandsAll b s v → Hands b v.flags s.orders s.bytes s.offsets
    hands_order h =
        record {
          number = ap (λ (x : Shared). x.n) h.shared ∙ sym tables.flag_bytes;
          with_flags = ap (λ (y : Variant). y.flags) h.variant;
          with_orders = ap (λ (x : Shared). x.orders) h.shared;
          with_bytes = ap (λ (x : Shared). x.bytes) h.shared;
          with_offsets = ap (λ (x : Shared). x.offsets) h.shared;
        }

    pub hands_content : {b : Given} → HandsAll b s v
        → HandsContent b s.n v.g s.e s.k s.d v.flags s.sizes s.bits s.first s.dependency s.next v.answers
        s.options v.groups
    hands_content h =
        let n = ap (λ (x : Shared). x.n) h.shared in
        let flags = ap (λ (y : Variant). y.flags) h.variant in
        record {
          sizes_of = record { module_count = n ∙ sym tables.sizes; flag_bytes = flags; sizes_of = ap (λ (x : Shared). x.sizes) h.shared };
          records =
              record {
                module_count = n;
                record_count = ap (λ (x : Shared). x.d) h.shared;
                firsts = ap (λ (x : Shared). x.first) h.shared;
                modules = ap (λ (x : Shared). x.dependency) h.shared;
                nexts = ap (λ (x : Shared). x.next) h.shared;
              };
          limits =
              record {
                group_count = ap (λ (y : Variant). y.g) h.variant;
                globals = ap (λ (x : Shared). x.options) h.shared;
                group_tables = ap (λ (y : Variant). y.groups) h.variant;
              };
          entry_bits =
              record {
                module_count = n;
                entry_count = ap (λ (x : Shared). x.e) h.shared;
                flag_bytes = flags;
                entry_bits = ap (λ (x : Shared). x.bits) h.shared;
              };
          all_answers =
              record {
                name_count = ap (λ (x : Shared). x.k) h.shared;
                all_answers = ap (λ (y : Variant). y.answers) h.variant;
                answer_count = ap₂ (λ (x : Shared) (y : Variant). y.g * x.n) h.shared h.variant ∙ sym tables.answers;
              };
        }

    pub content_ready : ContentReady s.n v.g s.k s.d v.flags s.sizes s.bits s.first s.dependency s.next v.groups
    content_ready =
        let counts = counts_passed (build s v) (shape_left (build s v) shaped).0 in
        record {
          names = counts.names;
          flag_bytes = tables.flag_bytes;
          sizes_of = tables.sizes;
          entry_bits = tables.bits;
          records = tables.records counts.modules counts.records;
          groups = tables.groups;
        }

    pub order_ready : (by_order rank : List ℕ) → module_limit ≤ length by_order → module_limit ≤ length rank
        → Handed v.flags s.orders s.bytes s.offsets by_order rank
    unfolding bad_id
    order_ready by_order rank room ranks =
        let few = (counts_passed (build s v) (shape_left (build s v) shaped).0).modules in
        let flags = tables.flag_bytes in
        record {
          with_ids =
              record {
                few = omega arith;
                offsets_length = tables.offsets ∙ ap (λ (n : ℕ). n + 1) (sym flags);
                good = (shape_left (build s v) shaped).2;
                list_room = omega arith;
                rank_room = omega arith;
              };
          with_orders = record { few = omega arith; orders_length = tables.orders ∙ sym flags; list_room = omega arith };
        }
