-- The call Chunks for a host: it is split's, with the options that the byte says are given.
use Prim.Native.Nat.{ℕ}
use mathlib.Core.Path.{◌≡◌}
use Rattle.options.specs.declared.Options.{Options}
use Rattle.refusal.specs.Outcome.{Outcome, number_of, value_or}
use Rattle.refusal.proofs.Calls.{exported, value_place}
use Rattle.grouping.specs.Given.{Given, Areas}
use Rattle.grouping.specs.Conditions.{scratch_need}
use Rattle.grouping.specs.Call.{ChunksCall}
use Rattle.gentropi.specs.After.{ChunksExport}

-- a build under other options
abbrev with_options : Given → Options → Given
with_options b o =
    record {
      shared = record {
        n = b.shared.n;
        e = b.shared.e;
        k = b.shared.k;
        d = b.shared.d;
        sizes = b.shared.sizes;
        orders = b.shared.orders;
        shares = b.shared.shares;
        tags = b.shared.tags;
        bits = b.shared.bits;
        bytes = b.shared.bytes;
        offsets = b.shared.offsets;
        first = b.shared.first;
        dependency = b.shared.dependency;
        next = b.shared.next;
        options = o;
      };
      variant = b.variant;
      on_entry = b.on_entry;
    }

-- known is the outcome that an arm of the match knows, made the options that were made of the byte
pub chunks_exported : {b : Given} {made : Options} {answer known : Outcome ℕ} {before after : Areas} {held : ℕ} → made ≡ b.shared.options
    → answer ≡ known → ChunksCall scratch_need (with_options b made) answer before after
    → ChunksExport b (number_of known) held (value_or known held) before after
chunks_exported {b = b} {held = held} e told c = let call = rw e at c in record { call = exported told call; place = value_place told call held }
