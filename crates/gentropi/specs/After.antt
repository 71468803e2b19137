-- The places that an exported function writes, before and after a call: a refusal leaves them as they were.
use Rattle.std.specs.Bool.{then_some}
use Rattle.std.specs.Prelude.{ℕ, Bool, List, ◌≡◌, Float, length}
use Rattle.refusal.specs.Outcome.{Outcome, refused, accepted, number_of, value_or}
use Rattle.refusal.specs.Call.{Call}
use Rattle.filter.specs.declared.StaticFilter.{StaticFilter}
use Rattle.cut.specs.Cut.{Chosen, fewer_than_two, none_allowed, cut}
use Rattle.capture.specs.Capture as capturing
use Rattle.capture.specs.Call as capture
use Rattle.merge.specs.Call as merge
use Rattle.grouping.specs.Given as grouping
use Rattle.grouping.specs.Conditions.{scratch_need}
use Rattle.grouping.specs.Call.{chunks_outcome}
use Rattle.grouping.specs.Written as chunks
use Rattle.chunk_names.specs.Given as naming
use Rattle.chunk_names.specs.Call as chunk-names

-- the places of a cut: why there is none, or 0; its index and the sizes of its sides
pub record CutPlaces : Type 0 where
  pub why_none : ℕ
  pub index : ℕ
  pub left : Float
  pub right : Float

-- 1 for fewer than two modules, 2 for no allowed cut
abbrev pub why_number : Chosen → ℕ
why_number fewer_than_two = 1
why_number none_allowed = 2
why_number (cut i l r) = 0

-- no cut leaves the index and the sizes as they were
abbrev pub without_cut : ℕ → CutPlaces → CutPlaces
without_cut why p = record { why_none = why; index = p.index; left = p.left; right = p.right }

abbrev pub cut_after : Outcome Chosen → CutPlaces → CutPlaces
cut_after (refused n) p = p
cut_after (accepted fewer_than_two) p = without_cut (why_number fewer_than_two) p
cut_after (accepted none_allowed) p = without_cut (why_number none_allowed) p
cut_after (accepted (cut i l r)) p = record { why_none = why_number (cut i l r); index = i; left = l; right = r }

-- a limit is handed over as a bool beside a double, and a least share count as a bool beside a number
abbrev pub filter_given : ℕ → Bool → Float → Bool → Float → Bool → ℕ → StaticFilter
filter_given tags has_min min has-max max has-shares shares =
    record {
      tags = tags;
      min_module_size = then_some has_min min;
      max_module_size = then_some has-max max;
      min_share_count = then_some has-shares shares;
    }

-- an exported cut: its answer, and the places after it
pub record CutExport (outcome : Outcome Chosen) (answer : ℕ) (before after : CutPlaces) : Type 0 where
  pub number : answer ≡ number_of outcome
  pub places : after ≡ cut_after outcome before

-- an exported filter: its answer, and the place after it
pub record FilterExport (outcome : Outcome Bool) (answer : ℕ) (before after : Bool) : Type 0 where
  pub number : answer ≡ number_of outcome
  pub place : after ≡ value_or outcome before

-- an exported capture: its answer, and the lent areas after it
abbrev pub CaptureExport : capturing.Given → ℕ → capture.Areas → capture.Areas → Type 0
CaptureExport g answer before after = Call number_of (capture.capture_outcome g before) answer before after (λ _. capture.Written g before after)

-- an exported merge: its answer, and the lent areas after it
abbrev pub MergeExport : merge.Given → ℕ → merge.Areas → merge.Areas → Type 0
MergeExport g answer before after = Call number_of (merge.merge_outcome g before) answer before after (λ _. after ≡ merge.written g before)

-- an exported Chunks: its answer with the lent areas after it, and the place of the count
pub record ChunksExport (b : grouping.Given) (answer : ℕ) (count count' : ℕ) (before after : grouping.Areas) : Type 0 where
  pub call : Call number_of (chunks_outcome scratch_need b before) answer before after (λ _. after ≡ chunks.written 0 b before)
  pub place : count' ≡ value_or (chunks_outcome scratch_need b before) count

-- an exported name call: its answer with the name area after it, and the place of the length
pub record NameExport (g : naming.Given) (answer : ℕ) (held held' : ℕ) (before after : List ℕ) : Type 0 where
  pub call : Call number_of (chunk-names.name_outcome g (length before)) answer before after (λ _. after ≡ chunk-names.written g before)
  pub place : held' ≡ value_or (chunk-names.name_outcome g (length before)) held
