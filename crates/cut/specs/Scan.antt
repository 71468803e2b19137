-- The state of the scan over the places to cut, for the contracts of the functions that make it up.
use Rattle.std.specs.Prelude.{ℕ, ◌+◌, Bool, false, cond, ltb, Float, Option, None, Some}
use Rattle.cut.specs.Candidate.{allowed}
use Rattle.cut.specs.Cut.{Chosen, cut, why_none, better}
use Rattle.cut.specs.declared.candidate.Candidate.{Candidate}
use Rattle.cut.specs.declared.scan.Bounds.{Bounds}

-- an allowed cut after the best so far
abbrev pub replaced : Float → Option Candidate → Candidate → Option Candidate
replaced maximum None c = Some c
replaced maximum (Some best) c = Some (better maximum best c)

-- a similarity that is higher than the best one's by more than 10
abbrev pub ruled_out : Option Candidate → ℕ → Bool
ruled_out None s = false
ruled_out (Some best) s = ltb (best.similarity + 10) s

-- any cut after the best so far
unfoldable pub considered : Bounds → Option Candidate → Candidate → Option Candidate
unfolding allowed
considered b best c = cond (allowed b.minimum c) (replaced b.maximum best c) best

-- what the scan over the places of so many modules answers
abbrev pub chosen_from : ℕ → Option Candidate → Chosen
chosen_from count None = why_none count
chosen_from count (Some c) = cut c.index c.left c.right
