-- No exported call tests a condition of number 0. So an answer of 0 says that the call is accepted (`zero-accepted`), and any other that it is refused
-- with that number (`other-refused`).
use Prim.Native.Nat.{ℕ}
use mathlib.Core.Bool.{true}
use mathlib.Core.List.{List}
use mathlib.Core.Path.{◌≡◌, refl}
use lib.Ieee.{Float}
use Rattle.refusal.proofs.Ladder.{numbered}
use Rattle.similarity.specs.Similarity.{similarity_tests}
use Rattle.cut.specs.Call.{cut_tests}
use Rattle.filter.specs.Filter.{filter_tests}
use Rattle.filter.specs.declared.StaticFilter.{StaticFilter}
use Rattle.capture.specs.Capture as capturing
use Rattle.capture.specs.Call as capture
use Rattle.merge.specs.Call as merge
use Rattle.grouping.specs.Given as grouping
use Rattle.grouping.specs.Conditions.{input_tests, state_tests}
use Rattle.grouping.specs.Call.{chunks_tests}
use Rattle.chunk_names.specs.Given as naming
use Rattle.chunk_names.specs.Conditions.{table_tests, chunk_tests}
use Rattle.chunk_names.specs.Call.{name_tests}

pub similarity_none_zero : (lhs rhs : List ℕ) → numbered (similarity_tests lhs rhs) ≡ true
unfolding similarity_tests
similarity_none_zero lhs rhs = refl

pub cut_none_zero : (n : ℕ) (bytes offsets sizes : List ℕ) (minimum maximum : Float) → numbered (cut_tests n bytes offsets sizes minimum maximum) ≡ true
unfolding cut_tests
cut_none_zero n bytes offsets sizes minimum maximum = refl

pub filter_none_zero : (f : StaticFilter) (size : ℕ) → numbered (filter_tests f size) ≡ true
unfolding filter_tests
filter_none_zero f size = refl

pub capture_none_zero : (g : capturing.Given) (a : capture.Areas) → numbered (capture.capture_tests g a) ≡ true
unfolding capture.capture_tests
capture_none_zero g a = refl

pub merge_none_zero : (g : merge.Given) (a : merge.Areas) → numbered (merge.merge_tests g a) ≡ true
unfolding merge.merge_tests
merge_none_zero g a = refl

pub chunks_none_zero : (need : grouping.Given → ℕ) (b : grouping.Given) (a : grouping.Areas) → numbered (chunks_tests need b a) ≡ true
unfolding chunks_tests input_tests state_tests
chunks_none_zero need b a = refl

pub name_none_zero : (g : naming.Given) (room : ℕ) → numbered (name_tests g room) ≡ true
unfolding name_tests table_tests chunk_tests
name_none_zero g room = refl
