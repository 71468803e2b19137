-- The number of each refusal, and what a function's `Result` says of a call.
use Rattle.std.specs.Prelude.{ℕ, Result}
use Rattle.std.specs.Prelude.Result.{Ok, Err}
use Rattle.refusal.specs.Outcome.{Outcome, refused, accepted}
use Rattle.refusal.specs.declared.Refusal.{Refusal}
use Rattle.refusal.specs.declared.Refusal.TheVariants as refusal

-- the numbers of the tables of conditions
abbrev pub refusal_number : Refusal → ℕ
refusal_number refusal.Count = 1
refusal_number refusal.Length = 2
refusal_number refusal.Id = 3
refusal_number refusal.SameId = 4
refusal_number refusal.SameOrder = 5
refusal_number refusal.Total = 6
refusal_number refusal.Record = 7
refusal_number refusal.Nan = 8
refusal_number refusal.Bit = 9
refusal_number refusal.Number = 10
refusal_number refusal.ChunkCount = 11
refusal_number refusal.Area = 12
refusal_number refusal.Scratch = 13
refusal_number refusal.Utf8 = 14
refusal_number refusal.NameOrder = 15
refusal_number refusal.Hash = 16

-- the outcome that an answer says: a refusal is its number
abbrev pub outcome_of : {A : Type 0} → Result A Refusal → Outcome A
outcome_of (Err e) = refused (refusal_number e)
outcome_of (Ok a) = accepted a

-- the number of a part of a call's conditions: 0 where none applies
abbrev pub number_or_zero : Result Unit Refusal → ℕ
number_or_zero (Err e) = refusal_number e
number_or_zero (Ok a) = 0
