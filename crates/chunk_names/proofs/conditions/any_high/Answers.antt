-- `chunk_names::conditions::any_high` meets its contract: `any` and the definition are true exactly where some byte is 128 or more.
use Rattle.std.proofs.Common.{ℕ, ◌<◌, ◌≤◌, Bool, true, false, leb, List, length, Decides, MatchBool, refl, arith, rules, tests}
use Rattle.std.specs.List.{HoldsAt, AllWithin}
use Rattle.std.proofs.lemmas.Iterator.{cases_from_any, YieldsList-from_slice}
use Rattle.std.proofs.lemmas.Bool.{false≢true}
use Rattle.std.proofs.lemmas.Bool.Decides.{same_from_decides, Decides-by_or}
use borrow.Author.Tests.{leb-true, le-leb}
use Rattle.chunk_names.specs.Conditions.{any_high}
use Rattle.chunk_names.proofs.conditions.any_high.Goals as goal

abbrev HasHigh : List ℕ → Type 0
HasHigh bytes = (k : ℕ) × (k < length bytes) × HoldsAt (λ b. 128 ≤ b) bytes k

by_cases : (r : Bool) (bytes : List ℕ) → MatchBool r (HasHigh bytes) (AllWithin (λ b. b < 128) bytes 0 (length bytes)) → Decides r (HasHigh bytes)
by_cases true bytes h = (λ _. h, λ _. refl)
by_cases false bytes h = (λ e. absurd (false≢true e), λ w. absurd (omega (arith, h w.0 0 (omega arith) w.1, w.2 0)))

pub returns : goal.returns
unfolding any_high
returns c =
    let bytes = c.args.bytes.now in
    let by_call = cases_from_any _ _ _ (λ b. 128 ≤ b) (λ b. b < 128) c.any.ensures.ran (YieldsList-from_slice bytes cc) (λ x q k. search (rules, tests)) (λ x q k. search (rules, tests)) in
    let by_spec = Decides-by_or (leb 128) (λ b. 128 ≤ b) any_high (λ b. (leb-true 128 b, le-leb 128 b)) refl (λ _ _. refl) bytes in
    same_from_decides _ (any_high bytes) (by_cases _ bytes by_call) by_spec
