-- The scan picks what the definition picks: looking at all places in turn, with the best so far, is picking from the allowed ones.
-- Each turn looks at one place more.
use Prim.Native.Nat.{ℕ, suc, ◌+◌, ◌-◌, ◌≤◌}
use mathlib.Core.Bool.{Bool, true, false, cond}
use mathlib.Core.List.{List, [], ◌∷◌, foldl, map, map-append}
use mathlib.Core.Path.{◌≡◌, refl, sym, ap, ◌∙◌}
use native.Mathlib.Omega.{arith}
use lib.ListN.{length}
use Rattle.std.specs.Prelude.{Option, None, Some}
use Rattle.lists.specs.Range.{range}
use Rattle.lists.specs.Keep.{keep, keep_head}
use Rattle.lists.proofs.Range.{range_snoc}
use Rattle.lists.proofs.Fold.{foldl_append}
use Rattle.cut.specs.Candidate.{candidate_at, allowed}
use Rattle.cut.specs.Cut.{better, pick, allowed_cuts, cut_of}
use Rattle.cut.specs.Scan.{replaced, considered, chosen_from}
use Rattle.cut.specs.declared.candidate.Candidate.{Candidate}
use Rattle.cut.specs.declared.scan.Bounds.{Bounds}

module _ (b : Bounds) where
  -- what the scan leaves after these cuts
  abbrev scan : Option Candidate → List Candidate → Option Candidate
  scan best cs = foldl (considered b) best cs

  abbrev kept : List Candidate → List Candidate
  kept cs = keep (allowed b.minimum) cs

  -- once there is a best, the allowed ones after it are folded into it
  found_step : (t : Bool) (best c : Candidate) (cs : List Candidate)
      → ((x : Candidate) → scan (Some x) cs ≡ Some (foldl (better b.maximum) x (kept cs)))
      → scan (cond t (replaced b.maximum (Some best) c) (Some best)) cs ≡ Some (foldl (better b.maximum) best (keep_head t c (kept cs)))
  unfolding keep_head
  found_step true best c cs rest = rest (better b.maximum best c)
  found_step false best c cs rest = rest best

  from_found : (cs : List Candidate) (best : Candidate) → scan (Some best) cs ≡ Some (foldl (better b.maximum) best (kept cs))
  unfolding considered keep
  from_found [] best = refl
  from_found (c ∷ cs) best = found_step (allowed b.minimum c) best c cs (from_found cs)

  -- before that, the first that is allowed becomes the best
  start_step : (n : ℕ) (t : Bool) (c : Candidate) (cs : List Candidate) → chosen_from n (scan None cs) ≡ pick n b.maximum (kept cs)
      → chosen_from n (scan (cond t (Some c) None) cs) ≡ pick n b.maximum (keep_head t c (kept cs))
  unfolding keep_head pick
  start_step n true c cs rest = ap (chosen_from n) (from_found cs c)
  start_step n false c cs rest = rest

  scan_picks : (n : ℕ) (cs : List Candidate) → chosen_from n (scan None cs) ≡ pick n b.maximum (kept cs)
  unfolding considered keep pick
  scan_picks n [] = refl
  scan_picks n (c ∷ cs) = start_step n (allowed b.minimum c) c cs (scan_picks n cs)

-- the whole scan answers what the definition says
pub scan_cuts : (b : Bounds) (ids : List (List ℕ)) (sizes : List ℕ) (k : ℕ) → k ≡ length ids - 1
    → chosen_from (length ids) (foldl (considered b) None (map (candidate_at ids sizes) (range 1 k))) ≡ cut_of ids sizes b.minimum b.maximum
unfolding cut_of allowed_cuts
scan_cuts b ids sizes k e =
    ap (λ (n : ℕ). chosen_from (length ids) (foldl (considered b) None (map (candidate_at ids sizes) (range 1 n)))) e
    ∙ scan_picks b (length ids) (map (candidate_at ids sizes) (range 1 (length ids - 1)))

-- ---- one place more

place_more : (b : Bounds) (f : ℕ → Candidate) (k : ℕ)
    → foldl (considered b) None (map f (range 1 (suc k))) ≡ considered b (foldl (considered b) None (map f (range 1 k))) (f (1 + k))
place_more b f k =
    ap (λ (l : List ℕ). foldl (considered b) None (map f l)) (range_snoc 1 k)
    ∙ ap (foldl (considered b) None) (map-append f (range 1 k) ((1 + k) ∷ []))
    ∙ foldl_append (considered b) None (map f (range 1 k)) (f (1 + k) ∷ [])

-- the places before i, and then place i
pub looked_at : (b : Bounds) (f : ℕ → Candidate) (i : ℕ) → 1 ≤ i
    → considered b (foldl (considered b) None (map f (range 1 (i - 1)))) (f i) ≡ foldl (considered b) None (map f (range 1 (i + 1 - 1)))
looked_at b f i h =
    let here : 1 + (i - 1) ≡ i = omega arith in
    let next : suc (i - 1) ≡ i + 1 - 1 = omega arith in
    ap (λ (n : ℕ). considered b (foldl (considered b) None (map f (range 1 (i - 1)))) (f n)) (sym here)
    ∙ sym (place_more b f (i - 1))
    ∙ ap (λ (n : ℕ). foldl (considered b) None (map f (range 1 n))) next
