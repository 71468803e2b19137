-- The pieces of a list are read back from where they begin, and there is a chunk for each of them.
use Prim.Native.Nat.{ℕ, zero, suc, ◌+◌, ◌-◌, ◌≤◌}
use mathlib.Core.List.{List, [], ◌∷◌, ◌++◌, map, append_assoc, append-nil}
use mathlib.Core.Path.{◌≡◌, refl, sym, ap, ap₂, ◌∙◌}
use native.Mathlib.Omega.{arith}
use lib.ListN.{length, get_or, take, drop, length-append}
use lib.Seq.{take_at, drop_at}
use Rattle.settling.proofs.PieceParts.{backwards}
use Rattle.oversized.specs.Cutting.{starts_from, sizes_of}
use Rattle.emitting.specs.Emitted.{Emission, parts_from, emissions}
use Rattle.emitting.specs.declared.emit.Head.{Head}
use Rattle.pieces.specs.Chunks.{chunk_of}

-- ---- parts

-- the pieces are what stands before `end`; what stands behind it does not matter
back : (ps : List (List ℕ)) (l rest : List ℕ) (end : ℕ) → l ≡ backwards ps ++ rest → end ≡ length (backwards ps) → parts_from l end (starts_from end ps) ≡ ps
unfolding backwards parts_from starts_from
back [] l rest end e n = refl
back (p ∷ ps) l rest end e n =
    let whole : length (backwards ps ++ p) ≡ length (backwards ps) + length p = length-append (backwards ps) p in
    let start : end - length p ≡ length (backwards ps) = omega arith in
    let size : end - (end - length p) ≡ length p = omega arith in
    let apart : l ≡ backwards ps ++ (p ++ rest) = e ∙ append_assoc (backwards ps) p rest in
    let dropped : drop (end - length p) l ≡ p ++ rest = ap (drop (end - length p)) apart ∙ drop_at (backwards ps) (p ++ rest) (end - length p) (sym start) in
    let first : take (end - (end - length p)) (drop (end - length p) l) ≡ p = ap₂ take size dropped ∙ take_at p rest (length p) refl in
    ap₂ (λ (q : List ℕ) (qs : List (List ℕ)). q ∷ qs) first (back ps l (p ++ rest) (end - length p) apart start)

pub parts_back : (ps : List (List ℕ)) (l : List ℕ) → backwards ps ≡ l → parts_from l (length l) (starts_from (length l) ps) ≡ ps
parts_back ps l e = back ps l [] (length l) (sym e ∙ sym (append-nil (backwards ps))) (ap length (sym e))

-- ---- where they begin

pub starts_length : (end : ℕ) (ps : List (List ℕ)) → length (starts_from end ps) ≡ length ps
unfolding starts_from
starts_length end [] = refl
starts_length end (p ∷ ps) = ap suc (starts_length (end - length p) ps)

pub starts_within : (end : ℕ) (ps : List (List ℕ)) (i : ℕ) → get_or (starts_from end ps) i 0 ≤ end
unfolding starts_from
starts_within end [] i = omega arith
starts_within end (p ∷ ps) zero = omega arith
starts_within end (p ∷ ps) (suc i) = omega (arith, starts_within (end - length p) ps i)

pub starts_fall : (end : ℕ) (ps : List (List ℕ)) (i : ℕ) → get_or (starts_from end ps) (suc i) 0 ≤ get_or (starts_from end ps) i 0
unfolding starts_from
starts_fall end [] i = omega arith
starts_fall end (p ∷ ps) zero = starts_within (end - length p) ps 0
starts_fall end (p ∷ ps) (suc i) = starts_fall (end - length p) ps i

-- ---- chunks

pub pieces_emitted : (sizes : List ℕ) (head : Head) (mark : List ℕ → ℕ) (ps : List (List ℕ))
    → emissions head ps (sizes_of sizes ps) (map mark ps) ≡ map (λ p. chunk_of sizes head (mark p) p) ps
unfolding emissions sizes_of
pieces_emitted sizes head mark [] = refl
pieces_emitted sizes head mark (p ∷ ps) =
    ap (λ (es : List Emission). chunk_of sizes head (mark p) p ∷ es) (pieces_emitted sizes head mark ps)

pub sizes_length : (sizes : List ℕ) (ps : List (List ℕ)) → length (sizes_of sizes ps) ≡ length ps
unfolding sizes_of
sizes_length sizes [] = refl
sizes_length sizes (p ∷ ps) = ap suc (sizes_length sizes ps)
