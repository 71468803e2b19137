-- The pieces of a list are parts of it: laid end to end from the last to the first they are the list, and they are at most as many as its
-- elements.
use Prim.Native.Nat.{ℕ, ◌≤◌}
use mathlib.Core.List.Memᴰ
use mathlib.Core.List.{List, [], ◌∷◌, ◌++◌, append_assoc, append-nil, Memᴰ}
use mathlib.Core.Logic.{⊎_elim}
use mathlib.Core.Path.{◌≡◌, refl, sym, ap, ap₂, ◌∙◌, subst}
use native.Mathlib.Omega.{arith}
use lib.ListN.{length, take, drop, take-append-drop, length-append, length-take, length-drop}
use Rattle.settling.specs.Pieces.{Cutting, pieces_of}
use Rattle.settling.proofs.Parts.{PartOf, part_self, part_take, part_drop, part_part}
use Rattle.settling.proofs.PieceBound.{Inside, by_pieces}

-- lists laid end to end, the last first
unfoldable pub backwards : List (List ℕ) → List ℕ
backwards [] = []
backwards (p ∷ ps) = backwards ps ++ p

backwards_append : (ps qs : List (List ℕ)) → backwards (ps ++ qs) ≡ backwards qs ++ backwards ps
unfolding backwards
backwards_append [] qs = sym (append-nil (backwards qs))
backwards_append (p ∷ ps) qs = ap (λ (l : List ℕ). l ++ p) (backwards_append ps qs) ∙ append_assoc (backwards qs) (backwards ps) p

pub pieces_join : (c : Cutting) (l : List ℕ) → backwards (pieces_of c l) ≡ l
unfolding backwards
pieces_join c =
    by_pieces c (λ l ps. backwards ps ≡ l) (λ l. refl)
    (λ l i at ps qs p q. backwards_append ps qs ∙ ap₂ (λ (u v : List ℕ). u ++ v) q p ∙ take-append-drop i l)

pub pieces_parts : (c : Cutting) (l piece : List ℕ) → Memᴰ piece (pieces_of c l) → PartOf piece l
pieces_parts c =
    by_pieces c (λ l ps. (piece : List ℕ) → Memᴰ piece ps → PartOf piece l)
    (λ l piece m. subst (λ (k : List ℕ). PartOf k l) (sym (Memᴰ.eq_of_singleton m)) (part_self l))
    (λ l i at ps qs p q piece m.
    ⊎_elim (λ k. part_part (p piece k) (part_drop i l)) (λ k. part_part (q piece k) (part_take i l)) (Memᴰ.append_cases ps m))

take_some : (i : ℕ) (l : List ℕ) → Inside i l → 1 ≤ length (take i l)
take_some i l h = simp length-take (omega (arith, h.from_one, h.inside))

drop_some : (i : ℕ) (l : List ℕ) → Inside i l → 1 ≤ length (drop i l)
drop_some i l h = simp length-drop (omega (arith, h.inside))

sides_length : (i : ℕ) (l : List ℕ) (ps qs : List (List ℕ)) → length ps ≤ length (drop i l) → length qs ≤ length (take i l) → length (ps ++ qs) ≤ length l
sides_length i l ps qs p q = simp length-append (omega (arith, length-append (take i l) (drop i l), ap length (take-append-drop i l)))

pub pieces_count : (c : Cutting) (l : List ℕ) → 1 ≤ length l → length (pieces_of c l) ≤ length l
pieces_count c =
    by_pieces c (λ l ps. 1 ≤ length l → length ps ≤ length l)
    (λ l h. h)
    (λ l i at ps qs p q h. sides_length i l ps qs (p (drop_some i l at)) (q (take_some i l at)))
