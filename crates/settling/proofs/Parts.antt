-- A part of a list: some of its elements that stand next to one another. What is kept by the test "stands in the part" is the part.
use Prim.Native.Nat.{ℕ}
use mathlib.Core.Bool.{Bool}
use mathlib.Core.List.Memᴰ
use mathlib.Core.List.{List, [], ◌++◌, append_assoc, append-nil, Memᴰ}
use mathlib.Core.Path.{◌≡◌, refl, sym, ap, ap₂, ◌∙◌, subst}
use lib.ListN.{take, drop, take-append-drop}
use lib.Seq.{slice}
use Rattle.lists.specs.Elem.{elem}
use Rattle.lists.specs.Keep.{keep}
use Rattle.lists.proofs.Distinct.{Distinct}
use Rattle.lists.proofs.Elem.{mem_elem, not_elem}
use Rattle.lists.proofs.Keep.{keep_append}
use Rattle.lists.proofs.Pairs.{pairs_across}
use Rattle.lists.proofs.KeepTests.{keep_all, keep_none}

pub record PartOf (part whole : List ℕ) : Type 0 where
  pub front : List ℕ
  pub back : List ℕ
  pub all : front ++ (part ++ back) ≡ whole

-- ---- which parts there are

pub part_self : (l : List ℕ) → PartOf l l
part_self l = record { front = []; back = []; all = append-nil l }

pub part_take : (i : ℕ) (l : List ℕ) → PartOf (take i l) l
part_take i l = record { front = []; back = drop i l; all = take-append-drop i l }

pub part_drop : (i : ℕ) (l : List ℕ) → PartOf (drop i l) l
part_drop i l = record { front = take i l; back = []; all = ap (λ (r : List ℕ). take i l ++ r) (append-nil (drop i l)) ∙ take-append-drop i l }

pub part_part : {a b c : List ℕ} → PartOf a b → PartOf b c → PartOf a c
part_part {a} {b} {c} p q = record { front = q.front ++ p.front; back = p.back ++ q.back; all = regrouped ∙ q.all }
  where
    regrouped : (q.front ++ p.front) ++ (a ++ (p.back ++ q.back)) ≡ q.front ++ (b ++ q.back)
    regrouped =
        simp append_assoc
        (ap (λ (r : List ℕ). q.front ++ r) (simp append_assoc at (ap (λ (r : List ℕ). r ++ q.back) p.all)))

-- what code reads as `l[a..b]`
pub part_slice : (a b : ℕ) (l : List ℕ) → PartOf (slice a b l) l
part_slice a b l = part_part (part_drop a (take b l)) (part_take b l)

-- ---- what stands in a part

pub part_mem : {part whole : List ℕ} → PartOf part whole → (x : ℕ) → Memᴰ x part → Memᴰ x whole
part_mem p x m = subst (λ (l : List ℕ). Memᴰ x l) p.all (Memᴰ.append_right p.front (Memᴰ.append_left p.back m))

-- ---- a part of a list without repeats is what is kept by standing in it

pub part_kept : {part whole : List ℕ} → PartOf part whole → Distinct whole → keep (λ x. elem x part) whole ≡ part
part_kept {part} {whole} p distinct =
    ap (keep test) (sym p.all)
    ∙ keep_append test p.front (part ++ p.back)
    ∙ ap₂ (λ (u v : List ℕ). u ++ v) before (keep_append test part p.back ∙ ap₂ (λ (u v : List ℕ). u ++ v) inside after)
    ∙ append-nil part
  where
    test : ℕ → Bool
    test = λ x. elem x part

    inside : keep test part ≡ part
    inside = keep_all test part (λ x m. mem_elem x m)

    before : keep test p.front ≡ []
    before =
        keep_none test p.front
        (λ x m. not_elem x part (λ n. pairs_across p.front (subst Distinct (sym p.all) distinct) x x m (Memᴰ.append_left p.back n) refl))

    after : keep test p.back ≡ []
    after =
        keep_none test p.back
        (λ x m. not_elem x part
        (λ n. pairs_across (p.front ++ part) (subst Distinct (sym (append_assoc p.front part p.back ∙ p.all)) distinct)
        x x (Memᴰ.append_right p.front n) m refl))
