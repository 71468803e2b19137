-- Pieces that are finished, in the first entries of three areas: what holds at the start, and after one piece more.
use Prim.Native.Nat.{ℕ, ◌+◌, ◌-◌, ◌≤◌, ◌<◌}
use mathlib.Core.List.{List, [], ◌∷◌, ◌++◌, map, map-append}
use mathlib.Core.Path.{◌≡◌, refl, sym, ap, ap₂, ◌∙◌}
use native.Mathlib.Numerals.{add-one}
use native.Mathlib.Omega.{arith}
use lib.Ieee.{Float}
use lib.ListN.{length, set, take, length-append}
use lib.Seq.{take-suc-set, take-set-le}
use Rattle.whole.specs.Double.{sum_f64}
use Rattle.cut.specs.Order.{sizes_in}
use Rattle.settling.specs.Pieces.{Cutting, mark_in}
use Rattle.oversized.specs.Cutting.{starts_from, sizes_of}

-- where the last of the pieces begins, which lie from the end of a list to its start
unfoldable pub rest_of : ℕ → List (List ℕ) → ℕ
rest_of end [] = end
rest_of end (p ∷ ps) = rest_of (end - length p) ps

-- ---- one piece more

rest_more : (end : ℕ) (ps : List (List ℕ)) (p : List ℕ) → rest_of end (ps ++ (p ∷ [])) ≡ rest_of end ps - length p
unfolding rest_of
rest_more end [] p = refl
rest_more end (q ∷ ps) p = rest_more (end - length q) ps p

starts_more : (end : ℕ) (ps : List (List ℕ)) (p : List ℕ) → starts_from end (ps ++ (p ∷ [])) ≡ starts_from end ps ++ ((rest_of end ps - length p) ∷ [])
unfolding rest_of starts_from
starts_more end [] p = refl
starts_more end (q ∷ ps) p = ap (λ (l : List ℕ). (end - length q) ∷ l) (starts_more (end - length q) ps p)

sizes_more : (sizes : List ℕ) (ps : List (List ℕ)) (p : List ℕ) → sizes_of sizes (ps ++ (p ∷ [])) ≡ sizes_of sizes ps ++ (sum_f64 (sizes_in sizes p) ∷ [])
unfolding sizes_of
sizes_more sizes ps p = map-append (λ p. sum_f64 (sizes_in sizes p)) ps (p ∷ [])

-- the pieces found so far lie behind `end`, and there is an element for each of them
pub record Stored (c : Cutting) (sizes : List ℕ) (whole : ℕ) (found : List (List ℕ)) (end count : ℕ) (starts : List ℕ) (totals : List Float)
    (marks : List ℕ) : Type 0 where
  pub number : count ≡ length found
  pub begins : take count starts ≡ starts_from whole found
  pub sized : take count totals ≡ sizes_of sizes found
  pub marked : take count marks ≡ map (mark_in c) found
  pub ends : rest_of whole found ≡ end
  pub room : count + end ≤ whole

module _ (c : Cutting) (sizes : List ℕ) (whole : ℕ) where
  pub none_stored : (starts : List ℕ) (totals : List Float) (marks : List ℕ) → Stored c sizes whole [] whole 0 starts totals marks
  unfolding rest_of starts_from sizes_of
  none_stored starts totals marks = record { number = refl; begins = refl; sized = refl; marked = refl; ends = refl; room = omega arith }

  -- what lies past the finished pieces is free
  pub stored_past : {found : List (List ℕ)} {end count : ℕ} {starts : List ℕ} {totals : List Float} {marks : List ℕ}
      → Stored c sizes whole found end count starts totals marks
      → (i v : ℕ) → count ≤ i → (j k : ℕ) (x y : Float) → count ≤ j → count ≤ k
      → Stored c sizes whole found end count (set starts i v) (set (set totals j x) k y) marks
  stored_past {found} {end} {count} {starts} {totals} s i v h j k x y p q =
      record {
        number = s.number;
        begins = take-set-le count starts i v h ∙ s.begins;
        sized = take-set-le count (set totals j x) k y q ∙ take-set-le count totals j x p ∙ s.sized;
        marked = s.marked;
        ends = s.ends;
        room = s.room;
      }

  module _ (found : List (List ℕ)) (end count : ℕ) (starts : List ℕ) (totals : List Float) (marks : List ℕ)
      (s : Stored c sizes whole found end count starts totals marks)
      (p : List ℕ) (start : ℕ) (size : Float) (mark : ℕ) (at : end - length p ≡ start) (is : size ≡ sum_f64 (sizes_in sizes p)) (why : mark ≡ mark_in c p)
      (some : start < end) where
    pub one_stored : count < length starts → count < length totals → count < length marks
        → Stored c sizes whole (found ++ (p ∷ [])) start (count + 1) (set starts count start) (set totals count size) (set marks count mark)
    one_stored h k m =
        let new : rest_of whole found - length p ≡ start = ap (λ (n : ℕ). n - length p) s.ends ∙ at in
        record {
          number = simp length-append (omega (arith, s.number));
          begins =
              ap (λ (n : ℕ). take n (set starts count start)) (add-one count)
              ∙ take-suc-set starts count start h
              ∙ ap₂ (λ (l : List ℕ) (n : ℕ). l ++ (n ∷ [])) s.begins (sym new)
              ∙ sym (starts_more whole found p);
          sized =
              ap (λ (n : ℕ). take n (set totals count size)) (add-one count)
              ∙ take-suc-set totals count size k
              ∙ ap₂ (λ (l : List Float) (x : Float). l ++ (x ∷ [])) s.sized is
              ∙ sym (sizes_more sizes found p);
          marked =
              ap (λ (n : ℕ). take n (set marks count mark)) (add-one count)
              ∙ take-suc-set marks count mark m
              ∙ ap₂ (λ (l : List ℕ) (x : ℕ). l ++ (x ∷ [])) s.marked why
              ∙ sym (map-append (mark_in c) found (p ∷ []));
          ends = rest_more whole found p ∙ new;
          room = omega (arith, s.room);
        }
