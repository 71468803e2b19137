-- What an item whose places ascend ends as. Each cut leaves shorter pieces, so that the bound of the cuts never cuts them short; and the ends
-- ascend, are not empty, are parts of the item's places, and no two of them share a place.
use Prim.Native.Nat.{ℕ, zero, suc, ◌+◌, ◌≤◌, ◌<◌}
use mathlib.Core.List.Memᴰ
use mathlib.Core.List.{List, [], ◌∷◌, ◌++◌, Memᴰ}
use mathlib.Core.Logic.{⊎_elim}
use mathlib.Core.Path.{◌≡◌, refl, sym, ap₂, subst}
use native.Mathlib.Omega.{arith}
use lib.ListN.{length}
use Rattle.lists.proofs.Sort.{Pairs, none, more}
use Rattle.options.specs.declared.Settings.{Settings}
use Rattle.grouping.specs.Tree.{Tree}
use Rattle.grouping.specs.Fate.{Fate, emptied, dropped, parted, emitted, fate_of}
use Rattle.grouping_laws.proofs.Pieces.{Ascending, Pieces, OfFate, fate_holds}
use Rattle.settling.specs.Ends.{ends_by, ends_from}
use Rattle.lists.proofs.Blocks.{pairs_append}

-- ---- the bound

module _ (r : Settings) (tree : Tree) where
  -- any two bounds above the count of the places
  pub ends_same : (n m : ℕ) (places : List ℕ) → Ascending places → length places < n → length places < m
      → ends_from n r tree places ≡ ends_from m r tree places
  unfolding ends_from
  ends_same zero m places a h k = absurd (omega arith)
  ends_same (suc n) zero places a h k = absurd (omega arith)
  ends_same (suc n) (suc m) places a h k = go (fate_of r tree places) (fate_holds r tree places a) (ends_same n m)
    where
      go : (fate : Fate) → OfFate places fate
          → ((piece : List ℕ) → Ascending piece → length piece < n → length piece < m → ends_from n r tree piece ≡ ends_from m r tree piece)
          → ends_by (ends_from n r tree) fate places ≡ ends_by (ends_from m r tree) fate places
      go emptied o again = refl
      go dropped o again = refl
      go (parted left right) o again =
          ap₂ (λ (x y : List (List ℕ)). x ++ y)
          (again right o.right_ascends (omega (arith, o.left_some, o.lengths)) (omega (arith, o.left_some, o.lengths)))
          (again left o.left_ascends (omega (arith, o.right_some, o.lengths)) (omega (arith, o.right_some, o.lengths)))
      go emitted o again = refl

-- ---- the ends

-- no place is in both
abbrev pub NoneShared : List ℕ → List ℕ → Type 0
NoneShared d e = (p : ℕ) → Memᴰ p d → Memᴰ p e → ⊥

-- lists of places that an item's places end as
pub record Ended (places : List ℕ) (ends : List (List ℕ)) : Type 0 where
  pub ascend : (e : List ℕ) → Memᴰ e ends → Ascending e
  pub some : (e : List ℕ) → Memᴰ e ends → 1 ≤ length e
  pub within : (e : List ℕ) → Memᴰ e ends → (p : ℕ) → Memᴰ p e → Memᴰ p places
  pub apart : Pairs NoneShared ends

ended_none : (places : List ℕ) → Ended places []
ended_none places =
    record {
      ascend = λ e m. absurd (Memᴰ.not-nil m);
      some = λ e m. absurd (Memᴰ.not-nil m);
      within = λ e m. absurd (Memᴰ.not-nil m);
      apart = none;
    }

ended_whole : (places : List ℕ) → Ascending places → 1 ≤ length places → Ended places (places ∷ [])
ended_whole places a some =
    record {
      ascend = λ e m. subst Ascending (sym (Memᴰ.eq_of_singleton m)) a;
      some = λ e m. subst (λ (l : List ℕ). 1 ≤ length l) (sym (Memᴰ.eq_of_singleton m)) some;
      within = λ e m p i. subst (λ (l : List ℕ). Memᴰ p l) (Memᴰ.eq_of_singleton m) i;
      apart = more (λ e m. absurd (Memᴰ.not-nil m)) none;
    }

ended_pieces : (places left right : List ℕ) (l m : List (List ℕ)) → Pieces places left right → Ended right l → Ended left m → Ended places (l ++ m)
ended_pieces places left right l m o a b =
    record {
      ascend = λ e i. ⊎_elim (a.ascend e) (b.ascend e) (Memᴰ.append_cases l i);
      some = λ e i. ⊎_elim (a.some e) (b.some e) (Memᴰ.append_cases l i);
      within = λ e i p k.
          ⊎_elim (λ x. o.right_of p (a.within e x p k)) (λ y. o.left_of_lem p (b.within e y p k)) (Memᴰ.append_cases l i);
      apart = pairs_append a.apart b.apart (λ d e i j p x y. o.apart p (b.within e j p y) (a.within d i p x));
    }

module _ (r : Settings) (tree : Tree) where
  pub ends_hold : (n : ℕ) (places : List ℕ) → Ascending places → Ended places (ends_from n r tree places)
  unfolding ends_from
  ends_hold zero places a = ended_none places
  ends_hold (suc n) places a = go (fate_of r tree places) (fate_holds r tree places a) (ends_hold n)
    where
      go : (fate : Fate) → OfFate places fate → ((piece : List ℕ) → Ascending piece → Ended piece (ends_from n r tree piece))
          → Ended places (ends_by (ends_from n r tree) fate places)
      go emptied o again = ended_none places
      go dropped o again = ended_none places
      go (parted left right) o again =
          ended_pieces places left right (ends_from n r tree right) (ends_from n r tree left) o (again right o.right_ascends) (again left o.left_ascends)
      go emitted o again = ended_whole places a o
