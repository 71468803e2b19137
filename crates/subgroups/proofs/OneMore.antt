-- The kinds of a list with one more at its end, and that the numbers of those before it stay.
use Rattle.std.proofs.Common.{◌≡◌, ℕ, zero, suc, ◌+◌, ◌<◌, ◌≤◌, Bool, true, false, cond, not, ◌||◌, ltb, List, [], ◌∷◌, ◌++◌, length, sym, refl, ap, ◌∙◌, ⊎_elim, true≢false, append-nil, add-zero, arith, le-ltb, lt-ltb}
use mathlib.Core.Bool.{or-true}
use mathlib.Core.List.Memᴰ
use mathlib.Core.List.{Memᴰ}
use Rattle.lists.specs.Keep.{keep, keep_head}
use Rattle.lists.proofs.KeepLength.{keep_le}
use Rattle.lists.proofs.KeepLoop.{keep_snoc}
use Rattle.lists.proofs.Members.{mem_keep}
use Rattle.bitset.specs.declared.entries.BitSet.{BitSet}
use Rattle.grouping.specs.Subgroups.{same_bits, kinds_of, kind_number}
use Rattle.grouping_laws.proofs.BitKinds.{same_refl}
use Rattle.subgroups.specs.Kinds.{has_kind}
use Rattle.subgroups.specs.Finding.{entered}

-- ---- the number of a kind that is there, and of one that is not

number_there : (i : ℕ) (kinds : List BitSet) (x : BitSet) → has_kind kinds x ≡ true → (i ≤ kind_number i kinds x) × (kind_number i kinds x < i + length kinds)
unfolding has_kind kind_number
number_there i [] x e = absurd (true≢false (sym e))
number_there i (kind ∷ kinds) x e = go (same_bits kind x) e (number_there (suc i) kinds x)
  where
    go : (b : Bool) → (b || has_kind kinds x) ≡ true
        → (has_kind kinds x ≡ true → (suc i ≤ kind_number (suc i) kinds x) × (kind_number (suc i) kinds x < suc i + length kinds))
        → (i ≤ cond b i (kind_number (suc i) kinds x)) × (cond b i (kind_number (suc i) kinds x) < i + suc (length kinds))
    go true f rest = (omega arith, omega arith)
    go false f rest = let r = rest f in (omega arith, omega arith)

number_new : (i : ℕ) (kinds : List BitSet) (x : BitSet) → has_kind kinds x ≡ false → kind_number i kinds x ≡ i + length kinds
unfolding has_kind kind_number
number_new i [] x e = sym (add-zero i)
number_new i (kind ∷ kinds) x e = go (same_bits kind x) e (number_new (suc i) kinds x)
  where
    go : (b : Bool) → (b || has_kind kinds x) ≡ false → (has_kind kinds x ≡ false → kind_number (suc i) kinds x ≡ suc i + length kinds)
        → cond b i (kind_number (suc i) kinds x) ≡ i + suc (length kinds)
    go true f rest = absurd (true≢false f)
    go false f rest = omega (arith, rest f)

-- the test that code makes
pub number_below : (kinds : List BitSet) (x : BitSet) → ltb (kind_number 0 kinds x) (length kinds) ≡ has_kind kinds x
number_below kinds x = go (has_kind kinds x) refl
  where
    go : (b : Bool) → has_kind kinds x ≡ b → ltb (kind_number 0 kinds x) (length kinds) ≡ b
    go true e = let w = number_there 0 kinds x e in lt-ltb (kind_number 0 kinds x) (length kinds) (omega arith)
    go false e = let w = number_new 0 kinds x e in le-ltb (kind_number 0 kinds x) (length kinds) (omega arith)

pub number_less : (kinds : List BitSet) (x : BitSet) → has_kind kinds x ≡ true → kind_number 0 kinds x < length kinds
number_less kinds x e = let w = number_there 0 kinds x e in omega arith

-- ---- a kind that is there keeps its number

number_append : (i : ℕ) (kinds more : List BitSet) (x : BitSet) → has_kind kinds x ≡ true → kind_number i (kinds ++ more) x ≡ kind_number i kinds x
unfolding has_kind kind_number
number_append i [] more x e = absurd (true≢false (sym e))
number_append i (kind ∷ kinds) more x e = go (same_bits kind x) e (number_append (suc i) kinds more x)
  where
    go : (b : Bool) → (b || has_kind kinds x) ≡ true → (has_kind kinds x ≡ true → kind_number (suc i) (kinds ++ more) x ≡ kind_number (suc i) kinds x)
        → cond b i (kind_number (suc i) (kinds ++ more) x) ≡ cond b i (kind_number (suc i) kinds x)
    go true f rest = refl
    go false f rest = rest f

pub number_kept : (b : Bool) (kinds : List BitSet) (y x : BitSet) → has_kind kinds x ≡ true → kind_number 0 (entered b kinds y) x ≡ kind_number 0 kinds x
unfolding entered
number_kept true kinds y x e = refl
number_kept false kinds y x e = number_append 0 kinds (y ∷ []) x e

-- ---- the bits that were entered have the number that they were looked for under

number_last : (i : ℕ) (kinds : List BitSet) (x : BitSet) → has_kind kinds x ≡ false → kind_number i (kinds ++ (x ∷ [])) x ≡ kind_number i kinds x
unfolding has_kind kind_number
number_last i [] x e = rw (same_refl x)
number_last i (kind ∷ kinds) x e = go (same_bits kind x) e (number_last (suc i) kinds x)
  where
    go : (b : Bool) → (b || has_kind kinds x) ≡ false → (has_kind kinds x ≡ false → kind_number (suc i) (kinds ++ (x ∷ [])) x ≡ kind_number (suc i) kinds x)
        → cond b i (kind_number (suc i) (kinds ++ (x ∷ [])) x) ≡ cond b i (kind_number (suc i) kinds x)
    go true f rest = absurd (true≢false f)
    go false f rest = rest f

pub number_entered : (kinds : List BitSet) (x : BitSet) → kind_number 0 (entered (has_kind kinds x) kinds x) x ≡ kind_number 0 kinds x
unfolding entered
number_entered kinds x = go (has_kind kinds x) refl
  where
    go : (b : Bool) → has_kind kinds x ≡ b → kind_number 0 (entered b kinds x) x ≡ kind_number 0 kinds x
    go true e = refl
    go false e = number_last 0 kinds x e

has_last : (kinds : List BitSet) (x : BitSet) → has_kind (kinds ++ (x ∷ [])) x ≡ true
unfolding has_kind
has_last [] x = rw (same_refl x)
has_last (kind ∷ kinds) x = rw (has_last kinds x) (or-true (same_bits kind x))

pub has_entered : (kinds : List BitSet) (x : BitSet) → has_kind (entered (has_kind kinds x) kinds x) x ≡ true
unfolding entered
has_entered kinds x = go (has_kind kinds x) refl
  where
    go : (b : Bool) → has_kind kinds x ≡ b → has_kind (entered b kinds x) x ≡ true
    go true e = e
    go false e = has_last kinds x

-- ---- the kinds of a list

entered_cons : (b : Bool) (kind : BitSet) (kinds : List BitSet) (x : BitSet) → entered b (kind ∷ kinds) x ≡ kind ∷ entered b kinds x
unfolding entered
entered_cons true kind kinds x = refl
entered_cons false kind kinds x = refl

pub more_within : (most : ℕ) (l : List BitSet) (x : BitSet) → suc (length l) ≤ most
    → kinds_of most (l ++ (x ∷ [])) ≡ entered (has_kind (kinds_of most l) x) (kinds_of most l) x
unfolding kinds_of has_kind entered keep_head
more_within zero l x h = absurd (omega arith)
more_within (suc zero) [] x h = refl
more_within (suc (suc most)) [] x h = refl
more_within (suc most) (b ∷ l) x h =
    ap (λ (r : List BitSet). b ∷ kinds_of most r) (keep_snoc others l x)
    ∙ go (same_bits b x) (more_within most (keep others l) x (omega (arith, keep_le others l)))
  where
    others : BitSet → Bool
    others c = not (same_bits b c)

    go : (c : Bool) → kinds_of most (keep others l ++ (x ∷ [])) ≡ entered (has_kind (kinds_of most (keep others l)) x) (kinds_of most (keep others l)) x
        → ◌≡◌ {A = List BitSet} (b ∷ kinds_of most (keep others l ++ keep_head (not c) x []))
        (entered (c || has_kind (kinds_of most (keep others l)) x) (b ∷ kinds_of most (keep others l)) x)
    go true rest = ap (λ (r : List BitSet). b ∷ kinds_of most r) (append-nil (keep others l))
    go false rest = ap (λ (r : List BitSet). b ∷ r) rest ∙ sym (entered_cons (has_kind (kinds_of most (keep others l)) x) b (kinds_of most (keep others l)) x)

-- each of the bits has a kind
pub own_kind : (most : ℕ) (l : List BitSet) → length l ≤ most → (x : BitSet) → Memᴰ x l → has_kind (kinds_of most l) x ≡ true
unfolding kinds_of has_kind
own_kind zero [] h x m = absurd (Memᴰ.not-nil m)
own_kind zero (b ∷ l) h x m = absurd (omega arith)
own_kind (suc most) [] h x m = absurd (Memᴰ.not-nil m)
own_kind (suc most) (b ∷ l) h x m = go (same_bits b x) refl (own_kind most (keep others l) (omega (arith, keep_le others l)) x)
  where
    others : BitSet → Bool
    others c = not (same_bits b c)

    go : (c : Bool) → same_bits b x ≡ c → (Memᴰ x (keep others l) → has_kind (kinds_of most (keep others l)) x ≡ true)
        → (c || has_kind (kinds_of most (keep others l)) x) ≡ true
    go true e rest = refl
    go false e rest =
        ⊎_elim
        (λ q. absurd (true≢false (sym (same_refl b) ∙ ap (same_bits b) (sym q) ∙ e)))
        (λ t. rest (mem_keep others x t (ap not e)))
        (Memᴰ.cases_cons m)
