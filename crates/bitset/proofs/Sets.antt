-- Sets by their entries: which entries the operations give, that two sets with the same entries are equal, and the laws of union from it.
use Prim.Native.Nat.{ℕ, ◌+◌, ◌*◌, ◌/◌, ◌%◌, ◌^◌, ◌<◌}
use mathlib.Core.Bool.{Bool, false, ◌||◌, or_comm, or_assoc, or_self}
use mathlib.Core.List.{List}
use mathlib.Core.Path.{◌≡◌, sym, ap, ap₂, ◌∙◌}
use native.Mathlib.Omega.{arith}
use borrow.Author.Tests.{eq-eqb, ne_eqb, eqb-true}
use lib.Bits.{bit_or}
use lib.Dec.{eqb}
use lib.Seq.{ext_get_or}
use Rattle.bitset.specs.Word.{bit}
use Rattle.bitset.specs.Entries.{word_at, has_bit, empty, with_bit, union_of}
use Rattle.bitset.specs.declared.entries.BitSet.{BitSet}
use Rattle.bitset.proofs.Bits.{bit_or_lem, bit_zero, bit_power, bits_equal}
use Rattle.lists.proofs.Below.{same_truth}
use Rattle.bitset.proofs.Words.{Words, empty_word, union_word, empty_words, union_words}
use Rattle.lists.proofs.Stored.{set_cases}

-- ---- the entries

pub has_at : (s : BitSet) (w k : ℕ) → k < 64 → has_bit s (64 * w + k) ≡ bit (word_at s w) k
unfolding has_bit
has_at s w k h =
    let word : (64 * w + k) / 64 ≡ w = omega arith in
    let place : (64 * w + k) % 64 ≡ k = omega arith in
    ap₂ (λ (x y : ℕ). bit (word_at s x) y) word place

pub has_empty : (entry : ℕ) → has_bit empty entry ≡ false
unfolding has_bit
has_empty entry = ap (λ (x : ℕ). bit x (entry % 64)) (empty_word (entry / 64)) ∙ bit_zero (entry % 64)

pub has_union : (a b : BitSet) (entry : ℕ) → entry < 256 → has_bit (union_of a b) entry ≡ (has_bit a entry || has_bit b entry)
unfolding has_bit
has_union a b entry h =
    ap (λ (x : ℕ). bit x (entry % 64)) (union_word a b (entry / 64) (omega arith))
    ∙ bit_or_lem (word_at a (entry / 64)) (word_at b (entry / 64)) (entry % 64)

pub has_with : {s : BitSet} → Words s → (e entry : ℕ) → e < 256 → has_bit (with_bit s e) entry ≡ (eqb e entry || has_bit s entry)
unfolding has_bit with_bit
has_with {s} p e entry h =
    let at : e / 64 < 4 = omega arith in
    set_cases (λ x. bit x (entry % 64) ≡ (eqb e entry || has_bit s entry)) s.words (e / 64) v (entry / 64) (rw p.four at) same other
  where
    v : ℕ
    v = bit_or (word_at s (e / 64)) (2 ^ (e % 64))

    place : entry / 64 ≡ e / 64 → eqb (e % 64) (entry % 64) ≡ eqb e entry
    place q =
        same_truth (eqb (e % 64) (entry % 64)) (eqb e entry)
        (λ t. let r = eqb-true (e % 64) (entry % 64) t in eq-eqb e entry (omega arith))
        (λ t. eq-eqb (e % 64) (entry % 64) (ap (λ (x : ℕ). x % 64) (eqb-true e entry t)))

    same : entry / 64 ≡ e / 64 → bit v (entry % 64) ≡ (eqb e entry || has_bit s entry)
    same q =
        bit_or_lem (word_at s (e / 64)) (2 ^ (e % 64)) (entry % 64)
        ∙ ap₂ ◌||◌ (ap (λ (w : ℕ). bit (word_at s w) (entry % 64)) (sym q)) (bit_power (e % 64) (entry % 64) ∙ place q)
        ∙ or_comm (has_bit s entry) (eqb e entry)

    other : (entry / 64 ≡ e / 64 → ⊥) → has_bit s entry ≡ (eqb e entry || has_bit s entry)
    other n = ap (λ (t : Bool). t || has_bit s entry) (sym (ne_eqb e entry (λ z. n (ap (λ (x : ℕ). x / 64) (sym z)))))

-- ---- a set is its entries

pub sets_equal : {a b : BitSet} → Words a → Words b → ((entry : ℕ) → entry < 256 → has_bit a entry ≡ has_bit b entry) → a ≡ b
sets_equal {a} {b} p q same =
    ap {B = BitSet} (λ (ws : List ℕ). record { words = ws })
    (ext_get_or 0 a.words b.words (p.four ∙ sym q.four)
    (λ w l.
    let h : w < 4 = rw p.four at l in
    bits_equal 64 (word_at a w) (word_at b w) (p.small w h) (q.small w h)
    (λ k g. sym (has_at a w k g) ∙ same (64 * w + k) (omega arith) ∙ has_at b w k g)))

-- ---- union

pub union_comm : {a b : BitSet} → Words a → Words b → union_of a b ≡ union_of b a
union_comm {a} {b} p q =
    sets_equal (union_words p q) (union_words q p)
    (λ e h. has_union a b e h ∙ or_comm (has_bit a e) (has_bit b e) ∙ sym (has_union b a e h))

pub union_assoc : {a b c : BitSet} → Words a → Words b → Words c → union_of (union_of a b) c ≡ union_of a (union_of b c)
union_assoc {a} {b} {c} p q r =
    sets_equal (union_words (union_words p q) r) (union_words p (union_words q r))
    (λ e h.
    has_union (union_of a b) c e h
    ∙ ap (λ (t : Bool). t || has_bit c e) (has_union a b e h)
    ∙ or_assoc (has_bit a e) (has_bit b e) (has_bit c e)
    ∙ ap (λ (t : Bool). has_bit a e || t) (sym (has_union b c e h))
    ∙ sym (has_union a (union_of b c) e h))

pub union_self : {a : BitSet} → Words a → union_of a a ≡ a
union_self {a} p = sets_equal (union_words p p) p (λ e h. has_union a a e h ∙ or_self (has_bit a e))

pub empty_union : {a : BitSet} → Words a → union_of empty a ≡ a
empty_union {a} p =
    sets_equal (union_words empty_words p) p
    (λ e h. has_union empty a e h ∙ ap (λ (t : Bool). t || has_bit a e) (has_empty e))

pub union_empty : {a : BitSet} → Words a → union_of a empty ≡ a
union_empty p = union_comm p empty_words ∙ empty_union p
