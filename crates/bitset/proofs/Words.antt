-- Which four words the operations on sets give, and that they are u64 words again.
use Prim.Native.Nat.{ℕ, zero, suc, ◌+◌, ◌*◌, ◌/◌, ◌%◌, ◌^◌, ◌≤◌, ◌<◌}
use mathlib.Core.List.{List, [], ◌∷◌}
use mathlib.Core.Path.{◌≡◌, refl, sym, ap, ◌∙◌}
use native.Mathlib.Nat.{add-zero}
use native.Mathlib.Omega.{arith}
use borrow.Author.Rules.{elem_Fits}
use denote.Array.{each}
use denote.Plain.{UInt}
use denote.Shadow.{shadow}
use lib.Bits.{bit_or, or_lt}
use lib.Dec.{lit<}
use lib.ListN.{length, get_or, take, drop, length-set, length-take, length-drop}
use lib.Pow.{pow-lt}
use lib.Seq.{get_or-take, get_or-drop, ext_get_or}
use mir.Syntax.{w64}
use mir.Val.{Val}
use Rattle.lists.proofs.Stored.{set_cases}
use Rattle.bitset.specs.Entries.{word_at, empty, with_bit, union_of, row_of}
use Rattle.bitset.specs.declared.entries.BitSet.{BitSet}

-- a set of four u64 words
pub record Words (s : BitSet) : Type 0 where
  pub four : length s.words ≡ 4
  pub small : (w : ℕ) → w < 4 → word_at s w < 2 ^ 64

-- a number below four is one of four
below_four : (P : ℕ → Type 0) → P 0 → P 1 → P 2 → P 3 → (w : ℕ) → w < 4 → P w
below_four P p0 p1 p2 p3 zero h = p0
below_four P p0 p1 p2 p3 (suc zero) h = p1
below_four P p0 p1 p2 p3 (suc (suc zero)) h = p2
below_four P p0 p1 p2 p3 (suc (suc (suc zero))) h = p3
below_four P p0 p1 p2 p3 (suc (suc (suc (suc w)))) h = absurd (omega arith)

-- ---- which words the operations give

pub empty_word : (w : ℕ) → word_at empty w ≡ 0
empty_word zero = refl
empty_word (suc zero) = refl
empty_word (suc (suc zero)) = refl
empty_word (suc (suc (suc zero))) = refl
empty_word (suc (suc (suc (suc w)))) = refl

pub empty_words : Words empty
empty_words = record { four = refl; small = λ w h. rw (empty_word w) (lit< tt) }

pub union_word : (a b : BitSet) (w : ℕ) → w < 4 → word_at (union_of a b) w ≡ bit_or (word_at a w) (word_at b w)
unfolding union_of
union_word a b = below_four (λ w. word_at (union_of a b) w ≡ bit_or (word_at a w) (word_at b w)) refl refl refl refl

pub union_words : {a b : BitSet} → Words a → Words b → Words (union_of a b)
unfolding union_of
union_words {a} {b} p q = record {
  four = refl;
  small = λ w h. rw (union_word a b w h) (or_lt 64 (word_at a w) (word_at b w) (p.small w h) (q.small w h));
}

pub with_words : {s : BitSet} (e : ℕ) → e < 256 → Words s → Words (with_bit s e)
unfolding with_bit
with_words {s} e h p =
    let v = bit_or (word_at s (e / 64)) (2 ^ (e % 64)) in
    let at : e / 64 < 4 = omega arith in
    let rest : e % 64 < 64 = omega arith in
    record {
      four = length-set s.words (e / 64) v ∙ p.four;
      small = λ w l. set_cases (λ x. x < 2 ^ 64) s.words (e / 64) v w (rw p.four at)
          (λ q. or_lt 64 (word_at s (e / 64)) (2 ^ (e % 64)) (p.small (e / 64) at) (pow-lt rest))
          (λ n. p.small w l);
    }

-- the four reads of row k
abbrev pub four_reads : List ℕ → ℕ → List ℕ
four_reads table k = get_or table (4 * k) 0 ∷ get_or table (4 * k + 1) 0 ∷ get_or table (4 * k + 2) 0 ∷ get_or table (4 * k + 3) 0 ∷ []

module _ (table : List ℕ) (k : ℕ) (h : 4 * k + 4 ≤ length table) where
  row_length : length (take 4 (drop (4 * k) table)) ≡ 4
  row_length = simp (length-take, length-drop) (omega arith)

  row_word : (w : ℕ) → w < 4 → get_or (take 4 (drop (4 * k) table)) w 0 ≡ get_or table (4 * k + w) 0
  row_word w l = get_or-take 4 (drop (4 * k) table) w 0 l ∙ get_or-drop (4 * k) table w 0

  pub row_words : ((i : ℕ) → i < length table → get_or table i 0 < 2 ^ 64) → Words (row_of table k)
  unfolding row_of
  row_words small = record { four = row_length; small = λ w l. rw (row_word w l) (small (4 * k + w) (omega arith)) }

  pub row_reads : ◌≡◌ {A = BitSet} record { words = four_reads table k } (row_of table k)
  unfolding row_of
  row_reads =
      ap {B = BitSet} (λ (ws : List ℕ). record { words = ws })
      (sym (ext_get_or 0 (take 4 (drop (4 * k) table)) (four_reads table k) row_length
      (λ w l.
      below_four (λ w. get_or (take 4 (drop (4 * k) table)) w 0 ≡ get_or (four_reads table k) w 0)
      (row_word 0 (lit< tt) ∙ ap (λ (i : ℕ). get_or table i 0) (add-zero (4 * k)))
      (row_word 1 (lit< tt))
      (row_word 2 (lit< tt))
      (row_word 3 (lit< tt))
      w
      (rw row_length at l))))

-- ---- a set that code holds: its array has four elements, each of which fits

pub held : (s : BitSet) (us : List Val) → length s.words ≡ 4 → shadow (each ℕ (UInt w64).own_val s.words us) → Words s
held s us four fit = record { four = four; small = λ w l. (elem_Fits w64 w64 s.words us w fit tt).fits }
