-- Sets that have the same bits have the same four words.
use Rattle.std.proofs.Common.{◌≡◌, true, eqb, sym, ◌∙◌, eq-eqb, eqb-true}
use Rattle.lists.proofs.Below.{both}
use Rattle.bitset.specs.Entries.{word_at}
use Rattle.bitset.specs.declared.entries.BitSet.{BitSet}
use Rattle.grouping.specs.Subgroups.{same_bits}

-- the four words of equal bits
pub record FourSame (a b : BitSet) : Type 0 where
  pub w0 : word_at a 0 ≡ word_at b 0
  pub w1 : word_at a 1 ≡ word_at b 1
  pub w2 : word_at a 2 ≡ word_at b 2
  pub w3 : word_at a 3 ≡ word_at b 3

pub four_same : (a b : BitSet) → same_bits a b ≡ true → FourSame a b
unfolding same_bits
four_same a b e =
    let p = both (eqb (word_at a 0) (word_at b 0)) _ e in
    let q = both (eqb (word_at a 1) (word_at b 1)) _ p.1 in
    let r = both (eqb (word_at a 2) (word_at b 2)) (eqb (word_at a 3) (word_at b 3)) q.1 in
    record {
      w0 = eqb-true (word_at a 0) (word_at b 0) p.0;
      w1 = eqb-true (word_at a 1) (word_at b 1) q.0;
      w2 = eqb-true (word_at a 2) (word_at b 2) r.0;
      w3 = eqb-true (word_at a 3) (word_at b 3) r.1;
    }

same_four : (a b : BitSet) → FourSame a b → same_bits a b ≡ true
unfolding same_bits
same_four a b s =
    rw (
      eq-eqb (word_at a 0) (word_at b 0) s.w0,
      eq-eqb (word_at a 1) (word_at b 1) s.w1,
      eq-eqb (word_at a 2) (word_at b 2) s.w2,
      eq-eqb (word_at a 3) (word_at b 3) s.w3,
    )

-- two sets that both have the bits of a third
pub same_both : (a b c : BitSet) → same_bits a c ≡ true → same_bits b c ≡ true → same_bits a b ≡ true
same_both a b c p q =
    let s = four_same a c p in
    let t = four_same b c q in
    same_four a b (record { w0 = s.w0 ∙ sym t.w0; w1 = s.w1 ∙ sym t.w1; w2 = s.w2 ∙ sym t.w2; w3 = s.w3 ∙ sym t.w3 })
