-- The chains of the buckets: bits with a kind have it in their own bucket, a search along the chain misses no kind, and one kind more.
use Rattle.std.proofs.Common.{◌≡◌, ℕ, suc, ◌+◌, ◌<◌, ◌≤◌, Bool, true, false, ltb, List, get_or, replicate, sym, refl, ap, ◌∙◌, subst, ap₂, true≢false, arith, get_or-set_other, get_or-set_same, ltb-false, ltb-true}
use lib.ListN.{get_or-replicate}
use Rattle.lists.proofs.Below.{refuted}
use Rattle.bitset.specs.Entries.{row_of}
use Rattle.bitset.specs.declared.entries.BitSet.{BitSet}
use Rattle.grouping.specs.Subgroups.{same_bits, kind_number}
use Rattle.bitset.specs.Rows.{with_row}
use Rattle.seeking.proofs.Kept.{by_number}
use Rattle.subgroups.specs.Kinds.{rows_of}
use Rattle.subgroups.specs.Finding.{KindFits}
use Rattle.subgroups.specs.Buckets.{bucket_count, bucket_of, bucket_at, LastIn, Chained, ChainRoom, Pushed}
use Rattle.subgroups.proofs.SameBits.{four_same, same_both}
use Rattle.subgroups.proofs.Entering.{row_kept, row_last, no_row}
use Rattle.subgroups.proofs.Numbers.{number_at, number_nowhere}

-- ---- equal bits

-- equal bits have one bucket
same_bucket : (a b : BitSet) → same_bits a b ≡ true → bucket_of a ≡ bucket_of b
unfolding bucket_of
same_bucket a b e = let s = four_same a b e in rw (s.w0, s.w1, s.w2, s.w3)

pub bucket_below : (a : BitSet) → bucket_of a < bucket_count
unfolding bucket_of
bucket_below a = omega arith

other_bucket : (a b : BitSet) → (bucket_of a ≡ bucket_of b → ⊥) → same_bits a b ≡ false
other_bucket a b n = refuted (same_bits a b) (λ e. n (same_bucket a b e))

-- ---- the search along a chain

-- no kind from `at` on has the bits x; what `at` leads to has their bucket
pub record Searching (kind-bits : List ℕ) (count : ℕ) (x : BitSet) (at : ℕ) : Type 0 where
  pub within : at ≤ count
  pub its : (k : ℕ) → at ≡ suc k → bucket_at kind-bits k ≡ bucket_of x
  pub none_from : (j : ℕ) → at ≤ j → j < count → same_bits (row_of kind-bits j) x ≡ false

module _ (kind-bits : List ℕ) (count : ℕ) (heads chain : List ℕ) (c : Chained kind-bits count heads chain) (x : BitSet) where
  pub search_starts : bucket_of x < bucket_count → Searching kind-bits count x (get_or heads (bucket_of x) 0)
  search_starts h =
      let l = c.heads_are (bucket_of x) h in
      record {
        within = l.within;
        its = l.its;
        none_from = λ j u v. other_bucket (row_of kind-bits j) x (l.none_after j u v);
      }

  module _ (k : ℕ) (s : Searching kind-bits count x (suc k)) where
    pub kind_in : k < count
    kind_in = s.within

    pub link_falls : get_or chain k 0 ≤ k
    link_falls = (c.links k kind_in).within

    -- the kinds that were not looked at: those after k were passed, and those before it in no chain of this bucket
    passed : same_bits (row_of kind-bits k) x ≡ false → (j : ℕ) → get_or chain k 0 ≤ j → j < count → (b : Bool) → ltb j k ≡ b
        → same_bits (row_of kind-bits j) x ≡ false
    passed e j u v true t =
        other_bucket (row_of kind-bits j) x (λ q. (c.links k kind_in).none_after j u (ltb-true j k t) (q ∙ sym (s.its k refl)))
    passed e j u v false t =
        by_number j k
        (λ q. ap (λ n. same_bits (row_of kind-bits n) x) q ∙ e)
        (λ n. s.none_from j (omega (arith, ltb-false j k t)) v)

    pub search_goes_on : same_bits (row_of kind-bits k) x ≡ false → Searching kind-bits count x (get_or chain k 0)
    search_goes_on e = record {
      within = omega (arith, link_falls, s.within);
      its = λ i q. (c.links k kind_in).its i q ∙ s.its k refl;
      none_from = λ j u v. passed e j u v (ltb j k) refl;
    }

    -- no kind before k has the bits too
    pub found_here : same_bits (row_of kind-bits k) x ≡ true → k ≡ kind_number 0 (rows_of kind-bits count) x
    found_here e =
        sym (number_at kind-bits count x k kind_in
        (λ j h. refuted (same_bits (row_of kind-bits j) x)
        (λ q. true≢false (sym (same_both (row_of kind-bits j) (row_of kind-bits k) x q e) ∙ c.apart j k h kind_in))) e)

  pub found_nowhere : Searching kind-bits count x 0 → count ≡ kind_number 0 (rows_of kind-bits count) x
  found_nowhere s = sym (number_nowhere kind-bits count x (λ j h. s.none_from j (omega arith) h))

-- ---- one kind more

-- buckets that agree below n
last_same : (f g : ℕ → ℕ) (n b c v : ℕ) → ((j : ℕ) → j < n → g j ≡ f j) → b ≡ c → LastIn f n b v → LastIn g n c v
last_same f g n b c v same e l = record {
  within = l.within;
  its = λ k q. same k (omega (arith, l.within)) ∙ l.its k q ∙ e;
  none_after = λ j u h q. l.none_after j u h (sym (same j h) ∙ q ∙ sym e);
}

-- number n has another bucket
last_more : (f : ℕ → ℕ) (n b v : ℕ) → (f n ≡ b → ⊥) → LastIn f n b v → LastIn f (n + 1) b v
last_more f n b v away l = record {
  within = omega (arith, l.within);
  its = l.its;
  none_after = λ j u h q. by_number j n (λ e. away (ap f (sym e) ∙ q)) (λ d. l.none_after j u (omega arith) q);
}

-- number n has the bucket
last_now : (f : ℕ → ℕ) (n b : ℕ) → f n ≡ b → LastIn f (n + 1) b (n + 1)
last_now f n b e = record {
  within = omega arith;
  its = λ k q. let is : k ≡ n = omega arith in ap f is ∙ e;
  none_after = λ j u h q. omega arith;
}

pub none_chained : (kind-bits heads chain : List ℕ) → heads ≡ replicate bucket_count 0 → Chained kind-bits 0 heads chain
none_chained kind-bits heads chain e = record {
  apart = λ i j h l. absurd (omega arith);
  heads_are = λ b h.
      let none : 0 ≡ get_or heads b 0 = sym (ap (λ l. get_or l b 0) e ∙ get_or-replicate bucket_count b 0 0 h) in
      subst (LastIn (bucket_at kind-bits) 0 b) none
      (record { within = omega arith; its = λ k q. absurd (omega arith); none_after = λ j u l q. omega arith });
  links = λ k h. absurd (omega arith);
}

module _ (kind-bits : List ℕ) (count : ℕ) (heads chain : List ℕ) (c : Chained kind-bits count heads chain) (x : BitSet)
    (new : (j : ℕ) → j < count → same_bits (row_of kind-bits j) x ≡ false)
    (bits' : List ℕ) (kept : (j : ℕ) → j < count → row_of bits' j ≡ row_of kind-bits j) (last : row_of bits' count ≡ x)
    (fits : bucket_of x < bucket_count) (room : ChainRoom (count + 1) heads chain) (heads' chain' : List ℕ)
    (pushed : Pushed (bucket_of x) count heads chain heads' chain') where
  as_before : (j : ℕ) → j < count → bucket_at bits' j ≡ bucket_at kind-bits j
  as_before j h = ap bucket_of (kept j h)

  now : bucket_at bits' count ≡ bucket_of x
  now = ap bucket_of last

  apart' : (i j : ℕ) → i < j → j < count + 1 → same_bits (row_of bits' i) (row_of bits' j) ≡ false
  apart' i j h l =
      by_number j count
      (λ e. ap₂ same_bits (kept i (omega arith)) (ap (row_of bits') e ∙ last) ∙ new i (omega arith))
      (λ n. ap₂ same_bits (kept i (omega arith)) (kept j (omega arith)) ∙ c.apart i j h (omega arith))

  head_now : get_or heads' (bucket_of x) 0 ≡ count + 1
  head_now = ap (λ l. get_or l (bucket_of x) 0) pushed.new_head ∙ get_or-set_same heads (bucket_of x) (count + 1) 0 (omega (arith, room.heads_fit))

  head_kept : (b : ℕ) → (b ≡ bucket_of x → ⊥) → get_or heads' b 0 ≡ get_or heads b 0
  head_kept b n = ap (λ l. get_or l b 0) pushed.new_head ∙ get_or-set_other heads (bucket_of x) b (count + 1) 0 n

  heads'_are : (b : ℕ) → b < bucket_count → LastIn (bucket_at bits') (count + 1) b (get_or heads' b 0)
  heads'_are b h =
      by_number b (bucket_of x)
      (λ e. subst (λ b. LastIn (bucket_at bits') (count + 1) b (get_or heads' b 0)) (sym e)
      (subst (LastIn (bucket_at bits') (count + 1) (bucket_of x)) (sym head_now) (last_now (bucket_at bits') count (bucket_of x) now)))
      (λ n. subst (LastIn (bucket_at bits') (count + 1) b) (sym (head_kept b n))
      (last_more (bucket_at bits') count b (get_or heads b 0) (λ q. n (sym q ∙ now))
      (last_same (bucket_at kind-bits) (bucket_at bits') count b b (get_or heads b 0) as_before refl (c.heads_are b h))))

  link_now : get_or chain' count 0 ≡ get_or heads (bucket_of x) 0
  link_now = ap (λ l. get_or l count 0) pushed.new_link ∙ get_or-set_same chain count (get_or heads (bucket_of x) 0) 0 (omega (arith, room.chain_room))

  link_kept : (k : ℕ) → (k ≡ count → ⊥) → get_or chain' k 0 ≡ get_or chain k 0
  link_kept k n = ap (λ l. get_or l k 0) pushed.new_link ∙ get_or-set_other chain count k (get_or heads (bucket_of x) 0) 0 n

  links' : (k : ℕ) → k < count + 1 → LastIn (bucket_at bits') k (bucket_at bits' k) (get_or chain' k 0)
  links' k h =
      by_number k count
      (λ e. subst (λ k. LastIn (bucket_at bits') k (bucket_at bits' k) (get_or chain' k 0)) (sym e)
      (subst (LastIn (bucket_at bits') count (bucket_at bits' count)) (sym link_now)
      (last_same (bucket_at kind-bits) (bucket_at bits') count (bucket_of x) (bucket_at bits' count) (get_or heads (bucket_of x) 0) as_before (sym now)
      (c.heads_are (bucket_of x) fits))))
      (λ n. subst (LastIn (bucket_at bits') k (bucket_at bits' k)) (sym (link_kept k n))
      (last_same (bucket_at kind-bits) (bucket_at bits') k (bucket_at kind-bits k) (bucket_at bits' k) (get_or chain k 0)
      (λ j l. as_before j (omega arith)) (sym (as_before k (omega arith))) (c.links k (omega arith))))

  pub one_chained : Chained bits' (count + 1) heads' chain'
  one_chained = record { apart = apart'; heads_are = heads'_are; links = links' }

-- a new kind that is written after the others and put first in its bucket
pub kind_chained : (count : ℕ) (x : BitSet) (sizes kind-bits heads chain : List ℕ) → KindFits count x sizes kind-bits → Chained kind-bits count heads chain
    → ChainRoom (count + 1) heads chain → (kind : ℕ) → kind ≡ kind_number 0 (rows_of kind-bits count) x → count ≤ kind
    → (bits' : List ℕ) → bits' ≡ with_row kind-bits count x → (bucket : ℕ) → bucket ≡ bucket_of x
    → (heads' chain' : List ℕ) → Pushed bucket count heads chain heads' chain' → Chained bits' (count + 1) heads' chain'
kind_chained count x sizes kind-bits heads chain fits c room kind is h bits' e bucket at heads' chain' pushed =
    one_chained kind-bits count heads chain c x (no_row count x sizes kind-bits fits kind is h) bits'
    (λ j l. ap (λ (t : List ℕ). row_of t j) e ∙ row_kept count x sizes kind-bits fits j l)
    (ap (λ (t : List ℕ). row_of t count) e ∙ row_last count x sizes kind-bits fits)
    (bucket_below x) room heads' chain' (subst (λ (n : ℕ). Pushed n count heads chain heads' chain') at pushed)
