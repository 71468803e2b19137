-- The merge in the lent areas: their first entries are the tables copied, the rest stays as it was.
use Prim.Native.Nat.{ℕ, ◌*◌}
use mathlib.Core.List.{List, ◌++◌}
use mathlib.Core.Path.{◌≡◌, sym, ap, ◌∙◌, subst}
use lib.Ieee.{Float}
use lib.ListN.{length, take, drop}
use lib.Seq.{length-take-le, take_at, drop_at}
use Rattle.merge.specs.Merge.{Merging}
use Rattle.merge.specs.Tables.{Mergeable, merge_of}
use Rattle.merge.specs.Engine.{Final}
use Rattle.merge.specs.Call.{Areas, Ready, written}

module _ (k : ℕ) (sizes bits : List ℕ) (a : Areas) (ready : Ready k sizes bits a) where
  pub numbers_part : length (take k a.numbers) ≡ k
  numbers_part = length-take-le k a.numbers ready.numbers_room

  pub sizes_part : length (take k a.sizes) ≡ k
  sizes_part = length-take-le k a.sizes ready.sizes_room

  pub bits_part : length (take (4 * k) a.bits) ≡ 4 * k
  bits_part = length-take-le (4 * k) a.bits ready.bits_room

  -- once the sizes z and the bits b were copied
  module _ (z b : List ℕ) (is-z : z ≡ sizes) (is_b : b ≡ bits) where
    sizes_in_lem : take k (z ++ drop k a.sizes) ≡ sizes
    sizes_in_lem = take_at z (drop k a.sizes) k (ap length is-z ∙ ready.sizes_fit) ∙ is-z

    bits_in : take (4 * k) (b ++ drop (4 * k) a.bits) ≡ bits
    bits_in = take_at b (drop (4 * k) a.bits) (4 * k) (ap length is_b ∙ ready.bits_fit) ∙ is_b

    pub sizes_part₂ : k ≡ length (take k (z ++ drop k a.sizes))
    sizes_part₂ = sym (ap length sizes_in_lem ∙ ready.sizes_fit)

    pub bits_part₂ : 4 * k ≡ length (take (4 * k) (b ++ drop (4 * k) a.bits))
    bits_part₂ = sym (ap length bits_in ∙ ready.bits_fit)

    pub mergeable : Mergeable (take k a.numbers) (take k (z ++ drop k a.sizes)) (take (4 * k) (b ++ drop (4 * k) a.bits))
    mergeable = record {
      count = rw numbers_part ready.count;
      sizes_fit = sym sizes_part₂ ∙ sym numbers_part;
      bits_fit = sym bits_part₂ ∙ ap (λ n. 4 * n) (sym numbers_part);
      exact = rw sizes_in_lem ready.exact;
    }

    -- and the merge was done in place
    pub merged_in : (threshold : Float) (n' z' b' : List ℕ)
        → Final (length (take k a.numbers)) (merge_of (length (take k a.numbers)) (take k (z ++ drop k a.sizes)) (take (4 * k) (b ++ drop (4 * k) a.bits)) threshold) n' z' b'
        → (entries : ℕ)
        → ◌≡◌ {A = Areas}
        record { numbers = n' ++ drop k a.numbers; sizes = z' ++ drop k (z ++ drop k a.sizes); bits = b' ++ drop (4 * k) (b ++ drop (4 * k) a.bits) }
        (written (record { k = k; entries = entries; sizes = sizes; bits = bits; threshold = threshold }) a)
    unfolding written
    merged_in threshold n' z' b' final entries =
        let m : Merging = merge_of k sizes bits threshold in
        let f : Final k m n' z' b' =
        subst (λ j. Final j (merge_of j sizes bits threshold) n' z' b') numbers_part
        (subst (λ w. Final (length (take k a.numbers)) (merge_of (length (take k a.numbers)) sizes w threshold) n' z' b') bits_in
        (subst (λ s. Final (length (take k a.numbers)) (merge_of (length (take k a.numbers)) s (take (4 * k) (b ++ drop (4 * k) a.bits)) threshold) n' z' b') sizes_in_lem final)) in
        let rest-z : drop k (z ++ drop k a.sizes) ≡ drop k a.sizes = drop_at z (drop k a.sizes) k (ap length is-z ∙ ready.sizes_fit) in
        let rest-b : drop (4 * k) (b ++ drop (4 * k) a.bits) ≡ drop (4 * k) a.bits = drop_at b (drop (4 * k) a.bits) (4 * k) (ap length is_b ∙ ready.bits_fit) in
        λ i. record {
          numbers = f.final_numbers i ++ drop k a.numbers;
          sizes = f.final_sizes i ++ rest-z i;
          bits = f.final_bits i ++ rest-b i;
        }
