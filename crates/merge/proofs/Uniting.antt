-- Two subgroups that join: their sizes and the sum are whole, and the two rows that are written fit the tables.
use Prim.Native.Nat.{ℕ, ◌+◌, ◌^◌, ◌≤◌, ◌<◌}
use mathlib.Core.Bool.{true}
use mathlib.Core.List.{List, map}
use mathlib.Core.Path.{◌≡◌, sym, ap, ap₂, ◌∙◌, subst}
use native.Mathlib.Omega.{arith}
use lib.Ieee.{binary64, add, in_unsigned, to_unsigned}
use lib.ListN.{length, get_or, length-set}
use Rattle.whole.specs.Double.{to_f64}
use Rattle.whole.proofs.Exact.{add_exact}
use Rattle.joins.specs.Subgroup.{Subgroup, united}
use Rattle.joins.specs.Held.{vanished}
use Rattle.joins.proofs.Doubles.{is_whole}
use Rattle.merge.specs.Tables.{subgroup_at}
use Rattle.merge.specs.Engine.{Joinable, JoinedTables, renamed, with_size, with_bits, InRow}
use Rattle.lists.proofs.SumChanged.{two_of_sum}
use Rattle.bitset.proofs.Rows.{length_with_row}
use Rattle.merge.proofs.There.{in_row}

-- the size of the two together
unfoldable pub both : List ℕ → Subgroup → Subgroup → ℕ
both sizes s t = get_or sizes t.number 0 + get_or sizes s.number 0

module _ (s t : Subgroup) (numbers sizes bits : List ℕ) (g : Joinable s t numbers sizes bits) where
  pub s_in : s.number < length sizes
  s_in = (in_row g.tables s.number g.seeker.inside).has_size

  pub t_in : t.number < length sizes
  t_in = (in_row g.tables t.number g.target.inside).has_size

  pub both_small : both sizes s t ≤ 2 ^ 53
  unfolding both
  both_small = omega (arith, two_of_sum sizes s.number t.number s_in t_in g.apart, g.tables.exact)

  pub united_size : (united s t).size ≡ to_f64 (both sizes s t)
  unfolding united subgroup_at both
  united_size =
      ap₂ (add binary64) (ap (λ u. u.size) g.target.is) (ap (λ u. u.size) g.seeker.is)
      ∙ add_exact (get_or sizes t.number 0) (get_or sizes s.number 0) both_small

  united_whole : in_unsigned binary64 64 (united s t).size ≡ true
  united_whole = ap (in_unsigned binary64 64) united_size ∙ is_whole (both sizes s t) both_small

  -- ---- the two subgroups that the engine writes: u is t with s, v is what is left of s

  module _ (u : Subgroup) (is-u : u ≡ united s t) where
    pub united_fits : InRow sizes bits u.number × (in_unsigned binary64 64 u.size ≡ true)
    unfolding united
    united_fits = (subst (InRow sizes bits) (sym (ap (λ u. u.number) is-u)) (in_row g.tables t.number g.target.inside), ap (λ u. in_unsigned binary64 64 u.size) is-u ∙ united_whole)

    module _ (z b : List ℕ) (is-z : z ≡ with_size sizes u) (is_b : b ≡ with_bits bits u) (v : Subgroup) (is-v : v ≡ vanished s) where
      same_room : (length z ≡ length sizes) × (length b ≡ length bits)
      same_room = (
        ap length is-z ∙ length-set sizes u.number (to_unsigned 64 u.size),
        ap length is_b ∙ length_with_row bits u.number u.bits united_fits.0.has_bits,
      )

      pub vanished_fits : InRow z b v.number × (in_unsigned binary64 64 v.size ≡ true)
      vanished_fits =
          let r = in_row g.tables s.number g.seeker.inside in
          let row : InRow z b s.number = record { has_size = rw same_room.0 r.has_size; has_bits = rw same_room.1 r.has_bits } in
          (subst (InRow z b) (sym (ap (λ u. u.number) is-v)) row, ap (λ u. in_unsigned binary64 64 u.size) is-v ∙ is_whole 0 (omega arith))

      pub stored : (n z' b' : List ℕ) → n ≡ map (renamed s.number t.number) numbers → z' ≡ with_size z v → b' ≡ with_bits b v → JoinedTables s t numbers sizes bits n z' b'
      stored n z' b' is-n is-z' is-b' = record {
        new_numbers = is-n;
        new_sizes = is-z' ∙ ap₂ with_size (is-z ∙ ap (with_size sizes) is-u) is-v;
        new_bits = is-b' ∙ ap₂ with_bits (is_b ∙ ap (with_bits bits) is-u) is-v;
      }
