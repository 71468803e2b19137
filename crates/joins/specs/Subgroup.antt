-- One subgroup, the two orders that a join goes by, and what it makes of two.
use Rattle.std.specs.Prelude.{ℕ, Bool, true, false, ◌&&◌, cond, ltb, Float}
use Rattle.std.specs.Float.{binary64}
use Rattle.std.specs.Float.Ieee.{lt, add}
use Rattle.whole.specs.Double.{to_f64}
use Rattle.bitset.specs.Entries.{union_of, differing}
use Rattle.bitset.specs.declared.entries.BitSet.{BitSet}

-- a subgroup that is still there: its number, its size as a double, and its entry bits
pub record Subgroup : Type 0 where
  pub number : ℕ
  pub size : Float
  pub bits : BitSet

-- "0 < size < threshold": a size of 0 never seeks
unfoldable pub seeks : Float → Subgroup → Bool
unfolding lt
seeks threshold s = lt (to_f64 0) s.size && lt s.size threshold

-- "the smallest such (then lowest number)"; "then smallest size, then lowest number"
unfoldable pub smaller : Subgroup → Subgroup → Bool
unfolding lt
smaller a b = cond (lt a.size b.size) true (cond (lt b.size a.size) false (ltb a.number b.number))

-- nearer to s: "the fewest entries held by exactly one of the two, then smallest size, then lowest number"
unfoldable pub nearer : Subgroup → Subgroup → Subgroup → Bool
unfolding differing smaller
nearer s a b =
    cond (ltb (differing s.bits a.bits) (differing s.bits b.bits)) true
    (cond (ltb (differing s.bits b.bits) (differing s.bits a.bits)) false (smaller a b))

-- "The joined one keeps the target's number; sizes add, bits unite."
unfoldable pub united : Subgroup → Subgroup → Subgroup
unfolding add union_of
united s t = record { number = t.number; size = add binary64 t.size s.size; bits = union_of t.bits s.bits }
