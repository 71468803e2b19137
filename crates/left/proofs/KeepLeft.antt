-- The loop that writes what no chunk has taken: what holds at its start, after one module more, and at its end.
use Prim.Native.Nat.{ℕ, ◌+◌, ◌≤◌, ◌<◌}
use mathlib.Core.Bool.{Bool, true, false}
use mathlib.Core.List.{List, [], ◌∷◌, ◌++◌}
use mathlib.Core.Path.{◌≡◌, refl, sym, ap, ◌∙◌}
use native.Mathlib.Numerals.{add-one}
use native.Mathlib.Omega.{arith}
use lib.Dec.{eqb}
use lib.ListN.{length, get_or, set, take, length-append, length-set}
use lib.Seq.{take-suc-set, take-set-le, take_all}
use Rattle.lists.specs.Keep.{keep}
use Rattle.lists.proofs.KeepLength.{keep_le}
use Rattle.lists.proofs.KeepLoop.{keep_take_in, keep_take_out}
use Rattle.left.specs.Untaken.{untaken, Kept}

-- the first `count` members are what is left of the first i modules
pub record Passed (list chunk_of members₀ members : List ℕ) (count i : ℕ) : Type 0 where
  pub number : count ≡ length (untaken chunk_of (take i list))
  pub written : take count members ≡ untaken chunk_of (take i list)
  pub long : length members ≡ length members₀
  pub few : count ≤ i
  pub turn : i ≤ length list

pub none_kept : (list chunk_of members : List ℕ) → Passed list chunk_of members members 0 0
unfolding untaken keep
none_kept list chunk_of members = record { number = refl; written = refl; long = refl; few = omega arith; turn = omega arith }

module _ {list chunk_of members₀ members : List ℕ} {count i : ℕ} (k : Passed list chunk_of members₀ members count i) where
  abbrev test : ℕ → Bool
  test m = eqb (get_or chunk_of m 0) 0

  pub one_kept : i < length list → count < length members → test (get_or list i 0) ≡ true
      → Passed list chunk_of members₀ (set members count (get_or list i 0)) (count + 1) (i + 1)
  unfolding untaken
  one_kept h room e =
      let more = keep_take_in test list i 0 h e in
      record {
        number = simp (more, length-append) (omega (arith, k.number));
        written =
            ap (λ (n : ℕ). take n (set members count (get_or list i 0))) (add-one count)
            ∙ take-suc-set members count (get_or list i 0) room
            ∙ ap (λ (l : List ℕ). l ++ (get_or list i 0 ∷ [])) k.written
            ∙ sym more;
        long = length-set members count (get_or list i 0) ∙ k.long;
        few = omega (arith, k.few);
        turn = omega arith;
      }

  -- a module that is taken is written past the count, where the next one is
  pub one_passed : i < length list → test (get_or list i 0) ≡ false → Passed list chunk_of members₀ (set members count (get_or list i 0)) count (i + 1)
  unfolding untaken
  one_passed h e =
      let same = keep_take_out test list i 0 h e in
      record {
        number = k.number ∙ ap length (sym same);
        written = take-set-le count members count (get_or list i 0) (omega arith) ∙ k.written ∙ sym same;
        long = length-set members count (get_or list i 0) ∙ k.long;
        few = omega (arith, k.few);
        turn = omega arith;
      }

  pub all_kept : length list ≤ i → Kept (untaken chunk_of list) count members₀ members
  all_kept h =
      let whole : take i list ≡ list = take_all i list h in
      record {
        number = k.number ∙ ap (λ (l : List ℕ). length (untaken chunk_of l)) whole;
        written = k.written ∙ ap (untaken chunk_of) whole;
        long = k.long;
      }

-- no more is left than there was
pub left_few : (chunk_of list : List ℕ) → length (untaken chunk_of list) ≤ length list
unfolding untaken
left_few chunk_of list = keep_le (λ m. eqb (get_or chunk_of m 0) 0) list
