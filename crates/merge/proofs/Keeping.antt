-- What the joins keep: the number of entries, the total of the sizes, the union of the bits, and that each number is that of a subgroup still there.
use Prim.Native.Nat.{ℕ, zero, suc, ◌<◌}
use mathlib.Core.Bool.{Bool, true, false, not, ◌&&◌, cond}
use mathlib.Core.List.{List, map}
use mathlib.Core.Path.{◌≡◌, refl, sym, ap, ap₂, ◌∙◌, subst}
use native.Mathlib.Omega.{arith}
use borrow.Author.Tests.{eqb-false, ne_eqb}
use lib.Dec.{eqb}
use lib.Ieee.{Float}
use lib.ListN.{length, get_or}
use Rattle.lists.specs.Sum.{sum}
use Rattle.lists.proofs.Map.{get_or_map_below}
use Rattle.bitset.specs.Entries.{row_of}
use Rattle.joins.specs.Subgroup.{Subgroup, united}
use Rattle.joins.specs.Held.{vanished}
use Rattle.merge.specs.Merge.{Join, stop, joins, next_join, follow, merge_steps}
use Rattle.merge.specs.Engine.{is_there, there_in, state_of, Sound, Joinable, JoinedTables, renamed, with_size, with_bits}
use Rattle.merge.proofs.Joins.{joins_are}
use Rattle.merge.proofs.Next.{can_join}
use Rattle.merge.proofs.Joining.{joined_state, joined_sound, joined_total, joined_count, row_of_seeker, row_of_target, row_of_other, there_now}
use Rattle.merge.proofs.Union.{union_from, WordsFrom, words_moved, union_moved}

-- each number is that of a subgroup that is still there
pub record Rooted (numbers : List ℕ) (i : ℕ) : Type 0 where
  pub inside : get_or numbers i 0 < length numbers
  pub still : is_there numbers (get_or numbers i 0) ≡ true

pub record Keeps (n z b n' z' b' : List ℕ) : Type 0 where
  pub count : length n' ≡ length n
  pub total : sum z' ≡ sum z
  pub rooted : ((i : ℕ) → i < length n → Rooted n i) → (i : ℕ) → i < length n → Rooted n' i
  pub words : WordsFrom (row_of b) 0 (length n) → WordsFrom (row_of b') 0 (length n)
  pub union : WordsFrom (row_of b) 0 (length n) → union_from (row_of b') 0 (length n) ≡ union_from (row_of b) 0 (length n)

pub keeps_all : (n z b : List ℕ) → Keeps n z b n z b
keeps_all n z b = record { count = refl; total = refl; rooted = λ r. r; words = λ w. w; union = λ w. refl }

keeps_both : (n z b n' z' b' n'' z'' b'' : List ℕ) → Keeps n z b n' z' b' → Keeps n' z' b' n'' z'' b'' → Keeps n z b n'' z'' b''
keeps_both n z b n' z' b' n'' z'' b'' p q = record {
  count = q.count ∙ p.count;
  total = q.total ∙ p.total;
  rooted = λ r i h. q.rooted (λ j l. p.rooted r j (omega (arith, p.count))) i (omega (arith, p.count));
  words = λ w. subst (WordsFrom (row_of b'') 0) p.count (q.words (subst (WordsFrom (row_of b') 0) (sym p.count) (p.words w)));
  union = λ w.
      ap (union_from (row_of b'') 0) (sym p.count)
      ∙ q.union (subst (WordsFrom (row_of b') 0) (sym p.count) (p.words w))
      ∙ ap (union_from (row_of b') 0) p.count
      ∙ p.union w;
}

-- ---- one join

module _ (s t : Subgroup) (n z b : List ℕ) (g : Joinable s t n z b) (n' z' b' : List ℕ) (after : JoinedTables s t n z b n' z' b') where
  number_now : (i : ℕ) → i < length n → get_or n' i 0 ≡ renamed s.number t.number (get_or n i 0)
  number_now i h = ap (λ l. get_or l i 0) after.new_numbers ∙ get_or_map_below (renamed s.number t.number) n i 0 0 h

  stays_there : (j : ℕ) → j < length n → is_there n j ≡ true → (j ≡ s.number → ⊥) → is_there n' j ≡ true
  stays_there j h e a = there_now s t n z b g n' z' b' after j h ∙ ap₂ ◌&&◌ e (ap not (ne_eqb j s.number a))

  rooted_now : ((i : ℕ) → i < length n → Rooted n i) → (i : ℕ) → i < length n → Rooted n' i
  rooted_now r i h = go (eqb (get_or n i 0) s.number) refl
    where
      same : length n' ≡ length n
      same = joined_count s t n z b g n' z' b' after

      at : (j : ℕ) → get_or n' i 0 ≡ j → j < length n → is_there n j ≡ true → (j ≡ s.number → ⊥) → Rooted n' i
      at j e l still a = record { inside = omega (arith, same); still = ap (is_there n') e ∙ stays_there j l still a }

      go : (c : Bool) → eqb (get_or n i 0) s.number ≡ c → Rooted n' i
      go true e = at t.number (number_now i h ∙ ap (λ c. cond c t.number (get_or n i 0)) e) g.target.inside g.target.still g.apart
      go false e = at (get_or n i 0) (number_now i h ∙ ap (λ c. cond c t.number (get_or n i 0)) e) (r i h).inside (r i h).still (eqb-false (get_or n i 0) s.number e)

  keeps_join : Keeps n z b n' z' b'
  keeps_join = record {
    count = joined_count s t n z b g n' z' b' after;
    total = joined_total s t n z b g n' z' b' after;
    rooted = rooted_now;
    words = λ w. words_moved (row_of b) (row_of b') (length n) s.number t.number g.seeker.inside g.target.inside g.apart w
        (row_of_seeker s t n z b g n' z' b' after) (row_of_target s t n z b g n' z' b' after) (row_of_other s t n z b g n' z' b' after);
    union = λ w. union_moved (row_of b) (row_of b') (length n) s.number t.number g.seeker.inside g.target.inside g.apart w
        (row_of_seeker s t n z b g n' z' b' after) (row_of_target s t n z b g n' z' b' after) (row_of_other s t n z b g n' z' b' after);
  }

-- ---- all joins: the tables that they lead to

pub record Reached (most : ℕ) (threshold : Float) (n z b : List ℕ) : Type 0 where
  pub numbers : List ℕ
  pub sizes : List ℕ
  pub bits : List ℕ
  pub state : state_of numbers sizes bits ≡ merge_steps most threshold (state_of n z b)
  pub sound : Sound numbers sizes bits
  pub keeps : Keeps n z b numbers sizes bits

module _ (threshold : Float) (most : ℕ) (n z b : List ℕ) (sound : Sound n z b) where
  steps_follow : (j : Join) → next_join threshold (there_in n z b) ≡ j → follow j (state_of n z b) (merge_steps most threshold) ≡ merge_steps (suc most) threshold (state_of n z b)
  unfolding merge_steps
  steps_follow j e = ap (λ j. follow j (state_of n z b) (merge_steps most threshold)) (sym e)

  step : (j : Join) → next_join threshold (there_in n z b) ≡ j → ((n z b : List ℕ) → Sound n z b → Reached most threshold n z b) → Reached (suc most) threshold n z b
  step stop e rest = record { numbers = n; sizes = z; bits = b; state = steps_follow stop e; sound = sound; keeps = keeps_all n z b }
  step (joins s t) e rest =
      let w = joins_are s t threshold (there_in n z b) e in
      let g : Joinable s t n z b = can_join n z b threshold s t sound.tables w.0 w.1 in
      let n' : List ℕ = map (renamed s.number t.number) n in
      let z' : List ℕ = with_size (with_size z (united s t)) (vanished s) in
      let b' : List ℕ = with_bits (with_bits b (united s t)) (vanished s) in
      let after : JoinedTables s t n z b n' z' b' = record { new_numbers = refl; new_sizes = refl; new_bits = refl } in
      let r = rest n' z' b' (joined_sound s t n z b g n' z' b' after sound) in
      record {
        numbers = r.numbers;
        sizes = r.sizes;
        bits = r.bits;
        state = r.state ∙ ap (merge_steps most threshold) (joined_state s t n z b g n' z' b' after) ∙ steps_follow (joins s t) e;
        sound = r.sound;
        keeps = keeps_both n z b n' z' b' r.numbers r.sizes r.bits (keeps_join s t n z b g n' z' b' after) r.keeps;
      }

pub reached : (threshold : Float) (most : ℕ) (n z b : List ℕ) → Sound n z b → Reached most threshold n z b
unfolding merge_steps
reached threshold zero n z b sound = record { numbers = n; sizes = z; bits = b; state = refl; sound = sound; keeps = keeps_all n z b }
reached threshold (suc most) n z b sound = step threshold most n z b sound (next_join threshold (there_in n z b)) refl (reached threshold most)
