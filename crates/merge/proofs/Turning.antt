-- One turn of the engine, and the turns one after the other: from the state after a turn the rest of the merge is the same.
use Prim.Native.Nat.{ℕ, zero, suc, ◌*◌, ◌-◌, ◌/◌, ◌^◌, ◌<◌, ◌≤◌}
use mathlib.Core.Bool.{true, false, not, true≢false, false≢true}
use mathlib.Core.List.{List, ◌++◌, map, Memᴰ}
use mathlib.Core.Option.{none, some}
use mathlib.Core.Path.{◌≡◌, refl, sym, ap, ◌∙◌, subst}
use native.Mathlib.Omega.{arith}
use lib.Dec.{eqb}
use lib.Ieee.{Float}
use lib.ListN.{length, get_or, take, drop}
use lib.Seq.{length-take-le, take-append-le}
use Rattle.std.specs.Prelude.{Option, None, Some}
use Rattle.lists.specs.Keep.{keep}
use Rattle.lists.specs.Least.{least}
use Rattle.lists.proofs.Distinct.{Distinct}
use Rattle.lists.proofs.Members.{keep_mem}
use Rattle.lists.proofs.Position.{get_or_mem}
use Rattle.joins.specs.Subgroup.{Subgroup, seeks, smaller, nearer}
use Rattle.joins.specs.declared.candidate.Candidate.{Candidate}
use Rattle.joins.specs.Candidate.{seeking, comes_first, seeker_at, target_at, Exact}
use Rattle.seeking.specs.Listed.{Ascends, FirstWords, Removed, Rewritten}
use Rattle.seeking.specs.Search.{found_of, Readable, Searchable}
use Rattle.seeking.specs.Seekers.{first_seeker, Heads, Refreshed}
use Rattle.seeking.proofs.Beside.{first_words_removed, first_words_rewritten}
use Rattle.seeking.proofs.Removing.{but_one, without_number}
use Rattle.seeking.proofs.Blocks.{first_of_heads}
use Rattle.merge.specs.Merge.{Merging, Join, stop, joins, others, next_join, follow, merge_steps}
use Rattle.merge.specs.Tables.{subgroup_at}
use Rattle.merge.specs.Engine.{listed, there_in, state_of, Sound, InRow, Standing, Joinable, JoinedTables, makes_join, Turn}
use Rattle.merge.proofs.There.{in_row, small_size}
use Rattle.merge.proofs.Next.{no_seeker, no_target, next_join_lem, seeker_is, target_is, standing, can_join}
use Rattle.merge.proofs.Joining.{joined_state, joined_sound, joined_sizes, joined_count}
use Rattle.merge.proofs.Listing.{listed_distinct, listed_ascends, left_ascends, listed_in, left_in, readable, listed_joined, first_word_kept}
use Rattle.merge.proofs.Refreshing.{first_listed, heads_after}
use Rattle.merge.proofs.Finding.{seeker_found, no_seeker_found, target_found, no_target_found}

found_none : (b : Option Candidate) → b ≡ None → found_of b ≡ none
found_none b e = ap found_of e

found_one : (b : Option Candidate) (x : Candidate) → b ≡ Some x → found_of b ≡ some x
found_one b x e = ap found_of e

-- sizes that are looked through are doubles, and at most 4,096
pub sizes_fit_all : (numbers sizes bits : List ℕ) → Sound numbers sizes bits → Exact sizes × (length sizes ≤ 4096)
sizes_fit_all numbers sizes bits sound =
    (λ i h. small_size sound.tables i (omega (arith, sound.tables.sizes_fit)), omega (arith, sound.tables.sizes_fit, sound.tables.count))

-- ---- one turn

module _ (threshold : Float) (numbers sizes bits there heads : List ℕ) (sound : Sound numbers sizes bits) (is : there ≡ listed numbers)
    (stand : Heads threshold sizes heads) where
  stands : next_join threshold (there_in numbers sizes bits) ≡ stop → (l words : List ℕ)
      → Turn threshold false numbers sizes bits there numbers sizes bits l words heads
  stands e l words = record {
    answer = sym (ap makes_join e);
    state = sym (ap (λ j. follow j (state_of numbers sizes bits) (λ m. m)) e);
    sound = sound;
    list = λ m. absurd (false≢true m);
    beside = λ m. absurd (false≢true m);
    heads = λ m. absurd (false≢true m);
  }

  sizes_exact : Exact sizes
  sizes_exact = (sizes_fit_all numbers sizes bits sound).0

  pub reads_heads : Readable heads sizes
  reads_heads = record { inside = λ j h. (stand.stand j h).inside; exact = sizes_exact }

  -- what the search for a seeker found
  module _ (b : Option Candidate) (is_b : found_of b ≡ least comes_first (keep (seeking threshold) (map (seeker_at sizes) heads))) where
    among : found_of b ≡ least comes_first (keep (seeking threshold) (map (seeker_at sizes) (listed numbers)))
    unfolding first_seeker
    among = is_b ∙ first_of_heads threshold sizes sizes_exact heads stand ∙ first_listed threshold numbers sizes bits sound

    pub turn_without_seeker : b ≡ None → (words : List ℕ) → Turn threshold false numbers sizes bits there numbers sizes bits there words heads
    turn_without_seeker e =
        stands (no_seeker threshold (there_in numbers sizes bits) (no_seeker_found sizes bits numbers threshold (sym among ∙ found_none b e))) there

    module _ (x : Candidate) (e : b ≡ Some x) where
      abbrev from : ℕ
      from = x.number

      seeker : least smaller (keep (seeks threshold) (there_in numbers sizes bits)) ≡ some (subgroup_at sizes bits from)
      seeker = seeker_found sizes bits numbers threshold x (sym among ∙ found_one b x e)

      pub seeker_stands : Standing numbers sizes bits (subgroup_at sizes bits from)
      seeker_stands = (seeker_is threshold (there_in numbers sizes bits) (subgroup_at sizes bits from) seeker (Standing numbers sizes bits) (standing numbers sizes bits)).0

      pub seeker_row : (from < length numbers) × InRow sizes bits from × (get_or sizes from 0 ≤ 2 ^ 53)
      unfolding subgroup_at
      seeker_row =
          let h = seeker_stands.inside in
          (h, in_row sound.tables from h, small_size sound.tables from h)

      pub seeker_listed : Ascends there × Memᴰ from there
      unfolding subgroup_at
      seeker_listed =
          (subst Ascends (sym is) (listed_ascends numbers), subst (Memᴰ from) (sym is) (listed_in numbers from seeker_stands.inside seeker_stands.still))

      -- what is left of the list once the seeker is taken off it, and the first words beside that
      pub seeker_removed : (words there' words' : List ℕ) → FirstWords (listed numbers) words bits → length words ≡ length there
          → length there' ≡ length there → length words' ≡ length words → Removed from there words there' words'
          → (take (length there' - 1) there' ≡ but_one from there) × FirstWords (take (length there' - 1) there') words' bits
      seeker_removed words there' words' beside long same-list same-words r =
          let gone = ap (λ n. take (n - 1) there') same-list ∙ r.new_list in
          let first : FirstWords there words bits = subst (λ l. FirstWords l words bits) (sym is) beside in (
            gone ∙ without_number there from r.place (subst Distinct (sym is) (listed_distinct numbers)) r.at,
            first_words_removed there words bits first from there' words' (take (length there' - 1) there') long (same-words ∙ long) r gone,
          )

      -- the seeker s, and what is left of the list
      module _ (s : Subgroup) (is-s : s ≡ subgroup_at sizes bits from) (left : List ℕ) (is-left : left ≡ but_one from there) where
        s_found : least smaller (keep (seeks threshold) (there_in numbers sizes bits)) ≡ some s
        s_found = seeker ∙ ap some (sym is-s)

        left_is : left ≡ but_one s.number (listed numbers)
        unfolding subgroup_at
        left_is = is-left ∙ ap (but_one from) is ∙ ap (λ u. but_one u.number (listed numbers)) (sym is-s)

        pub reads_left : (words : List ℕ) → FirstWords left words bits → Searchable left words sizes bits
        reads_left words beside = record {
          readable = readable sound.tables left (λ i m. (keep_mem (λ n. not (eqb n s.number)) (listed numbers) i (subst (Memᴰ i) left_is m)).0);
          rows = omega (arith, sound.tables.sizes_fit, sound.tables.bits_fit);
          first = beside;
        }

        -- what the search for its target found
        module _ (d : Option Candidate) (is-d : found_of d ≡ least comes_first (map (target_at sizes bits s.bits) left)) where
          among_left : found_of d ≡ least comes_first (map (target_at sizes bits s.bits) (but_one s.number (listed numbers)))
          among_left = is-d ∙ ap (λ l. least comes_first (map (target_at sizes bits s.bits) l)) left_is

          pub turn_without_target : d ≡ None → (l words : List ℕ) → Turn threshold false numbers sizes bits there numbers sizes bits l words heads
          turn_without_target q l words =
              stands (no_target threshold (there_in numbers sizes bits) s s_found
              (no_target_found sizes bits numbers threshold s s_found (sym among_left ∙ found_none d q))) l words

          module _ (y : Candidate) (q : d ≡ Some y) where
            abbrev to : ℕ
            to = y.number

            target : least (nearer s) (others s (there_in numbers sizes bits)) ≡ some (subgroup_at sizes bits to)
            target = target_found sizes bits numbers threshold s s_found y (sym among_left ∙ found_one d y q)

            pub target_row : InRow sizes bits to × (get_or sizes to 0 ≤ 2 ^ 53)
            unfolding subgroup_at
            target_row =
                let h = (target_is threshold (there_in numbers sizes bits) s s_found (subgroup_at sizes bits to) target (Standing numbers sizes bits) (standing numbers sizes bits)).0.inside in
                (in_row sound.tables to h, small_size sound.tables to h)

            module _ (t : Subgroup) (is-t : t ≡ subgroup_at sizes bits to) where
              t_found : least (nearer s) (others s (there_in numbers sizes bits)) ≡ some t
              t_found = target ∙ ap some (sym is-t)

              pub join_fits : Joinable s t numbers sizes bits
              join_fits = can_join numbers sizes bits threshold s t sound.tables s_found t_found

              number_of_seeker : s.number ≡ from
              unfolding subgroup_at
              number_of_seeker = ap (λ u. u.number) is-s

              number_of_target : t.number ≡ to
              unfolding subgroup_at
              number_of_target = ap (λ u. u.number) is-t

              -- what it asks to look through the blocks of the two again
              pub refresh_fits : (n z w : List ℕ) → JoinedTables s t numbers sizes bits n z w
                  → Exact z × (length z ≤ 4096) × (from < length z) × (to < length z) × (length z ≤ 16 * length heads)
              refresh_fits n z w after =
                  let fits = sizes_fit_all n z w (joined_sound s t numbers sizes bits join_fits n z w after sound) in
                  let long = joined_sizes s t numbers sizes bits join_fits n z w after in (
                    fits.0,
                    fits.1,
                    omega (arith, long, seeker_row.1.has_size),
                    omega (arith, long, target_row.0.has_size),
                    omega (arith, long, stand.all),
                  )

              -- what it asks to write the word beside the target again
              pub rewrite_fits : (n z w : List ℕ) → JoinedTables s t numbers sizes bits n z w
                  → Ascends left × Memᴰ to left × (to < 4096) × (4 * to < length w)
              rewrite_fits n z w after =
                  let tables = (joined_sound s t numbers sizes bits join_fits n z w after sound).tables in
                  let inside = join_fits.target.inside in
                  let same = joined_count s t numbers sizes bits join_fits n z w after in (
                    subst Ascends (sym left_is) (left_ascends numbers s.number),
                    subst (Memᴰ to) (sym left_is) (subst (λ k. Memᴰ k (but_one s.number (listed numbers))) number_of_target
                        (left_in numbers s.number t.number inside join_fits.target.still join_fits.apart)),
                    omega (arith, number_of_target, inside, sound.tables.count),
                    omega (arith, number_of_target, inside, same, tables.bits_fit),
                  )

              beside_after : (n z w words₁ words₂ : List ℕ) → JoinedTables s t numbers sizes bits n z w → FirstWords left words₁ bits
                  → Rewritten to left w words₁ words₂ → FirstWords (listed n) words₂ w
              beside_after n z w words₁ words₂ after beside again =
                  let gone : left ≡ listed n = left_is ∙ sym (listed_joined s t numbers sizes bits join_fits n z w after) in
                  subst (λ l. FirstWords l words₂ w) gone
                  (first_words_rewritten left words₁ bits beside to words₂ w (rewrite_fits n z w after).0 again
                  (λ i h o. first_word_kept s t numbers sizes bits join_fits n z w after sound (get_or left i 0)
                  (subst (Memᴰ (get_or left i 0)) left_is (get_or_mem left i 0 h)) (λ e. o (e ∙ number_of_target))))

              pub turn_with_join : (n z w l : List ℕ) → JoinedTables s t numbers sizes bits n z w → take (length there - 1) l ≡ left
                  → (words₁ words₂ : List ℕ) → FirstWords left words₁ bits → Rewritten to left w words₁ words₂
                  → (heads₁ heads₂ : List ℕ) → length heads₁ ≡ length heads → length heads₂ ≡ length heads₁
                  → Refreshed threshold z (from / 16) heads heads₁ → Refreshed threshold z (to / 16) heads₁ heads₂
                  → Turn threshold true numbers sizes bits there n z w l words₂ heads₂
              turn_with_join n z w l after short words₁ words₂ beside again heads₁ heads₂ long₁ long₂ at_from at-to =
                  let next = next_join_lem threshold (there_in numbers sizes bits) s s_found t t_found in
                  record {
                    answer = sym (ap makes_join next);
                    state = joined_state s t numbers sizes bits join_fits n z w after ∙ sym (ap (λ j. follow j (state_of numbers sizes bits) (λ m. m)) next);
                    sound = joined_sound s t numbers sizes bits join_fits n z w after sound;
                    list = λ m. short ∙ left_is ∙ sym (listed_joined s t numbers sizes bits join_fits n z w after);
                    beside = λ m. beside_after n z w words₁ words₂ after beside again;
                    heads = λ m. heads_after threshold s t numbers sizes bits join_fits n z w after heads heads₁ heads₂ stand long₁ long₂
                        (subst (λ k. Refreshed threshold z (k / 16) heads heads₁) (sym (number_of_seeker)) at_from)
                        (subst (λ k. Refreshed threshold z (k / 16) heads₁ heads₂) (sym (number_of_target)) at-to);
                  }

-- ---- turns one after the other

made : (j : Join) (m : Merging) (rest : Merging → Merging) → true ≡ makes_join j → follow j m rest ≡ rest (follow j m (λ m. m))
made stop m rest e = absurd (true≢false e)
made (joins s t) m rest e = refl

none_made : (j : Join) (m : Merging) (rest : Merging → Merging) → false ≡ makes_join j → follow j m rest ≡ m
none_made stop m rest e = refl
none_made (joins s t) m rest e = absurd (false≢true e)

module _ (threshold : Float) (n z b l n' z' b' l' words heads : List ℕ) where
  -- after a join there is one turn less to go
  pub turn_more : Turn threshold true n z b l n' z' b' l' words heads → (left : ℕ)
      → merge_steps left threshold (state_of n' z' b') ≡ merge_steps (suc left) threshold (state_of n z b)
  unfolding merge_steps
  turn_more turn left =
      ap (merge_steps left threshold) turn.state ∙ sym (made (next_join threshold (there_in n z b)) (state_of n z b) (merge_steps left threshold) turn.answer)

  -- without one the merge is done, however many turns are left
  pub turn_last : Turn threshold false n z b l n' z' b' l' words heads → (left : ℕ) → state_of n' z' b' ≡ merge_steps left threshold (state_of n z b)
  unfolding merge_steps
  turn_last turn zero = turn.state ∙ none_made (next_join threshold (there_in n z b)) (state_of n z b) (λ m. m) turn.answer
  turn_last turn (suc left) =
      turn.state
      ∙ none_made (next_join threshold (there_in n z b)) (state_of n z b) (λ m. m) turn.answer
      ∙ sym (none_made (next_join threshold (there_in n z b)) (state_of n z b) (merge_steps left threshold) turn.answer)

-- the list after a join, where its first `left` numbers were lent
pub list_less : (l part n : List ℕ) (left : ℕ) → left ≤ length l → length part ≡ length (take left l) → take (length (take left l) - 1) part ≡ listed n
    → take (left - 1) (part ++ drop left l) ≡ listed n
list_less l part n left h e q =
    let same : length (take left l) ≡ left = length-take-le left l h in
    take-append-le (left - 1) part (drop left l) (omega arith) ∙ ap (λ k. take (k - 1) part) (sym same) ∙ q
