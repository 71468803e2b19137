-- The tests of the call, in its order: which number each condition gives once those before it do not apply, and what is known once none does.
use Prim.Native.Nat.{◌*◌, ◌≤◌}
use mathlib.Core.Bool.{Bool, true, false, ◌||◌}
use mathlib.Core.Path.{◌≡◌, refl}
use borrow.Author.Tests.{ltb-false}
use lib.Dec.{ltb}
use lib.Ieee.{is_nan}
use lib.ListN.{length}
use Rattle.lists.proofs.Below.{neither}
use Rattle.refusal.specs.Outcome.{refused, ascending}
use Rattle.refusal.specs.Answers.{refusal_number}
use Rattle.refusal.specs.declared.Refusal.{Refusal}
use Rattle.refusal.specs.declared.Refusal.TheVariants as refusal
use Rattle.std.specs.Prelude.Result.{Ok, Err}
use Rattle.refusal.specs.Counts.{module_limit, entry_limit, bad_length}
use Rattle.refusal.proofs.Lengths.{right_length, first_length}
use Rattle.refusal.proofs.Calls.{refuses_call, accepts_call}
use Rattle.refusal.proofs.Ladder.{Row, none_applies, applies, passes, row}
use Rattle.whole.specs.Total.{total_exceeds}
use Rattle.whole.proofs.Total as total
use Rattle.bitset.specs.Entries.{any_beyond}
use Rattle.merge.specs.Call.{Given, Areas, merge_tests, merge_outcome, written, Ready, MergeCall}

-- the numbers ascend, so that the number answered is the lowest that applies
pub tests_ascend : (g : Given) (a : Areas) → ascending (merge_tests g a) ≡ true
unfolding merge_tests ascending
tests_ascend g a = refl

module _ (g : Given) (a : Areas) where
  refuses : (e : Refusal) → Row {A = Unit {0}} tt (merge_tests g a) (refused (refusal_number e)) → MergeCall g (Err e) a a
  unfolding merge_outcome
  refuses e r = refuses_call a (row r)

  -- ---- the conditions that have several parts

  abbrev pub bad_1 : Bool
  bad_1 = ltb module_limit g.k || ltb entry_limit g.entries

  abbrev pub bad_2 : Bool
  bad_2 = bad_length g.sizes g.k || bad_length g.bits (4 * g.k)

  abbrev pub bad_12 : Bool
  bad_12 = ltb (length a.numbers) g.k || (ltb (length a.sizes) g.k || ltb (length a.bits) (4 * g.k))

  -- ---- one test after the other

  pub refuses_1 : bad_1 ≡ true → MergeCall g (Err refusal.Count) a a
  unfolding merge_tests
  refuses_1 e = refuses refusal.Count (applies e)

  module _ (p1 : bad_1 ≡ false) where
    pub few : g.k ≤ module_limit
    few = ltb-false module_limit g.k (neither (ltb module_limit g.k) (ltb entry_limit g.entries) p1).0

    pub refuses_2 : bad_2 ≡ true → MergeCall g (Err refusal.Length) a a
    unfolding merge_tests
    refuses_2 e = refuses refusal.Length (passes p1 (applies e))

    module _ (p2 : bad_2 ≡ false) where
      fit : (length g.sizes ≡ g.k) × (bad_length g.bits (4 * g.k) ≡ false)
      fit = first_length (length g.sizes) g.k _ p2

      pub sizes_fit : length g.sizes ≡ g.k
      sizes_fit = fit.0

      pub bits_fit : length g.bits ≡ 4 * g.k
      bits_fit = right_length (length g.bits) (4 * g.k) fit.1

      pub refuses_6 : total_exceeds g.sizes ≡ true → MergeCall g (Err refusal.Total) a a
      unfolding merge_tests
      refuses_6 e = refuses refusal.Total (passes p1 (passes p2 (applies e)))

      module _ (p6 : total_exceeds g.sizes ≡ false) where
        pub refuses_8 : is_nan g.threshold ≡ true → MergeCall g (Err refusal.Nan) a a
        unfolding merge_tests
        refuses_8 e = refuses refusal.Nan (passes p1 (passes p2 (passes p6 (applies e))))

        module _ (p8 : is_nan g.threshold ≡ false) where
          pub refuses_9 : any_beyond g.entries g.bits g.k ≡ true → MergeCall g (Err refusal.Bit) a a
          unfolding merge_tests
          refuses_9 e = refuses refusal.Bit (passes p1 (passes p2 (passes p6 (passes p8 (applies e)))))

          module _ (p9 : any_beyond g.entries g.bits g.k ≡ false) where
            pub refuses_12 : bad_12 ≡ true → MergeCall g (Err refusal.Area) a a
            unfolding merge_tests
            refuses_12 e = refuses refusal.Area (passes p1 (passes p2 (passes p6 (passes p8 (passes p9 (applies e))))))

            -- ---- none applies
            module _ (p12 : bad_12 ≡ false) where
              pub ready : Ready g.k g.sizes g.bits a
              ready =
                  let rooms = neither (ltb (length a.numbers) g.k) (ltb (length a.sizes) g.k || ltb (length a.bits) (4 * g.k)) p12 in
                  let two = neither (ltb (length a.sizes) g.k) (ltb (length a.bits) (4 * g.k)) rooms.1 in
                  record {
                    count = few;
                    sizes_fit = sizes_fit;
                    bits_fit = bits_fit;
                    exact = total.accepted g.sizes p6;
                    numbers_room = ltb-false (length a.numbers) g.k rooms.0;
                    sizes_room = ltb-false (length a.sizes) g.k two.0;
                    bits_room = ltb-false (length a.bits) (4 * g.k) two.1;
                  }

              pub done : (after : Areas) → after ≡ written g a → MergeCall g (Ok tt) a after
              unfolding merge_outcome merge_tests
              done after e = accepts_call (row (passes p1 (passes p2 (passes p6 (passes p8 (passes p9 (passes p12 none_applies))))))) (λ _. e)
