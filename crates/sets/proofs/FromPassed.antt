-- What the tests have shown of a build: there are few places, and the tables have the lengths that the counts imply.
use Prim.Native.Nat.{ℕ, ◌+◌, ◌*◌, ◌≤◌, ◌<◌, ◌^◌}
use mathlib.Core.Bool.{Bool, true, not}
use mathlib.Core.List.Memᴰ
use mathlib.Core.List.{map}
use mathlib.Core.Path.{◌≡◌, sym, subst}
use native.Mathlib.Nat.{suc-mul, mul-le-mul_right}
use native.Mathlib.Omega.{arith}
use borrow.Author.Tests.{ltb-false, leb-false}
use lib.Dec.{ltb, leb}
use lib.ListN.{length, get_or, drop, length-drop}
use lib.Seq.{length-take-le}
use Rattle.lists.specs.Keep.{keep}
use Rattle.lists.specs.Range.{range}
use Rattle.lists.specs.Sum.{sum}
use Rattle.lists.proofs.Below.{neither, both, none_of}
use Rattle.lists.proofs.KeepLength.{keep_le}
use Rattle.lists.proofs.Members.{mem_keep, mem_range}
use Rattle.lists.proofs.Position.{mem_get_or}
use Rattle.lists.proofs.Range.{length_range}
use Rattle.lists.proofs.SumChanged.{one_of_sum}
use Rattle.lists.proofs.Rearranged.{sort_length}
use Rattle.refusal.specs.Counts.{module_limit, group_limit, entry_limit, name_limit, record_limit}
use Rattle.refusal.proofs.Lengths.{first_length as next, right_length as last}
use Rattle.whole.specs.Total.{total_limit, total_exceeds}
use Rattle.flags.specs.Flags.{listed, assigned, eligible, eligible_at}
use Rattle.records.specs.Bad.{RecordTables}
use Rattle.grouping.specs.Given.{Given, is_listed, is_eligible}
use Rattle.grouping.specs.Tree.{places_of, runs_before}
use Rattle.grouping.specs.Conditions.{count_above, bad_module_table, bad_record_table, bad_group_table, bad_table, bad_total, bad_answer}
use Rattle.settling.specs.Modules.{Passed}
use Rattle.matching.specs.Matched.{Readable}
use Rattle.sets.specs.OfBuild.{answers_of, matching_of}
use Rattle.sets.proofs.TakesAt.{answer_at}

-- one length that is right, and the tests after it
module _ (b : Given) (ok : Passed b) where
  pub modules_few : b.shared.n ≤ 4096
  unfolding count_above
  modules_few = ltb-false module_limit b.shared.n (neither (ltb module_limit b.shared.n) _ ok.counts).0

  pub places_few : length (places_of b) ≤ 4096
  unfolding places_of
  places_few =
      omega (
        arith,
        modules_few,
        sort_length (runs_before b) (keep (is_eligible b) (range 0 b.shared.n)),
        keep_le (is_eligible b) (range 0 b.shared.n),
        length_range 0 b.shared.n,
      )

  module_tables : (length b.variant.flags ≡ b.shared.n)
      × (length b.shared.sizes ≡ b.shared.n)
      × (length b.shared.shares ≡ b.shared.n)
      × (length b.shared.tags ≡ b.shared.n)
  unfolding bad_table bad_module_table
  module_tables =
      let s = b.shared in
      let f = next (length b.variant.flags) s.n _ (neither (bad_module_table b) _ ok.tables).0 in
      let z = next (length s.sizes) s.n _ f.1 in
      let o = next (length s.orders) s.n _ z.1 in
      let c = next (length s.shares) s.n _ o.1 in
      (f.0, z.0, c.0, (next (length s.tags) s.n _ c.1).0)

  pub flag_bytes : length b.variant.flags ≡ b.shared.n
  flag_bytes = module_tables.0

  -- condition 1: modules, names and records
  counts_few : (b.shared.n ≤ 4096) × (b.shared.k ≤ 65535) × (b.shared.d ≤ 65535)
  unfolding count_above
  counts_few =
      let modules = neither (ltb module_limit b.shared.n) _ ok.counts in
      let entries = (neither (ltb group_limit b.variant.g) _ modules.1).1 in
      let names = (neither (ltb entry_limit b.shared.e) _ entries).1 in
      let records = neither (ltb name_limit b.shared.k) _ names in (
        ltb-false module_limit b.shared.n modules.0,
        ltb-false name_limit b.shared.k records.0,
        ltb-false record_limit b.shared.d records.1,
      )

  pub record_tables : RecordTables b.shared.first b.shared.dependency b.shared.next b.shared.n b.shared.d
  unfolding bad_table bad_record_table
  record_tables =
      let s = b.shared in
      let o = next (length s.offsets) (s.n + 1) _ (neither (bad_record_table b) _ (neither (bad_module_table b) _ ok.tables).1).0 in
      let f = next (length s.first) s.n _ o.1 in
      let d = next (length s.dependency) (s.d + 1) _ f.1 in
      record { few_modules = counts_few.0; few = counts_few.2; firsts = f.0; modules = d.0; nexts = last (length s.next) (s.d + 1) d.1 }

  -- ---- the answers

  answers_length : length b.variant.answers ≡ b.variant.g * b.shared.n
  unfolding bad_table
  answers_length =
      let r = (neither (bad_record_table b) _ (neither (bad_module_table b) _ ok.tables).1).1 in
      last (length b.variant.answers) (b.variant.g * b.shared.n) (neither (bad_group_table b.variant.groups b.variant.g) _ r).1

  module _ (g : ℕ) (h : g < b.variant.g) where
    row_fits : g * b.shared.n + b.shared.n ≤ b.variant.g * b.shared.n
    row_fits = subst (λ (k : ℕ). k ≤ b.variant.g * b.shared.n) (suc-mul g b.shared.n) (mul-le-mul_right b.shared.n h)

    row_length : length (answers_of b g) ≡ b.shared.n
    row_length =
        length-take-le b.shared.n (drop (g * b.shared.n) b.variant.answers)
        (omega (arith, row_fits, answers_length, length-drop (g * b.shared.n) b.variant.answers))

    -- condition 10: a name is below K
    pub answer_below : (m : ℕ) → m < b.shared.n → get_or (answers_of b g) m 0 < b.shared.k + 2
    unfolding bad_answer
    answer_below m l =
        let i = g * b.shared.n + m in
        let above : ℕ → Bool = λ i. leb (b.shared.k + 2) (get_or b.variant.answers i 0) in
        let e = none_of above (b.variant.g * b.shared.n) ok.answers i (omega (arith, row_fits)) in
        subst (λ (a : ℕ). a < b.shared.k + 2) (sym (answer_at b g m l)) (leb-false (b.shared.k + 2) (get_or b.variant.answers i 0) e)

    -- condition 6: no size is above the limit of the total
    size_whole : (m : ℕ) → m < b.shared.n → is_eligible b m ≡ true → get_or b.shared.sizes m 0 ≤ 2 ^ 53
    unfolding bad_total total_exceeds eligible_at eligible
    size_whole m l e =
        let size : ℕ → ℕ = λ k. get_or b.shared.sizes k 0 in
        let sizes = map size (keep (is_listed b) (range 0 b.shared.n)) in
        let f = get_or b.variant.flags m 0 in
        let i = mem_keep (is_listed b) m (mem_range 0 b.shared.n m (omega arith) (omega arith)) (both (listed f) (not (assigned f)) e).0 in
        let o = mem_get_or 0 (Memᴰ.map size i) in
        let w = one_of_sum sizes o.0 o.1 in
        omega (arith, w, o.2, ltb-false total_limit (sum sizes) ok.total)

    pub readable : (m : ℕ) → m < b.shared.n → is_eligible b m ≡ true → Readable (matching_of b g) m
    readable m l e = record {
      answered = omega (arith, row_length);
      tagged = omega (arith, module_tables.3);
      sized = omega (arith, module_tables.1);
      shared = omega (arith, module_tables.2);
      whole = size_whole m l e;
      name = omega (arith, answer_below m l, counts_few.1);
    }
