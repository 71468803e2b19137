-- What condition 2 leaves: tables of the lengths that the counts imply; and with 1 and 10, answers whose pairs can be counted.
use Prim.Native.Nat.{ℕ, ◌+◌, ◌*◌, ◌≤◌}
use mathlib.Core.Bool.{false, ◌||◌, not}
use mathlib.Core.Path.{◌≡◌}
use native.Mathlib.Omega.{arith}
use borrow.Author.Tests.{leb-false}
use lib.Dec.{leb, eqb}
use lib.ListN.{length, get_or}
use Rattle.lists.proofs.Below.{neither, none_of}
use Rattle.refusal.specs.Counts.{module_limit, record_limit}
use Rattle.refusal.proofs.Lengths.{first_length as next, right_length as last}
use Rattle.records.specs.Bad.{RecordTables}
use Rattle.options.specs.Tables.{GroupTables}
use Rattle.grouping.specs.Given.{Given}
use Rattle.grouping.specs.Conditions.{count_above, bad_module_table, bad_record_table, bad_group_table, bad_table, bad_answer}
use Rattle.conditions.specs.HandsIn.{HasGroups}
use Rattle.sums.specs.Names.{AnswersWithin}
use Rattle.conditions.proofs.CountsLeft.{counts_passed}

pub record TablesPassed (b : Given) : Type 0 where
  pub flag_bytes : length b.variant.flags ≡ b.shared.n
  pub sizes : length b.shared.sizes ≡ b.shared.n
  pub orders : length b.shared.orders ≡ b.shared.n
  pub shares : length b.shared.shares ≡ b.shared.n
  pub tags : length b.shared.tags ≡ b.shared.n
  pub bits : length b.shared.bits ≡ 4 * b.shared.n
  pub offsets : length b.shared.offsets ≡ b.shared.n + 1
  pub records : b.shared.n ≤ module_limit → b.shared.d ≤ record_limit
      → RecordTables b.shared.first b.shared.dependency b.shared.next b.shared.n b.shared.d
  pub groups : HasGroups b.variant.groups b.variant.g
  pub answers : length b.variant.answers ≡ b.variant.g * b.shared.n

-- one length more that is right, and the tests after it
has_groups : (t : GroupTables) (g : ℕ) → bad_group_table t g ≡ false → HasGroups t g
unfolding bad_group_table
has_groups t g e i h =
    let a = next (length t.given) g _ e in
    let b = next (length t.min_size) g _ a.1 in
    let c = next (length t.max_size) g _ b.1 in
    let d = next (length t.min_module_size) g _ c.1 in
    let f = next (length t.max_module_size) g _ d.1 in
    let k = next (length t.min_share_count) g _ f.1 in
    let l = next (length t.tags) g _ k.1 in
    let m = next (length t.priority) g _ l.1 in
    let n = last (length t.threshold) g m.1 in
    record {
      given_in = omega (arith, a.0);
      min_size_in = omega (arith, b.0);
      max_size_in = omega (arith, c.0);
      min_module_size_in = omega (arith, d.0);
      max_module_size_in = omega (arith, f.0);
      min_share_count_in = omega (arith, k.0);
      tags_in = omega (arith, l.0);
      priority_in = omega (arith, m.0);
      threshold_in = omega (arith, n);
    }

module _ (b : Given) where
  record_tables : bad_record_table b ≡ false
      → (length b.shared.offsets ≡ b.shared.n + 1)
      × (b.shared.n ≤ module_limit → b.shared.d ≤ record_limit
      → RecordTables b.shared.first b.shared.dependency b.shared.next b.shared.n b.shared.d)
  unfolding bad_record_table
  record_tables e =
      let s = b.shared in
      let o = next (length s.offsets) (s.n + 1) _ e in
      let f = next (length s.first) s.n _ o.1 in
      let d = next (length s.dependency) (s.d + 1) _ f.1 in
      (o.0, λ few_modules few. record { few_modules = few_modules; few = few; firsts = f.0; modules = d.0; nexts = last (length s.next) (s.d + 1) d.1 })

  pub tables_passed : bad_table b ≡ false → TablesPassed b
  unfolding bad_table bad_module_table
  tables_passed e =
      let s = b.shared in
      let v = b.variant in
      let p = neither (bad_module_table b) (bad_record_table b || (bad_group_table v.groups v.g || not (eqb (length v.answers) (v.g * s.n)))) e in
      let q = neither (bad_record_table b) (bad_group_table v.groups v.g || not (eqb (length v.answers) (v.g * s.n))) p.1 in
      let r = neither (bad_group_table v.groups v.g) (not (eqb (length v.answers) (v.g * s.n))) q.1 in
      let f = next (length v.flags) s.n _ p.0 in
      let z = next (length s.sizes) s.n _ f.1 in
      let o = next (length s.orders) s.n _ z.1 in
      let h = next (length s.shares) s.n _ o.1 in
      let t = next (length s.tags) s.n _ h.1 in
      let w = record_tables q.0 in
      record {
        flag_bytes = f.0;
        sizes = z.0;
        orders = o.0;
        shares = h.0;
        tags = t.0;
        bits = last (length s.bits) (4 * s.n) t.1;
        offsets = w.0;
        records = w.1;
        groups = has_groups v.groups v.g r.0;
        answers = last (length v.answers) (v.g * s.n) r.1;
      }

  -- ---- answers

  -- what the count of pairs asks
  pub answers_within : count_above b ≡ false → bad_table b ≡ false → bad_answer b ≡ false
      → AnswersWithin b.variant.answers b.shared.n b.variant.g b.shared.k
  unfolding bad_answer
  answers_within counts tables answers =
      let c = counts_passed b counts in
      let t = tables_passed tables in
      record {
        whole = t.answers;
        modules = c.modules;
        groups = c.groups;
        names = c.names;
        named = λ j h.
            leb-false (b.shared.k + 2) (get_or b.variant.answers j 0)
            (none_of (λ i. leb (b.shared.k + 2) (get_or b.variant.answers i 0)) (b.variant.g * b.shared.n) answers j (omega (arith, t.answers)));
      }
