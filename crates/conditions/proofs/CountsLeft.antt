-- What condition 1 leaves: counts within their limits.
use Prim.Native.Nat.{ℕ, ◌≤◌}
use mathlib.Core.Bool.{Bool, false, ◌||◌}
use mathlib.Core.List.{[]}
use mathlib.Core.Path.{◌≡◌, refl, sym, ◌∙◌}
use borrow.Author.Tests.{ltb-false}
use lib.Dec.{ltb}
use Rattle.std.specs.Prelude.{None}
use Rattle.lists.proofs.Below.{neither}
use Rattle.refusal.specs.Counts.{module_limit, group_limit, entry_limit, name_limit, record_limit}
use Rattle.grouping.specs.Given.{Given}
use Rattle.grouping.specs.Conditions.{count_above}
use Rattle.conditions.specs.HandsIn.{HandsCounts, CountsWithin}

pub record CountsPassed (n g e k d : ℕ) : Type 0 where
  pub modules : n ≤ module_limit
  pub groups : g ≤ group_limit
  pub entries : e ≤ entry_limit
  pub names : k ≤ name_limit
  pub records : d ≤ record_limit

five : (n g e k d : ℕ) → (ltb module_limit n || (ltb group_limit g || (ltb entry_limit e || (ltb name_limit k || ltb record_limit d)))) ≡ false
    → CountsPassed n g e k d
five n g e k d h =
    let a = neither (ltb module_limit n) (ltb group_limit g || (ltb entry_limit e || (ltb name_limit k || ltb record_limit d))) h in
    let b = neither (ltb group_limit g) (ltb entry_limit e || (ltb name_limit k || ltb record_limit d)) a.1 in
    let c = neither (ltb entry_limit e) (ltb name_limit k || ltb record_limit d) b.1 in
    let f = neither (ltb name_limit k) (ltb record_limit d) c.1 in
    record {
      modules = ltb-false module_limit n a.0;
      groups = ltb-false group_limit g b.0;
      entries = ltb-false entry_limit e c.0;
      names = ltb-false name_limit k f.0;
      records = ltb-false record_limit d f.1;
    }

pub counts_passed : (b : Given) → count_above b ≡ false → CountsPassed b.shared.n b.variant.g b.shared.e b.shared.k b.shared.d
unfolding count_above
counts_passed b h = five b.shared.n b.variant.g b.shared.e b.shared.k b.shared.d h

-- a build of these counts that hands in nothing else
abbrev counts_only : ℕ → ℕ → ℕ → ℕ → ℕ → Given
counts_only n g e k d =
    record {
      shared =
          record {
            n = n;
            e = e;
            k = k;
            d = d;
            sizes = [];
            orders = [];
            shares = [];
            tags = [];
            bits = [];
            bytes = [];
            offsets = [];
            first = [];
            dependency = [];
            next = [];
            options =
                record {
                  min_size = None;
                  max_size = None;
                  min_module_size = None;
                  max_module_size = None;
                  min_share_count = None;
                  recursion = None;
                };
          };
      variant =
          record {
            flags = [];
            g = g;
            groups =
                record {
                  given = [];
                  min_size = [];
                  max_size = [];
                  min_module_size = [];
                  max_module_size = [];
                  min_share_count = [];
                  tags = [];
                  priority = [];
                  threshold = [];
                };
            answers = [];
          };
      on_entry = 0;
    }

-- what a test of the counts says where no more of the build is at hand
pub counts_within : (n g e k d : ℕ) (r : Bool) → ((b : Given) → HandsCounts b n g e k d → r ≡ count_above b) → r ≡ false → CountsWithin n g d
counts_within n g e k d r tests left =
    let hands : HandsCounts (counts_only n g e k d) n g e k d = record { modules = refl; groups = refl; entries = refl; names = refl; records = refl } in
    let passed = counts_passed (counts_only n g e k d) (sym (tests (counts_only n g e k d) hands) ∙ left) in
    record { modules = passed.modules; groups = passed.groups; records = passed.records }
