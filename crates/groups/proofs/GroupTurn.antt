-- One group on its turn: what its names ask, and what they leave.
use Prim.Native.Nat.{ℕ, ◌≤◌}
use mathlib.Core.List.{List, foldl}
use mathlib.Core.Path.{◌≡◌, sym, ap, ◌∙◌, subst, subst₂}
use native.Mathlib.Omega.{arith}
use lib.Dec.{ltb}
use lib.ListN.{length, take}
use Rattle.lists.specs.Sort.{sort_by}
use Rattle.lists.proofs.Rearranged.{sort_length}
use Rattle.options.specs.declared.Settings.{Settings}
use Rattle.grouping.specs.Given.{Given}
use Rattle.grouping.specs.Tree.{tree_of}
use Rattle.settling.specs.Traversal.{names_of, after_name, after_group}
use Rattle.emitting.specs.Emitted.{Work}
use Rattle.items.specs.Turn.{Tables}
use Rattle.lists.specs.Area.{Holds}
use Rattle.matching.specs.Matched.{Matching, keys_of, Matchable}
use Rattle.matching.proofs.MatchedKeys.{keys_few}
use Rattle.sets.specs.OfBuild.{matching_of}
use Rattle.sets.proofs.Ready as ready
use Rattle.running.specs.Fits.{ItemFits, Walking}
use Rattle.running.specs.State.{Advance}
use Rattle.names.specs.Turn.{GroupFits, NamesTurned}
use Rattle.groups.specs.Turn.{Asked, OneFits, GroupTurned}
use Rattle.groups.proofs.GroupReady.{same_matching, same_matched}

-- what the group is matched by
abbrev pub matching_by : Tables → Settings → Asked → Matching
matching_by t r asked = record { filter = r.filter; answers = asked.answers; tags = asked.tags; sizes = t.sizes; shares = asked.shares }

-- its matched modules, by name
abbrev pub found_by : Tables → Walking → Settings → Asked → List ℕ
found_by t w r asked = sort_by ltb (keys_of (matching_by t r asked) w.order)

module _ {t : Tables} {w : Walking} {bits : List ℕ} {settings : Settings} {group : ℕ} {asked : Asked} where
  module _ (b : Given) (items : ItemFits b t bits) (fits : OneFits b w settings group asked) where
    matching_is : matching_by t settings asked ≡ matching_of b group
    matching_is = same_matching (ap (λ (r : Settings). r.filter) fits.settings_are) fits.answers fits.tags items.sizes fits.shares

    pub group_ready : (matched : List ℕ) → length w.order ≤ length matched → Matchable (matching_by t settings asked) w.order matched
    group_ready matched u =
        subst₂ (λ (m : Matching) (order : List ℕ). Matchable m order matched) (sym matching_is) (sym fits.walks.order)
        (ready.group_ready b items.passed group fits.inside (omega (arith, u, ap length fits.walks.order)))

    module _ {count : ℕ} {area : List ℕ} (held : Holds (found_by t w settings asked) count area) where
      pub found_few : count ≤ length w.order
      found_few =
          omega (
            arith,
            held.number,
            sort_length ltb (keys_of (matching_by t settings asked) w.order),
            keys_few (matching_by t settings asked) w.order,
          )

      pub group_fits : GroupFits b w settings group (take count area)
      group_fits =
          record {
            walks = fits.walks;
            inside = fits.inside;
            settings_are = fits.settings_are;
            matched_are = held.entries ∙ same_matched b group matching_is fits.walks.order;
          }

  -- the turns of its names are its turn
  pub group_turned : {count : ℕ} {area : List ℕ} → Holds (found_by t w settings asked) count area → {number at made : ℕ} {entry exit : Work}
      → NamesTurned t w bits settings group (take count area) number at made entry exit → GroupTurned t w bits settings group asked number at made entry exit
  unfolding after_group
  group_turned held {number} {at} {made} {entry} {exit} turned =
      record {
        advance = λ b start items fits.
            subst (λ (r : Settings).
            Advance b start (λ chunks. foldl (after_name r group (tree_of b)) chunks (names_of b.shared.k r group (tree_of b))) number at made entry exit)
            fits.settings_are (turned.advance b start items (group_fits b items fits held));
      }
