-- The turn of one set: as an item, or as its subgroups if the group is entries-aware.
use Prim.Native.Nat.{ℕ, ◌≤◌}
use mathlib.Core.Bool.{Bool, true, false}
use mathlib.Core.List.{List}
use mathlib.Core.Option.{none}
use mathlib.Core.Path.{◌≡◌, refl, sym, subst}
use lib.ListN.{length}
use Rattle.lists.specs.Sort.{sort_by, insert_by}
use Rattle.bitset.specs.declared.entries.BitSet.{BitSet}
use Rattle.options.specs.declared.Settings.{Settings}
use Rattle.emitting.specs.declared.emit.Head.{Head}
use Rattle.emitting.specs.Emitted.{Work}
use Rattle.grouping.specs.WorkList.{items_of_set}
use Rattle.settling.specs.Modules.{modules_at}
use Rattle.settling.specs.Traversal.{in_turn}
use Rattle.items.specs.declared.convert.Limits.{Limits}
use Rattle.left.specs.Untaken.{untaken, Listed}
use Rattle.pieces.specs.Chunks.{Converted}
use Rattle.items.specs.Turn.{Tables, emitted_from, ItemReady}
use Rattle.running.specs.Turns.{SetTurning, SetTurned}
use Rattle.running.proofs.ItemTurn.{turn_ready, turn_advances}
use Rattle.names.specs.Turn.{SetOffered, SetTaken}

-- the head of a set that is one item, and the limits of its group
abbrev head_of : ℕ → ℕ → BitSet → Head
head_of group name own = record { group = group; name = name; entries_aware = false; bits = own }

abbrev limits_of : Settings → Limits
limits_of settings = record { minimum = settings.min_size; maximum = settings.max_size }

module _ {t : Tables} {bits : List ℕ} {number at : ℕ} {now : Work} {set : List ℕ} where
  -- ---- what an item asks

  module _ {aware : Bool} (s : SetOffered t bits aware number at now set) where
    pub set_item_ready : ItemReady t bits (untaken now.chunk_of set) now number at
    set_item_ready =
        let u = s.turning in
        subst (λ (l : List ℕ). ItemReady t bits l now number at) (sym s.stands.left)
        (turn_ready u.b t bits u.fits u.start number at now u.begun s.places (modules_at u.b s.places) s.placed refl u.small)

    pub set_listed : {members : List ℕ} → length set ≤ length members → Listed now.chunk_of set members
    set_listed h = record { numbered = s.numbered; space = h }

    -- a set that is divided is there whole
    pub set_whole : aware ≡ true → SetTurning t bits number at now set
    set_whole e = record { turning = s.turning; places = s.places; placed = s.placed; are = s.stands.whole e }

  -- ---- what is left

  module _ (settings : Settings) (group name : ℕ) {count : ℕ} {after : Work} where
    -- a set that is one item
    pub item_turned : (own : BitSet) → settings.entries_aware ≡ false
        → Converted (emitted_from t (head_of group name own) (limits_of settings) (untaken now.chunk_of set)) bits number at count now after
        → SetTaken t bits settings.entries_aware set
        (λ tree places. in_turn tree (items_of_set settings.entries_aware settings group name tree places)) number at count now after
    unfolding in_turn sort_by insert_by
    item_turned own off c =
        subst
        (λ (by : Bool). SetTaken t bits settings.entries_aware set (λ tree places. in_turn tree (items_of_set by settings group name tree places)) number at count now after)
        (sym off)
        (record {
          advance = λ b start places fits placed stands.
              turn_advances b t bits fits start number at now
              (record { group = group; name = name; subgroup = 0; settings = settings; bits = none; places = places }) placed (head_of group name own)
              (record { group = refl; name = refl; bits = refl }) (limits_of settings) (record { minimum = refl; maximum = refl }) (modules_at b places) refl
              count after
              (subst (λ (l : List ℕ). Converted (emitted_from t (head_of group name own) (limits_of settings) l) bits number at count now after)
              stands.left c);
        })

    -- a set that is divided
    pub divided_turned : settings.entries_aware ≡ true
        → SetTurned t bits set (λ tree places. in_turn tree (items_of_set true settings group name tree places)) number at count now after
        → SetTaken t bits settings.entries_aware set
        (λ tree places. in_turn tree (items_of_set settings.entries_aware settings group name tree places)) number at count now after
    divided_turned on s =
        subst
        (λ (by : Bool). SetTaken t bits settings.entries_aware set (λ tree places. in_turn tree (items_of_set by settings group name tree places)) number at count now after)
        (sym on) (record { advance = λ b start places fits placed stands. s.advance b start places fits placed (stands.whole on) })
