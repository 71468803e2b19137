-- The builds `spread` and `moved` meet all that the law `reordered` asks: they differ only in execution orders, both passed the tests, and
-- their two items hold the same modules, "a" and "z", and "m". So the law is not empty. By computation over the three modules.
use Prim.Native.Nat.{ℕ}
use mathlib.Core.List.Memᴰ
use mathlib.Core.List.{List, [], ◌∷◌, map, Memᴰ}
use mathlib.Core.Logic.{⊎_elim}
use mathlib.Core.Path.{◌≡◌, refl, sym, ap, ◌∙◌, subst}
use lib.Ieee.{of_int}
use lib.ListN.{length, length-map}
use Rattle.grouping.specs.Given.{Given}
use Rattle.grouping.specs.Item.{Item}
use Rattle.grouping.specs.Conditions.{count_above, bad_table, bad_id, shared_id, shared_order, bad_total, bad_dependency, bad_limit, bad_bit, bad_answer}
use Rattle.grouping.specs.OrderBuilds.{spread, moved}
use Rattle.settling.specs.Modules.{Passed, modules_at}
use Rattle.order_laws.specs.Reordering.{with_orders, items_named, SameModules, Matched, InStep}
use Rattle.order_laws.proofs.Reordered.{reordered}

-- ---- two builds that differ only in execution orders, and passed the tests

abbrev pub moved_orders : List ℕ
moved_orders = 2 ∷ 0 ∷ 1 ∷ []

pub only_orders : moved ≡ with_orders moved_orders spread
unfolding spread moved
only_orders = refl

pub spread_passed : Passed spread
unfolding spread count_above bad_table bad_id shared_id shared_order bad_total bad_dependency bad_limit bad_bit bad_answer of_int
spread_passed =
    record {
      counts = refl;
      tables = refl;
      ids = refl;
      ids_apart = refl;
      orders_apart = refl;
      total = refl;
      records = refl;
      limits = refl;
      bits = refl;
      answers = refl;
    }

pub moved_passed : Passed moved
unfolding moved count_above bad_table bad_id shared_id shared_order bad_total bad_dependency bad_limit bad_bit bad_answer of_int
moved_passed =
    record {
      counts = refl;
      tables = refl;
      ids = refl;
      ids_apart = refl;
      orders_apart = refl;
      total = refl;
      records = refl;
      limits = refl;
      bits = refl;
      answers = refl;
    }

-- ---- their items, by the modules that they hold

abbrev held : Given → Item → List ℕ
held b i = modules_at b i.places

-- in execution order: "z" before "a" here, and after it there
pub spread_items : map (held spread) (items_named spread 0 0) ≡ (2 ∷ 1 ∷ []) ∷ (0 ∷ []) ∷ []
unfolding spread items_named of_int
spread_items = refl

pub moved_items : map (held moved) (items_named moved 0 0) ≡ (1 ∷ 2 ∷ []) ∷ (0 ∷ []) ∷ []
unfolding moved items_named of_int
moved_items = refl

pub two_items : length (items_named spread 0 0) ≡ 2
two_items = sym (length-map (items_named spread 0 0) (held spread)) ∙ ap length spread_items

turned : {x y : ℕ} (m : ℕ) → Memᴰ m (x ∷ y ∷ []) → Memᴰ m (y ∷ x ∷ [])
turned m d = ⊎_elim (λ e. Memᴰ.tail (Memᴰ.head e)) (λ t. Memᴰ.head (Memᴰ.eq_of_singleton t)) (Memᴰ.cases_cons d)

-- items that hold x and y, and z, have partners where x and y are held in the other order
matched : (a b : Given) (l r : List Item) (x y z : ℕ) → map (held a) l ≡ (x ∷ y ∷ []) ∷ (z ∷ []) ∷ [] → map (held b) r ≡ (y ∷ x ∷ []) ∷ (z ∷ []) ∷ []
    → Matched a b l r
matched a b l r x y z e f i m =
    ⊎_elim
    (λ h. partner (x ∷ y ∷ []) (y ∷ x ∷ []) h (Memᴰ.head refl) turned turned)
    (λ t. partner (z ∷ []) (z ∷ []) (Memᴰ.eq_of_singleton t) (Memᴰ.tail (Memᴰ.head refl)) (λ k d. d) (λ k d. d))
    (Memᴰ.cases_cons (subst (Memᴰ (held a i)) e (Memᴰ.map (held a) m)))
  where
    partner : (s t : List ℕ) → held a i ≡ s → Memᴰ t ((y ∷ x ∷ []) ∷ (z ∷ []) ∷ [])
        → ((k : ℕ) → Memᴰ k s → Memᴰ k t) → ((k : ℕ) → Memᴰ k t → Memᴰ k s) → (j : Item) × Memᴰ j r × SameModules a b i j
    partner s t h d there back =
        let o = Memᴰ.of_map (held b) r (subst (Memᴰ t) (sym f) d) in
        let same : SameModules a b i o.0 =
        record {
          there = λ k u. subst (Memᴰ k) (sym o.2) (there k (subst (Memᴰ k) h u));
          back = λ k u. subst (Memᴰ k) (sym h) (back k (subst (Memᴰ k) o.2 u));
        } in
        (o.0, o.1, same)

pub there : Matched spread moved (items_named spread 0 0) (items_named moved 0 0)
there = matched spread moved _ _ 2 1 0 spread_items moved_items

pub back : Matched moved spread (items_named moved 0 0) (items_named spread 0 0)
back = matched moved spread _ _ 1 2 0 moved_items spread_items

-- what the law says of these two
pub in_step : InStep spread moved (items_named spread 0 0) (items_named moved 0 0)
in_step =
    subst (λ b. Passed b → Matched spread b (items_named spread 0 0) (items_named b 0 0) → Matched b spread (items_named b 0 0) (items_named spread 0 0)
    → InStep spread b (items_named spread 0 0) (items_named b 0 0))
    (sym only_orders) (reordered moved_orders spread 0 0 spread_passed) moved_passed there back
