-- Modules in id order are the same modules: what each module has it still has, and their sizes add to the same total.
use Prim.Native.Nat.{ℕ, ◌+◌, ◌*◌, ◌≤◌, ◌<◌}
use mathlib.Core.List.Permᴰ
use mathlib.Core.List.{List, map, map-map, map-id, Permᴰ, Memᴰ}
use mathlib.Core.Path.{◌≡◌, sym, ◌∙◌, subst}
use native.Mathlib.Omega.{arith}
use lib.Dec.{ltb}
use lib.ListN.{length, get_or}
use Rattle.lists.specs.Packed.{item_of}
use Rattle.lists.specs.Sort.{sort_by}
use Rattle.lists.specs.Sum.{sum}
use Rattle.lists.proofs.Members.{map_same}
use Rattle.lists.proofs.Packed.{item_packed}
use Rattle.lists.proofs.Position.{mem_get_or, get_or_mem}
use Rattle.lists.proofs.Rearranged.{perm_mem, perm_length, sort_perm}
use Rattle.lists.proofs.Sum.{sum_perm}
use Rattle.whole.specs.Double.{sum_f64}
use Rattle.whole.proofs.Exact.{sum_any_order}
use Rattle.cut.specs.Order.{sizes_in, Cuttable}
use Rattle.oversized.specs.InOrder.{ranked, by_rank, Ranked}
use Rattle.emitting.specs.Emitted.{Work, Room}

-- what holds of the element at each position holds of it in another order
pub perm_each : (P : ℕ → Type 0) {l m : List ℕ} → Permᴰ l m → ((i : ℕ) → i < length l → P (get_or l i 0)) → (i : ℕ) → i < length m → P (get_or m i 0)
perm_each P {l} {m} d h i b =
    let o = mem_get_or 0 (perm_mem (Permᴰ.symm d) (get_or m i 0) (get_or_mem m i 0 b)) in
    subst P o.2 (h o.0 o.1)

pub rank_perm : (rank l : List ℕ) → Ranked rank l → Permᴰ l (by_rank rank l)
unfolding by_rank
rank_perm rank l r = subst (λ (k : List ℕ). Permᴰ k (map item_of (sort_by ltb keys))) back (Permᴰ.map item_of (sort_perm ltb keys))
  where
    keys : List ℕ
    keys = map (ranked rank) l

    small : (m : ℕ) → Memᴰ m l → m < 4096
    small m i = let o = mem_get_or 0 i in subst (λ (k : ℕ). k < 4096) o.2 (r.small o.0 o.1)

    back : map item_of keys ≡ l
    back = map-map item_of (ranked rank) l ∙ map_same (λ m. item_of (ranked rank m)) (λ m. m) l (λ m i. item_packed (get_or rank m 0) m (small m i)) ∙ map-id l

module _ {l m : List ℕ} (d : Permᴰ l m) where
  sum_same : (sizes : List ℕ) → sum (sizes_in sizes l) ≡ sum (sizes_in sizes m)
  sum_same sizes = sum_perm ∣ Permᴰ.map (λ k. get_or sizes k 0) d ∣₁

  pub perm_cuttable : {bytes offsets sizes : List ℕ} → Cuttable bytes offsets sizes l → Cuttable bytes offsets sizes m
  perm_cuttable {bytes} {offsets} {sizes} t =
      record {
        sized =
            record {
              has_size = perm_each (λ k. k < length sizes) d t.sized.has_size;
              exact = omega (arith, t.sized.exact, sum_same sizes);
            };
        named = record { good = t.named.good; has_id = perm_each (λ k. k + 1 < length offsets) d t.named.has_id };
      }

  pub perm_total : {bytes offsets sizes : List ℕ} → Cuttable bytes offsets sizes l → sum_f64 (sizes_in sizes l) ≡ sum_f64 (sizes_in sizes m)
  perm_total {sizes = sizes} t = sum_any_order ∣ Permᴰ.map (λ k. get_or sizes k 0) d ∣₁ t.sized.exact

  pub perm_room : {bits : List ℕ} {w : Work} {at : ℕ} → Room bits l w at → Room bits m w at
  perm_room {bits} {w} r =
      record {
        groups = r.groups;
        names = r.names;
        sizes = r.sizes;
        words = r.words;
        marks = r.marks;
        numbered = perm_each (λ k. k < length w.chunk_of) d r.numbered;
        has_bits = perm_each (λ k. 4 * k + 4 ≤ length bits) d r.has_bits;
      }

  pub perm_long : length m ≡ length l
  perm_long = sym (perm_length d)
