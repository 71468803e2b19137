-- What is read in the areas that an accepted call has written: below N the entries of the modules, below the count the records of the
-- chunks. What lies past them does not matter.
use Prim.Native.Nat.{ℕ, ◌+◌, ◌*◌, ◌≤◌, ◌<◌}
use mathlib.Core.List.{List, [], ◌++◌, map, Memᴰ}
use mathlib.Core.Path.{◌≡◌, ap, ◌∙◌}
use native.Mathlib.Nat.{zero-add}
use native.Mathlib.Omega.{arith}
use lib.ListN.{length, get_or, take, drop, length-map, length-drop, get_or-append, get_or-map}
use lib.Seq.{take-append-le, drop-append-le}
use Rattle.lists.specs.Range.{range}
use Rattle.lists.specs.Area.{placed}
use Rattle.lists.proofs.Range.{length_range, get_or_range}
use Rattle.lists.proofs.Map.{get_or_map_below}
use Rattle.whole.specs.Double.{to_f64}
use Rattle.bitset.specs.Entries.{row_of}
use Rattle.bitset.specs.declared.entries.BitSet.{BitSet}
use Rattle.bitset.proofs.Rows.{words_count}
use Rattle.grouping.specs.Given.{Given, Areas}
use Rattle.grouping.specs.Tree.{places_of}
use Rattle.grouping.specs.ChunkList.{Chunk, chunk_list}
use Rattle.grouping.specs.Written.{modules_from, members_of, chunk_number, next_module, first_module, bit_words, written_modules, written_records, written}
use Rattle.grouping_laws.proofs.Accepted.{Sound}
use Rattle.grouping_laws.proofs.ChunkBits.{four_words}

-- an entry of an image of the numbers below n, and of an image of a list, in front of what was there
range_read : {A : Type 0} (f : ℕ → A) (n : ℕ) (tail : List A) (i : ℕ) (d : A) → i < n → get_or (map f (range 0 n) ++ tail) i d ≡ f i
range_read f n tail i d h =
    let within : i < length (range 0 n) = rw (length_range 0 n) h in
    get_or-append (map f (range 0 n)) tail d i (rw (length-map (range 0 n) f) within)
    ∙ get_or_map_below f (range 0 n) i d 0 within
    ∙ ap f (get_or_range 0 n i 0 h ∙ zero-add i)

map_read : {A B : Type 0} (f : A → B) (l : List A) (before : List B) (i : ℕ) (d : B) → i < length l
    → get_or (placed 0 (map f l) before) i d ≡ get_or (map f l) i d
map_read f l before i d h = get_or-append (map f l) (drop (0 + length (map f l)) before) d i (rw (length-map l f) h)

words_length : (chunks : List Chunk) → ((c : Chunk) → Memᴰ c chunks → length c.bits.words ≡ 4) → length (bit_words chunks) ≡ 4 * length chunks
unfolding bit_words
words_length = words_count (λ c. c.bits.words)

row_read : (table tail : List ℕ) (k : ℕ) → 4 * k + 4 ≤ length table → row_of (table ++ tail) k ≡ row_of table k
unfolding row_of
row_read table tail k h =
    ap {B = BitSet} (λ (words : List ℕ). record { words = words })
    (ap (take 4) (drop-append-le (4 * k) table tail (omega arith))
    ∙ take-append-le 4 (drop (4 * k) table) tail (simp length-drop (omega arith)))

members_length : (b : Given) → length (members_of b) ≡ length (chunk_list b)
unfolding members_of
members_length b = length-map (chunk_list b) (λ c. modules_from 0 c.places (places_of b))

module _ (b : Given) (before : Areas) where
  pub chunk_read : (m : ℕ) → m < b.shared.n → get_or (written 0 b before).modules.chunk_of m 0 ≡ chunk_number b.on_entry m (members_of b)
  unfolding written written_modules written_records
  chunk_read m h = range_read (λ m. chunk_number b.on_entry m (members_of b)) b.shared.n (drop b.shared.n before.modules.chunk_of) m 0 h

  pub next_read : (m : ℕ) → m < b.shared.n → get_or (written 0 b before).modules.next_of m 0 ≡ next_module m (members_of b)
  unfolding written written_modules written_records
  next_read m h = range_read (λ m. next_module m (members_of b)) b.shared.n (drop b.shared.n before.modules.next_of) m 0 h

  module _ (k : ℕ) (h : k < length (chunk_list b)) where
    pub first_read : get_or (written 0 b before).records.first_of k 0 ≡ first_module (get_or (members_of b) k [])
    unfolding written written_modules written_records
    first_read =
        map_read first_module (members_of b) before.records.first_of k 0 (rw (members_length b) h)
        ∙ get_or-map first_module (members_of b) k []

    pub group_read_lem : get_or (written 0 b before).records.group_of k 0 ≡ get_or (map (λ c. c.group) (chunk_list b)) k 0
    unfolding written written_modules written_records
    group_read_lem = map_read (λ c. c.group) (chunk_list b) before.records.group_of k 0 h

    pub name_read : get_or (written 0 b before).records.name_of k 0 ≡ get_or (map (λ c. c.name) (chunk_list b)) k 0
    unfolding written written_modules written_records
    name_read = map_read (λ c. c.name) (chunk_list b) before.records.name_of k 0 h

    pub size_read : get_or (written 0 b before).records.size_of k (to_f64 0) ≡ get_or (map (λ c. c.size) (chunk_list b)) k (to_f64 0)
    unfolding written written_modules written_records
    size_read = map_read (λ c. c.size) (chunk_list b) before.records.size_of k (to_f64 0) h

    pub mark_read : get_or (written 0 b before).records.mark_of k 0 ≡ get_or (map (λ c. c.mark) (chunk_list b)) k 0
    unfolding written written_modules written_records
    mark_read = map_read (λ c. c.mark) (chunk_list b) before.records.mark_of k 0 h

    pub bits_read : Sound b → row_of (written 0 b before).records.bits_of k ≡ row_of (bit_words (chunk_list b)) k
    unfolding written written_modules written_records
    bits_read s =
        row_read (bit_words (chunk_list b)) (drop (0 + length (bit_words (chunk_list b))) before.records.bits_of) k
        (omega (arith, words_length (chunk_list b) (four_words b s)))
