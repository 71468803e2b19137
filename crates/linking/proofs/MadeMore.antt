-- The areas between the items: at the start no chunk is made, and chunks that are emitted are chunks that are made.
use Prim.Native.Nat.{ℕ, ◌+◌, ◌*◌, ◌≤◌, ◌<◌}
use mathlib.Core.Bool.{false, cond}
use mathlib.Core.List.Memᴰ
use mathlib.Core.List.{List, [], ◌∷◌, ◌++◌, map, map-append, Memᴰ}
use mathlib.Core.Logic.{◌⊎◌, inl, inr, ⊎_elim}
use mathlib.Core.Path.{◌≡◌, sym, ap, ap₂, ◌∙◌, subst}
use native.Mathlib.Omega.{arith}
use lib.Dec.{eqb}
use lib.ListN.{length, get_or, drop, length-map}
use Rattle.lists.specs.Elem.{elem}
use Rattle.lists.proofs.Distinct.{Distinct}
use Rattle.lists.proofs.Pairs.{pairs_across}
use Rattle.lists.proofs.Sort.{Pairs, none, more}
use Rattle.grouping.specs.Given.{Given}
use Rattle.grouping.specs.Tree.{places_of}
use Rattle.grouping.specs.ChunkList.{Chunk}
use Rattle.grouping.specs.Written.{chunk_number, bit_words}
use Rattle.lists.specs.Area.{placed}
use Rattle.grouping_laws.proofs.ChunkPlaces.{Apart}
use Rattle.emitting.specs.Emitted.{Work, Emission, with_chunks}
use Rattle.emitting.proofs.Chunks.{chunks_lengths}
use Rattle.emitting.proofs.Numbers as emissions
use Rattle.emitting.proofs.RecordsRead.{groups_read, names_read, sizes_read, marks_read, words_read}
use Rattle.linking.specs.Made.{modules_of, modules_of_each, Fresh, Made, AllMatch, HasRoom, none, more}
use Rattle.lists.proofs.Elem.{not_elem}
use Rattle.linking.proofs.Found.{none_number}
use Rattle.linking.proofs.PerModule.{module_rest, per_module_lem}
use Rattle.lists.proofs.Placed.{placed_none, placed_length, placed_more}
use Rattle.linking.proofs.PastModules.{chunks_rest}
use Rattle.linking.proofs.BitWords.{words_count, words_append}
use Rattle.linking.proofs.MadeRead.{made_long, made_number}
use Rattle.linking.proofs.ChunkModules.{chunk_module, modules_apart}
use Rattle.linking.proofs.MoreChunks.{
  number_append,
  number_or,
  other_number,
  matched_numbers,
  matched_map,
  matched_count,
  matched_words,
  matched_of_lem,
  matched_four,
}

pairs_right : {A : Type 0} {R : A → A → Type 0} (s : List A) {t : List A} → Pairs R (s ++ t) → Pairs R t
pairs_right [] p = p
pairs_right (x ∷ s) (more h p) = pairs_right s p

-- ---- no chunk is made

pub made_start : (b : Given) (at : ℕ) {before now : Work} → Fresh b before now → Made b at [] before now
unfolding chunk_number bit_words
made_start b at {before} {now} f = record {
  numbers = f.numbers;
  groups = f.groups ∙ sym (placed_none at before.group_of);
  names = f.names ∙ sym (placed_none at before.name_of);
  sizes = f.sizes ∙ sym (placed_none at before.size_of);
  bits = f.bits ∙ sym (placed_none (4 * at) before.bits_of);
  marks = f.marks ∙ sym (placed_none at before.mark_of);
  four_words = λ c i. absurd (Memᴰ.not-nil i);
}

-- ---- chunks that are emitted

module _ (b : Given) (at : ℕ) (chunks new : List Chunk) (es : List Emission) (before now : Work) (distinct : Distinct (places_of b))
    (apart : Pairs Apart (chunks ++ new)) (room : HasRoom at (length chunks + length new) before) (made : Made b at chunks before now)
    (matched : AllMatch b es new) where
  abbrev n : ℕ
  n = b.shared.n

  abbrev number : ℕ
  number = b.on_entry + length chunks

  abbrev after : Work
  after = with_chunks b.shared.bits number (at + length chunks) es now

  abbrev old : ℕ → ℕ
  old m = chunk_number b.on_entry m (modules_of_each b chunks)

  abbrev added : ℕ → ℕ
  added m = chunk_number number m (modules_of_each b new)

  -- a module of a chunk that is made is in no new one
  one_of_both : (m : ℕ) → (old m ≡ 0) ⊎ (added m ≡ 0)
  one_of_both m = ⊎_elim inl (λ s. inr (none_number number m (modules_of_each b new) (away s))) (number_or b.on_entry m (modules_of_each b chunks))
    where
      away : (x : List ℕ) × Memᴰ x (modules_of_each b chunks) × Memᴰ m x
          → (y : List ℕ) → Memᴰ y (modules_of_each b new) → elem m y ≡ false
      away s y j =
          let c = Memᴰ.of_map (modules_of b) chunks s.1 in
          let d = Memᴰ.of_map (modules_of b) new j in
          not_elem m y (λ i. modules_apart b distinct c.0 d.0 (pairs_across chunks apart c.0 d.0 c.1 d.1) m
          (subst (λ l. Memᴰ m l) (sym c.2) s.2) (subst (λ l. Memᴰ m l) (sym d.2) i))

  emissions_apart : {fs : List Emission} {some : List Chunk} → AllMatch b fs some → Pairs Apart some → Pairs emissions.Apart fs
  emissions_apart none p = none
  emissions_apart (more {e = e} {c = c} h rest) (more p q) =
      more (λ f i m j k. let s = matched_of_lem b rest f i in modules_apart b distinct c s.0 (p s.0 s.1) m (h.there m j) (s.2.there m k))
      (emissions_apart rest q)

  read : (m : ℕ) → m < n → get_or after.chunk_of m 0 ≡ chunk_number b.on_entry m (modules_of_each b (chunks ++ new))
  read m h =
      emissions.chunks_numbers b.shared.bits number (at + length chunks) now m
      (emissions_apart matched (pairs_right chunks apart)) (omega (arith, made_long made))
      ∙ ap₂ (λ k l. cond (eqb k 0) l k) (matched_numbers b number m matched)
      (made_number made m h)
      ∙ other_number (old m) (added m) (one_of_both m)
      ∙ ap (λ k. cond (eqb (old m) 0) (chunk_number (b.on_entry + k) m (modules_of_each b new)) (old m)) (sym (length-map chunks (modules_of b)))
      ∙ sym (number_append b.on_entry m (modules_of_each b chunks) (modules_of_each b new))
      ∙ ap (chunk_number b.on_entry m) (sym (map-append (modules_of b) chunks new))

  -- an area of one element a record
  module _ {A : Type 0} (value : Chunk → A) (area areaNow : List A) (holds : areaNow ≡ placed at (map value chunks) area)
      (fits : at + (length chunks + length new) ≤ length area) where
    area_room : at + length chunks + length es ≤ length areaNow
    area_room = rw (holds, placed_length at (map value chunks) area (rw (length-map chunks value) (omega arith)), matched_count b matched) (omega arith)

    area_more : placed (at + length chunks) (map value new) areaNow ≡ placed at (map value (chunks ++ new)) area
    area_more =
        let count = length-map chunks value in
        ap (λ l. placed (at + length chunks) (map value new) l) holds
        ∙ ap (λ k. placed (at + k) (map value new) (placed at (map value chunks) area)) (sym count)
        ∙ placed_more at (map value chunks) (map value new) area (rw (count, length-map new value) (omega arith))
        ∙ ap (λ l. placed at l area) (sym (map-append value chunks new))

  old_words : length (bit_words chunks) ≡ 4 * length chunks
  old_words = words_count chunks made.four_words

  new_words : length (bit_words new) ≡ 4 * length new
  new_words = words_count new (matched_four b matched)

  words_room : 4 * (at + length chunks) + 4 * length es ≤ length now.bits_of
  words_room =
      rw (made.bits, placed_length (4 * at) (bit_words chunks) before.bits_of (rw old_words (omega (arith, room.words))), matched_count b matched)
      (omega (arith, room.words))

  words_more : after.bits_of ≡ placed (4 * at) (bit_words (chunks ++ new)) before.bits_of
  words_more =
      let from : 4 * (at + length chunks) ≡ 4 * at + length (bit_words chunks) = omega (arith, old_words) in
      words_read b.shared.bits number (at + length chunks) es now words_room
      ∙ ap₂ (λ w l. placed (4 * (at + length chunks)) w l) (matched_words b matched) made.bits
      ∙ ap (λ k. placed k (bit_words new) (placed (4 * at) (bit_words chunks) before.bits_of)) from
      ∙ placed_more (4 * at) (bit_words chunks) (bit_words new) before.bits_of (rw (old_words, new_words) (omega (arith, room.words)))
      ∙ ap (λ w. placed (4 * at) w before.bits_of) (sym (words_append chunks new))

  pub made_more : Made b at (chunks ++ new) before after
  made_more = record {
    numbers =
        per_module_lem n (λ m. chunk_number b.on_entry m (modules_of_each b (chunks ++ new))) before.chunk_of after.chunk_of
        (rw (chunks_lengths b.shared.bits number (at + length chunks) es now words_room).chunk_of (made_long made)) read
        (chunks_rest n b.shared.bits number (at + length chunks) es now
        (λ e i m j. let s = matched_of_lem b matched e i in chunk_module b s.0 m (s.2.there m j))
        ∙ ap (λ l. drop n l) made.numbers
        ∙ module_rest n old before.chunk_of);
    groups =
        groups_read b.shared.bits number (at + length chunks) es now
        (area_room (λ c. c.group) before.group_of now.group_of made.groups room.groups)
        ∙ ap (λ l. placed (at + length chunks) l now.group_of) (matched_map b (λ e. e.head.group) (λ c. c.group) (λ e c h. h.group) matched)
        ∙ area_more (λ c. c.group) before.group_of now.group_of made.groups room.groups;
    names =
        names_read b.shared.bits number (at + length chunks) es now
        (area_room (λ c. c.name) before.name_of now.name_of made.names room.names)
        ∙ ap (λ l. placed (at + length chunks) l now.name_of) (matched_map b (λ e. e.head.name) (λ c. c.name) (λ e c h. h.name) matched)
        ∙ area_more (λ c. c.name) before.name_of now.name_of made.names room.names;
    sizes =
        sizes_read b.shared.bits number (at + length chunks) es now
        (area_room (λ c. c.size) before.size_of now.size_of made.sizes room.sizes)
        ∙ ap (λ l. placed (at + length chunks) l now.size_of) (matched_map b (λ e. e.size) (λ c. c.size) (λ e c h. h.size) matched)
        ∙ area_more (λ c. c.size) before.size_of now.size_of made.sizes room.sizes;
    bits = words_more;
    marks =
        marks_read b.shared.bits number (at + length chunks) es now
        (area_room (λ c. c.mark) before.mark_of now.mark_of made.marks room.marks)
        ∙ ap (λ l. placed (at + length chunks) l now.mark_of) (matched_map b (λ e. e.mark) (λ c. c.mark) (λ e c h. h.mark) matched)
        ∙ area_more (λ c. c.mark) before.mark_of now.mark_of made.marks room.marks;
    four_words = λ c i. ⊎_elim (made.four_words c) (matched_four b matched c) (Memᴰ.append_cases chunks i);
  }
