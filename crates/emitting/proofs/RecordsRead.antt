-- The records of the chunks, read area by area: one after the other from the place of the first.
use Prim.Native.Nat.{ℕ, suc, ◌+◌, ◌*◌, ◌≤◌}
use mathlib.Core.List.{List, [], ◌∷◌, map}
use mathlib.Core.Path.{◌≡◌, refl, sym, ap, ◌∙◌}
use native.Mathlib.Omega.{arith}
use lib.ListN.{length, set, length-map}
use lib.Seq.{sets}
use Rattle.lists.specs.Area.{placed}
use Rattle.lists.proofs.Placed.{sets_placed}
use Rattle.bitset.specs.Rows.{words_of, with_row}
use Rattle.bitset.proofs.Rows.{length_with_row, words_count as All-words}
use Rattle.emitting.specs.Emitted.{Work, Emission, bits_of_chunk, with_chunk, with_chunks}
use Rattle.emitting.specs.Areas.{chunk_words}

-- an area of one element a record, where a chunk is stored at its place
module _ {A : Type 0} (area : Work → List A) (value : Emission → A)
    (stores : (bits : List ℕ) (number at : ℕ) (e : Emission) (w : Work) → area (with_chunk bits number at e w) ≡ set (area w) at (value e)) where
  area_sets : (bits : List ℕ) (number at : ℕ) (es : List Emission) (w : Work) → area (with_chunks bits number at es w) ≡ sets (area w) at (map value es)
  unfolding with_chunks
  area_sets bits number at [] w = refl
  area_sets bits number at (e ∷ es) w =
      area_sets bits (suc number) (suc at) es (with_chunk bits number at e w) ∙ ap (λ l. sets l (suc at) (map value es)) (stores bits number at e w)

  area_placed : (bits : List ℕ) (number at : ℕ) (es : List Emission) (w : Work) → at + length es ≤ length (area w)
      → area (with_chunks bits number at es w) ≡ placed at (map value es) (area w)
  area_placed bits number at es w h =
      area_sets bits number at es w ∙ sets_placed (map value es) (area w) at (rw (length-map es value) h)

module _ (bits : List ℕ) (number at : ℕ) (es : List Emission) (w : Work) where
  pub groups_read : at + length es ≤ length w.group_of
      → (with_chunks bits number at es w).group_of ≡ placed at (map (λ e. e.head.group) es) w.group_of
  unfolding with_chunk
  groups_read h = area_placed (λ v. v.group_of) (λ e. e.head.group) (λ b n a e v. refl) bits number at es w h

  pub names_read : at + length es ≤ length w.name_of
      → (with_chunks bits number at es w).name_of ≡ placed at (map (λ e. e.head.name) es) w.name_of
  unfolding with_chunk
  names_read h = area_placed (λ v. v.name_of) (λ e. e.head.name) (λ b n a e v. refl) bits number at es w h

  pub sizes_read : at + length es ≤ length w.size_of
      → (with_chunks bits number at es w).size_of ≡ placed at (map (λ e. e.size) es) w.size_of
  unfolding with_chunk
  sizes_read h = area_placed (λ v. v.size_of) (λ e. e.size) (λ b n a e v. refl) bits number at es w h

  pub marks_read : at + length es ≤ length w.mark_of
      → (with_chunks bits number at es w).mark_of ≡ placed at (map (λ e. e.mark) es) w.mark_of
  unfolding with_chunk
  marks_read h = area_placed (λ v. v.mark_of) (λ e. e.mark) (λ b n a e v. refl) bits number at es w h

-- ---- four words a record

words_count : (bits : List ℕ) (es : List Emission) → length (chunk_words bits es) ≡ 4 * length es
unfolding chunk_words
words_count bits es = All-words (λ e. words_of (bits_of_chunk bits e.head e.modules)) es (λ e m. refl)

words_sets : (bits : List ℕ) (number at : ℕ) (es : List Emission) (w : Work) → 4 * at + 4 * length es ≤ length w.bits_of
    → (with_chunks bits number at es w).bits_of ≡ sets w.bits_of (4 * at) (chunk_words bits es)
unfolding with_chunks with_chunk with_row chunk_words
words_sets bits number at [] w h = refl
words_sets bits number at (e ∷ es) w h =
    let s = bits_of_chunk bits e.head e.modules in
    let room : 4 * at + 4 ≤ length w.bits_of = omega arith in
    let next : 4 * suc at ≡ suc (suc (suc (suc (4 * at)))) = omega arith in
    words_sets bits (suc number) (suc at) es (with_chunk bits number at e w) (rw (length_with_row w.bits_of at s room) (omega arith))
    ∙ ap (λ l. sets l (4 * suc at) (chunk_words bits es)) (sym (sets_placed (words_of s) w.bits_of (4 * at) room))
    ∙ ap (λ n. sets (sets w.bits_of (4 * at) (words_of s)) n (chunk_words bits es)) next

pub words_read : (bits : List ℕ) (number at : ℕ) (es : List Emission) (w : Work) → 4 * at + 4 * length es ≤ length w.bits_of
    → (with_chunks bits number at es w).bits_of ≡ placed (4 * at) (chunk_words bits es) w.bits_of
words_read bits number at es w h =
    words_sets bits number at es w h ∙ sets_placed (chunk_words bits es) w.bits_of (4 * at) (rw (words_count bits es) h)
