-- The renumbering rule: builds that are alike have equal chunk lists, and what a call writes of them is the same, translated.
use Prim.Native.Nat.{ℕ, ◌<◌}
use mathlib.Core.List.{List, [], map}
use mathlib.Core.Path.{◌≡◌, sym, ap, ap₂, ◌∙◌, subst, subst₂}
use lib.ListN.{length, get_or, get_or-map}
use Rattle.refusal.specs.Outcome.{accepted}
use Rattle.whole.specs.Double.{to_f64}
use Rattle.bitset.specs.Entries.{row_of}
use Rattle.grouping.specs.Given.{Given, Areas}
use Rattle.grouping.specs.ChunkList.{Chunk, chunk_list}
use Rattle.grouping.specs.Written.{bit_words, members_of, chunk_number, next_module, first_module, written}
use Rattle.grouping.specs.Call.{ChunksCall}
use Rattle.grouping.specs.Renumbering.{Renumbering, Alike, translated, SameRecord, SamePlace, SameList, RenumberingRule}
use Rattle.grouping_laws.proofs.Accepted.{Sound, count_is, sound}
use Rattle.grouping_laws.proofs.TreeEqual.{chunks_same}
use Rattle.grouping_laws.proofs.AreasRead.{chunk_read, next_read, first_read, group_read_lem, name_read, size_read, mark_read, bits_read}
use Rattle.grouping_laws.proofs.Translated.{members_within, members_same, first_translated, number_translated, next_translated}

module _ {ρ : ℕ → ℕ} {a b : Given} (r : Renumbering a.shared.n ρ) (alike : Alike ρ a b) (sa : Sound a) (sb : Sound b) (before before' : Areas) where
  -- both have the same chunk list
  chunks : chunk_list b ≡ chunk_list a
  chunks = sym (chunks_same r alike sa sb)

  members : members_of b ≡ map (map ρ) (members_of a)
  members = members_same r alike sa sb

  record_same : (k : ℕ) → k < length (chunk_list a) → SameRecord ρ (written 0 a before) (written 0 b before') k
  record_same k h =
      let g : k < length (chunk_list b) = subst (λ (l : List Chunk). k < length l) (sym chunks) h in
      record {
        first =
            first_read b before' k g
            ∙ ap first_module (ap (λ (l : List (List ℕ)). get_or l k []) members ∙ get_or-map (map ρ) (members_of a) k [])
            ∙ first_translated ρ (get_or (members_of a) k [])
            ∙ ap (translated ρ) (sym (first_read a before k h));
        group = group_read_lem b before' k g ∙ ap (λ (l : List Chunk). get_or (map (λ c. c.group) l) k 0) chunks ∙ sym (group_read_lem a before k h);
        name = name_read b before' k g ∙ ap (λ (l : List Chunk). get_or (map (λ c. c.name) l) k 0) chunks ∙ sym (name_read a before k h);
        size = size_read b before' k g ∙ ap (λ (l : List Chunk). get_or (map (λ c. c.size) l) k (to_f64 0)) chunks ∙ sym (size_read a before k h);
        bits = bits_read b before' k g sb ∙ ap (λ (l : List Chunk). row_of (bit_words l) k) chunks ∙ sym (bits_read a before k h sa);
        mark = mark_read b before' k g ∙ ap (λ (l : List Chunk). get_or (map (λ c. c.mark) l) k 0) chunks ∙ sym (mark_read a before k h);
      }

  place_same : (m : ℕ) → m < a.shared.n → SamePlace ρ (written 0 a before) (written 0 b before') m
  place_same m h =
      let g : ρ m < b.shared.n = subst (λ (k : ℕ). ρ m < k) alike.n (r.within m h) in
      record {
        chunk =
            chunk_read b before' (ρ m) g
            ∙ ap₂ (λ (k : ℕ) (l : List (List ℕ)). chunk_number k (ρ m) l) (sym alike.on_entry) members
            ∙ number_translated a.shared.n ρ r m h a.on_entry (members_of a) (members_within a)
            ∙ sym (chunk_read a before m h);
        next =
            next_read b before' (ρ m) g
            ∙ ap (next_module (ρ m)) members
            ∙ next_translated a.shared.n ρ r m h (members_of a) (members_within a)
            ∙ ap (translated ρ) (sym (next_read a before m h));
      }

pub renumbering_rule : RenumberingRule
renumbering_rule ρ need need' a b count count' before after before' after' r alike ca cb =
    let sa = sound need a ca in
    let sb = sound need' b cb in (
      count_is need a ca ∙ ap length (chunks_same r alike sa sb) ∙ sym (count_is need' b cb),
      subst₂ (SameList ρ a.shared.n count) (sym (ca.answered count (sym ca.number))) (sym (cb.answered count' (sym cb.number)))
          (record {
            records = λ k h. record_same r alike sa sb before before' k (subst (λ (c : ℕ). k < c) (count_is need a ca) h);
            modules = place_same r alike sa sb before before';
          }),
    )

-- so that each chunk holds the same modules, in the same order
pub same_modules_lem : (ρ : ℕ → ℕ) (need need' : Given → ℕ) (a b : Given) (count count' : ℕ) (before after before' after' : Areas)
    → Renumbering a.shared.n ρ → Alike ρ a b → ChunksCall need a (accepted count) before after → ChunksCall need' b (accepted count') before' after'
    → members_of b ≡ map (map ρ) (members_of a)
same_modules_lem ρ need need' a b count count' before after before' after' r alike ca cb = members_same r alike (sound need a ca) (sound need' b cb)
