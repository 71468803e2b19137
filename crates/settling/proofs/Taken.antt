-- The places that chunks have taken: taken by one list of chunks and then by another is taken by both, and taking nothing changes nothing.
use Prim.Native.Nat.{ℕ}
use mathlib.Core.Bool.{Bool, true, false, not, ◌||◌, ◌&&◌, or_assoc, or-false, or-true, false≢true}
use mathlib.Core.List.{List, [], ◌∷◌, ◌++◌, map, map-map, map-id, Memᴰ}
use mathlib.Core.Path.{◌≡◌, refl, sym, ap, ◌∙◌}
use Rattle.lists.specs.Elem.{elem}
use Rattle.lists.proofs.Elem.{elem_mem, mem_elem}
use Rattle.lists.proofs.Members.{keep_mem, map_same}
use Rattle.grouping.specs.Item.{Item, with_places}
use Rattle.grouping.specs.ChunkList.{Chunk, without}
use Rattle.settling.specs.Settled.{taken, left_of}
use Rattle.lists.proofs.KeepTests.{keep_keep, keep_same, keep_all}

-- ---- a place

pub taken_append : (c d : List Chunk) (p : ℕ) → taken (c ++ d) p ≡ (taken c p || taken d p)
unfolding taken
taken_append [] d p = refl
taken_append (x ∷ c) d p = ap (λ b. elem p x.places || b) (taken_append c d p) ∙ sym (or_assoc (elem p x.places) (taken c p) (taken d p))

-- a place that is taken stands in a chunk
pub taken_mem : (chunks : List Chunk) (p : ℕ) → taken chunks p ≡ true → (c : Chunk) × Memᴰ c chunks × Memᴰ p c.places
unfolding taken
taken_mem [] p e = absurd (false≢true e)
taken_mem (c ∷ chunks) p e = go (elem p c.places) refl e (taken_mem chunks p)
  where
    go : (b : Bool) → elem p c.places ≡ b → (b || taken chunks p) ≡ true
        → (taken chunks p ≡ true → (d : Chunk) × Memᴰ d chunks × Memᴰ p d.places)
        → (d : Chunk) × Memᴰ d (c ∷ chunks) × Memᴰ p d.places
    go true q f later = (c, Memᴰ.head refl, elem_mem p c.places q)
    go false q f later = let s = later f in (s.0, Memᴰ.tail s.1, s.2)

pub mem_taken : (c : Chunk) {chunks : List Chunk} (p : ℕ) → Memᴰ c chunks → Memᴰ p c.places → taken chunks p ≡ true
unfolding taken
mem_taken c p (Memᴰ.head {xs = chunks} e) m = rw (sym e, mem_elem p m)
mem_taken c p (Memᴰ.tail {x = d} {xs = chunks} i) m = rw (mem_taken c p i m) (or-true (elem p d.places))

-- ---- places

pub left_mem : (chunks : List Chunk) (places : List ℕ) (p : ℕ)
    → Memᴰ p (left_of chunks places) → Memᴰ p places × (taken chunks p ≡ true → ⊥)
unfolding left_of
left_mem chunks places p m =
    let s = keep_mem (λ q. not (taken chunks q)) places p m in
    (s.0, λ e. false≢true (sym (ap not e) ∙ s.1))

-- places of which none is taken are left
pub left_all : (chunks : List Chunk) (places : List ℕ) → ((p : ℕ) → Memᴰ p places → taken chunks p ≡ true → ⊥) → left_of chunks places ≡ places
unfolding left_of
left_all chunks places h = keep_all (λ p. not (taken chunks p)) places (λ p m. go (taken chunks p) (h p m))
  where
    go : (b : Bool) → (b ≡ true → ⊥) → not b ≡ true
    go true n = absurd (n refl)
    go false n = refl

not_or : (a b : Bool) → (not a && not b) ≡ not (a || b)
not_or true b = refl
not_or false b = refl

pub left_left : (c d : List Chunk) (places : List ℕ) → left_of d (left_of c places) ≡ left_of (c ++ d) places
unfolding left_of
left_left c d places =
    keep_keep (λ p. not (taken d p)) (λ p. not (taken c p)) places
    ∙ keep_same (λ p. not (taken c p) && not (taken d p)) (λ p. not (taken (c ++ d) p)) places
    (λ p m. not_or (taken c p) (taken d p) ∙ ap not (sym (taken_append c d p)))

-- ---- items

-- an item with the places that are left of it
abbrev pub item_left : List Chunk → Item → Item
item_left chunks i = with_places (left_of chunks i.places) i

pub items_left_none : (items : List Item) → map (item_left []) items ≡ items
unfolding left_of taken
items_left_none items =
    map_same (item_left []) (λ i. i) items (λ i m. ap (λ l. with_places l i) (left_all [] i.places (λ p n e. false≢true e)))
    ∙ map-id items

pub items_left_left : (c d : List Chunk) (items : List Item) → map (item_left d) (map (item_left c) items) ≡ map (item_left (c ++ d)) items
items_left_left c d items =
    map-map (item_left d) (item_left c) items
    ∙ map_same (λ i. item_left d (item_left c i)) (item_left (c ++ d)) items (λ i m. ap (λ l. with_places l i) (left_left c d i.places))

-- the places of one chunk
pub items_without : (c : Chunk) (items : List Item) → map (without c.places) items ≡ map (item_left (c ∷ [])) items
unfolding left_of taken
items_without c items =
    map_same (without c.places) (item_left (c ∷ [])) items
    (λ i m. ap (λ l. with_places l i)
    (keep_same (λ p. not (elem p c.places)) (λ p. not (taken (c ∷ []) p)) i.places (λ p n. ap not (sym (or-false (elem p c.places))))))
