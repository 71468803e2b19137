-- The end of a run: the chains are written, and the scratch is cleared.
use Rattle.std.specs.Prelude.{ℕ, ◌+◌, ◌≤◌, List, ◌≡◌, length, replicate}
use Rattle.grouping.specs.Written.{per_module}
use Rattle.lists.specs.Area.{placed}
use Rattle.linking.specs.Links.{Links, linked, Linkable}

-- zeros for n modules, and for `count` chunks from the record `at` on
unfoldable pub unlinked : ℕ → ℕ → ℕ → Links → Links
unlinked n at count l = record { next_of = per_module n (λ m. 0) l.next_of; first_of = placed at (replicate count 0) l.first_of }

pub record Finishing (order chunk_of : List ℕ) (base n at count : ℕ) (l : Links) : Type 0 where
  pub modules : n ≤ length l.next_of
  pub records : at + count ≤ length l.first_of
  pub linkable : Linkable order chunk_of base at (unlinked n at count l)

pub record Finished (order chunk_of : List ℕ) (base n at count : ℕ) (entry exit : Links) (scratch scratch' : List ℕ) : Type 0 where
  pub chains : exit ≡ linked chunk_of base at order (unlinked n at count entry)
  pub cleared : scratch' ≡ replicate (length scratch) 0
