-- The builds `ties` and `renumbered` meet all that the renumbering rule asks: they are alike under a renumbering, and both are accepted with
-- three chunks. So the rule is not empty. By computation over the five modules.
use Prim.Native.Nat.{ℕ, zero, suc, ◌<◌}
use mathlib.Core.Bool.{Bool, true, ◌&&◌}
use mathlib.Core.List.{List, [], ◌∷◌, Memᴰ}
use mathlib.Core.Path.{◌≡◌, refl, sym, ap, ◌∙◌}
use native.Mathlib.Omega.{arith}
use borrow.Author.Tests.{ltb-true, eqb-true}
use lib.Dec.{ltb, eqb}
use lib.Ieee.{of_int}
use lib.ListN.{get_or}
use Rattle.lists.specs.Below.{all_below}
use Rattle.lists.specs.Elem.{elem}
use Rattle.lists.proofs.Below.{all_of, both}
use Rattle.lists.proofs.Elem.{elem_mem}
use Rattle.refusal.specs.Outcome.{accepted}
use Rattle.refusal.proofs.Calls.{accepts_call}
use Rattle.bitset.specs.Entries.{row_of}
use Rattle.ids.specs.Parts.{id_at}
use Rattle.records.specs.Chain.{dependencies}
use Rattle.grouping.specs.Given.{Given, Areas, answer_of}
use Rattle.grouping.specs.Written.{written}
use Rattle.grouping.specs.Conditions.{scratch_need}
use Rattle.grouping.specs.Call.{chunks_outcome, ChunksCall}
use Rattle.grouping.specs.Renumbering.{Renumbering, SameModule, SameChain, Alike, SameList}
use Rattle.grouping.specs.Tree.{named_by}
use Rattle.grouping.specs.Expected.{lent}
use Rattle.grouping.specs.TwinBuilds.{ties, renumbered}
use Rattle.grouping_laws.proofs.Renumbered.{renumbering_rule}

-- the module that a number goes to, and the way back
abbrev pub goes_to : ℕ → ℕ
goes_to m = get_or (3 ∷ 0 ∷ 4 ∷ 1 ∷ 2 ∷ []) m 0

abbrev pub comes_from : ℕ → ℕ
comes_from m = get_or (1 ∷ 3 ∷ 4 ∷ 0 ∷ 2 ∷ []) m 0

returns : (m : ℕ) → m < 5 → comes_from (goes_to m) ≡ m
unfolding all_below
returns m h = eqb-true _ _ (all_of (λ k. eqb (comes_from (goes_to k)) k) 5 refl m h)

pub renumbering : Renumbering 5 goes_to
unfolding all_below
renumbering =
    record {
      within = λ m h. ltb-true _ _ (all_of (λ k. ltb (goes_to k) 5) 5 refl m h);
      apart = λ l m hl hm e. sym (returns l hl) ∙ (ap comes_from e ∙ returns m hm);
    }

five : (P : ℕ → Type 0) → P 0 → P 1 → P 2 → P 3 → P 4 → (m : ℕ) → m < 5 → P m
five P a b c d e zero h = a
five P a b c d e (suc zero) h = b
five P a b c d e (suc (suc zero)) h = c
five P a b c d e (suc (suc (suc zero))) h = d
five P a b c d e (suc (suc (suc (suc zero)))) h = e
five P a b c d e (suc (suc (suc (suc (suc m))))) h = absurd (omega arith)

two : (P : ℕ → Type 0) → P 0 → P 1 → (m : ℕ) → m < 2 → P m
two P a b zero h = a
two P a b (suc zero) h = b
two P a b (suc (suc m)) h = absurd (omega arith)

same_module : (m : ℕ) → m < 5 → SameModule ties renumbered m (goes_to m)
unfolding ties renumbered row_of id_at
same_module m h =
    record {
      flags = five (λ k. get_or ties.variant.flags k 0 ≡ get_or renumbered.variant.flags (goes_to k) 0) refl refl refl refl refl m h;
      size = five (λ k. get_or ties.shared.sizes k 0 ≡ get_or renumbered.shared.sizes (goes_to k) 0) refl refl refl refl refl m h;
      order = five (λ k. get_or ties.shared.orders k 0 ≡ get_or renumbered.shared.orders (goes_to k) 0) refl refl refl refl refl m h;
      shares = five (λ k. get_or ties.shared.shares k 0 ≡ get_or renumbered.shared.shares (goes_to k) 0) refl refl refl refl refl m h;
      tags = five (λ k. get_or ties.shared.tags k 0 ≡ get_or renumbered.shared.tags (goes_to k) 0) refl refl refl refl refl m h;
      bits = five (λ k. row_of ties.shared.bits k ≡ row_of renumbered.shared.bits (goes_to k)) refl refl refl refl refl m h;
      id = five (λ k. id_at ties.shared.bytes ties.shared.offsets k ≡ id_at renumbered.shared.bytes renumbered.shared.offsets (goes_to k)) refl refl refl refl refl m h;
      answers = two (λ g. answer_of ties g m ≡ answer_of renumbered g (goes_to m))
          (five (λ k. answer_of ties 0 k ≡ answer_of renumbered 0 (goes_to k)) refl refl refl refl refl m h)
          (five (λ k. answer_of ties 1 k ≡ answer_of renumbered 1 (goes_to k)) refl refl refl refl refl m h);
    }

all_in : (ℕ → Bool) → List ℕ → Bool
all_in p [] = true
all_in p (x ∷ l) = p x && all_in p l

in_all : (p : ℕ → Bool) (x : ℕ) {l : List ℕ} → Memᴰ x l → all_in p l ≡ true → p x ≡ true
unfolding all_in
in_all p x (Memᴰ.head {x = y} {xs = l} e) h = ap p e ∙ (both (p y) (all_in p l) h).0
in_all p x (Memᴰ.tail {x = y} {xs = l} d) h = in_all p x d (both (p y) (all_in p l) h).1

same_chain : (m : ℕ) → all_in (λ l. elem (goes_to l) (named_by renumbered (goes_to m))) (named_by ties m) ≡ true
    → all_in (λ l. elem (comes_from l) (named_by ties m) && eqb (goes_to (comes_from l)) l) (named_by renumbered (goes_to m)) ≡ true
    → SameChain goes_to ties renumbered m
same_chain m there back =
    record {
      there = λ l d. elem_mem (goes_to l) _ (in_all (λ l. elem (goes_to l) (named_by renumbered (goes_to m))) l d there);
      back = λ l d.
          let t = both _ _ (in_all (λ l. elem (comes_from l) (named_by ties m) && eqb (goes_to (comes_from l)) l) l d back) in
          (comes_from l, elem_mem (comes_from l) _ t.0, eqb-true _ _ t.1);
    }

pub alike : Alike goes_to ties renumbered
unfolding ties renumbered all_in elem dependencies
alike =
    record {
      n = refl;
      g = refl;
      e = refl;
      k = refl;
      options = refl;
      groups = λ g h. refl;
      on_entry = refl;
      modules = same_module;
      chains = five (SameChain goes_to ties renumbered)
          (same_chain 0 refl refl) (same_chain 1 refl refl) (same_chain 2 refl refl) (same_chain 3 refl refl) (same_chain 4 refl refl);
    }

-- an accepted call
call : (b : Given) (before : Areas) (count : ℕ) → accepted count ≡ chunks_outcome scratch_need b before
    → ChunksCall scratch_need b (accepted count) before (written 0 b before)
call b before count h = accepts_call (sym h) (λ _. refl)

pub ties_call : ChunksCall scratch_need ties (accepted 3) (lent 1 1000 5 3) (written 0 ties (lent 1 1000 5 3))
unfolding ties lent chunks_outcome scratch_need of_int
ties_call = call ties (lent 1 1000 5 3) 3 refl

pub renumbered_call : ChunksCall scratch_need renumbered (accepted 3) (lent 3 2000 5 3) (written 0 renumbered (lent 3 2000 5 3))
unfolding renumbered lent chunks_outcome scratch_need of_int
renumbered_call = call renumbered (lent 3 2000 5 3) 3 refl

-- what the renumbering rule says of these two
pub applied : SameList goes_to 5 3 (written 0 ties (lent 1 1000 5 3)) (written 0 renumbered (lent 3 2000 5 3))
unfolding ties
applied = (renumbering_rule goes_to scratch_need scratch_need ties renumbered 3 3 _ _ _ _ renumbering alike ties_call renumbered_call).1
