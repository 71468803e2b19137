-- `linking::link` meets its contract. The loop's invariant: the modules so far, which are the last, are pushed.
use Rattle.std.proofs.Common.{ℕ, ◌-◌, List, length}
use Rattle.linking.specs.Links.{Links}
use Rattle.linking.proofs.OneMore.{Pushing}
use Rattle.linking.proofs.link.Given as goal

abbrev links : List ℕ → List ℕ → Links
links next_of first_of = record { next_of = next_of; first_of = first_of }

abbrev pub invariant-loop-m : goal.invariant-loop-m
invariant-loop-m l =
    Pushing l.order l.chunk_of l.base l.at (links l.initial.next_of l.initial.first_of) (links l.next_of l.first_of) (length l.order - length l.yielded)
