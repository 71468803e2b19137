-- The invariant: the best so far is the first seeker of the first i heads.
use mathlib.Core.List.{map}
use mathlib.Core.Path.{◌≡◌}
use lib.ListN.{take}
use Rattle.lists.specs.Keep.{keep}
use Rattle.lists.specs.Least.{least}
use Rattle.joins.specs.Candidate.{seeking, comes_first, seeker_at}
use Rattle.seeking.specs.Search.{found_of}
use Rattle.seeking.proofs.search.find_seeker.Given as goal

abbrev pub invariant-loop-head : goal.invariant-loop-head
invariant-loop-head l = found_of l.best ≡ least comes_first (keep (seeking l.threshold) (map (seeker_at l.sizes) (take l.head-index l.heads)))
