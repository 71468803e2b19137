-- The place of the number is closed in both lists.
use Prim.Native.Nat.{◌-◌}
use mathlib.Core.Path.{sym, ap, ◌∙◌}
use lib.ListN.{take}
use Rattle.seeking.proofs.list.remove.Goals as goal

pub returns : goal.returns
returns c =
    let w = c.close_words in
    let n = c.close_numbers in
    let p = c.place_of-place in
    record {
      place = p.result;
      at = p.ensures;
      new_list = n.ensures;
      new_words = ap (λ k. take (k - 1) w.new.words) (sym c.requires.2) ∙ w.ensures;
    }
