-- `subgroups::kinds::bucket_of` meets its contract: a remainder of the words, mixed.
use Rattle.std.proofs.Common.{ℕ, ◌%◌, ap, ◌∙◌}
use Rattle.bitset.specs.Entries.{word_at}
use Rattle.subgroups.specs.Buckets.{mixed_with, bucket_of}
use Rattle.subgroups.proofs.kinds.bucket_of.Goals as goal

pub returns : goal.returns
unfolding bucket_of
returns c =
    let s = c.args.bits in
    ap (λ (x : ℕ). x % 2039)
    (c.mix-3.ensures
    ∙ ap (λ (x : ℕ). mixed_with x (word_at s 0)) (c.mix-2.ensures ∙ ap (λ (x : ℕ). mixed_with x (word_at s 1)) c.mix.ensures))
