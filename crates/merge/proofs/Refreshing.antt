-- Heads through a join: those of sound tables have the first seeker of all that are still there, and a join changes the blocks of two numbers alone.
use Prim.Native.Nat.{ℕ, ◌+◌, ◌/◌, ◌≤◌, ◌<◌}
use mathlib.Core.Bool.{Bool, true, false, ◌&&◌}
use mathlib.Core.List.{List}
use mathlib.Core.Path.{◌≡◌, refl, sym, ap, ◌∙◌, subst}
use native.Mathlib.Omega.{arith}
use lib.Ieee.{Float}
use lib.ListN.{length, get_or}
use Rattle.lists.specs.Keep.{keep}
use Rattle.lists.specs.Range.{range}
use Rattle.lists.proofs.KeepTests.{keep_same, keep_keep}
use Rattle.lists.proofs.Members.{range_mem}
use Rattle.joins.specs.Subgroup.{Subgroup}
use Rattle.seeking.specs.Seekers.{first_seeker, seeks_at, StandsFor, Heads, Refreshed}
use Rattle.seeking.proofs.Kept.{by_number}
use Rattle.seeking.proofs.Blocks.{no_size_no_seeker, same_kept, stands_still}
use Rattle.merge.specs.Engine.{is_there, listed, Sound, Joinable, JoinedTables}
use Rattle.merge.proofs.Joining.{size_of_other, joined_sizes}

-- who has vanished has no size
pub first_listed : (threshold : Float) (numbers sizes bits : List ℕ) → Sound numbers sizes bits
    → first_seeker threshold sizes (range 0 (length sizes)) ≡ first_seeker threshold sizes (listed numbers)
unfolding listed
first_listed threshold numbers sizes bits sound =
    let seeks : ℕ → Bool = seeks_at threshold sizes in
    ap (λ n. first_seeker threshold sizes (range 0 n)) sound.tables.sizes_fit
    ∙ same_kept threshold sizes (range 0 (length numbers)) (keep (is_there numbers) (range 0 (length numbers)))
    (keep_same seeks (λ i. is_there numbers i && seeks i) (range 0 (length numbers)) (λ i m. here i (range_mem 0 (length numbers) i m) (is_there numbers i) refl)
    ∙ sym (keep_keep seeks (is_there numbers) (range 0 (length numbers))))
  where
    here : (i : ℕ) → (0 ≤ i) × (i < 0 + length numbers) → (b : Bool) → is_there numbers i ≡ b → seeks_at threshold sizes i ≡ (b && seeks_at threshold sizes i)
    here i r true e = refl
    here i r false e = no_size_no_seeker threshold sizes i (sound.no_size i (omega arith) e)

-- ---- a join

module _ (threshold : Float) (s t : Subgroup) (numbers sizes bits : List ℕ) (g : Joinable s t numbers sizes bits) (n z b : List ℕ)
    (after : JoinedTables s t numbers sizes bits n z b) where
  pub heads_after : (heads heads₁ heads₂ : List ℕ) → Heads threshold sizes heads → length heads₁ ≡ length heads → length heads₂ ≡ length heads₁
      → Refreshed threshold z (s.number / 16) heads heads₁ → Refreshed threshold z (t.number / 16) heads₁ heads₂ → Heads threshold z heads₂
  heads_after heads heads₁ heads₂ stand long₁ long₂ at-s at-t = record {
    all = omega (arith, joined_sizes s t numbers sizes bits g n z b after, stand.all, long₁, long₂);
    stand = λ j h. by_number j (t.number / 16)
        (λ e. subst (λ j. StandsFor threshold z j (get_or heads₂ j 0)) (sym e) at-t.here)
        (λ not_t. subst (StandsFor threshold z j) (sym (at-t.others j not_t)) (by_number j (s.number / 16)
        (λ e. subst (λ j. StandsFor threshold z j (get_or heads₁ j 0)) (sym e) at-s.here)
        (λ not_s. subst (StandsFor threshold z j) (sym (at-s.others j not_s))
        (stands_still threshold sizes z j (get_or heads j 0) (joined_sizes s t numbers sizes bits g n z b after)
        (λ i e. size_of_other s t numbers sizes bits g n z b after i
        (λ q. not_s (sym e ∙ ap (λ k. k / 16) q)) (λ q. not_t (sym e ∙ ap (λ k. k / 16) q)))
        (stand.stand j (omega (arith, long₁, long₂)))))));
  }
