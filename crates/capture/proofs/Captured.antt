-- Laws of a capture over the tables: it is a walk from one start, several captures together are the walk from all of their starts, it stays
-- among the modules, and a module's chain counts only as a set.
use Prim.Native.Nat.{ℕ, ◌<◌}
use mathlib.Core.Bool.{true, false}
use mathlib.Core.List.{List}
use mathlib.Core.Logic.{◌↔◌}
use mathlib.Core.Path.{◌≡◌, refl}
use Rattle.records.specs.Bad.{bad_records}
use Rattle.records.proofs.Table.{good, dependencies_in}
use Rattle.walk.specs.Reached.{Reached}
use Rattle.walk.specs.Names.{Eligible, Names}
use Rattle.walk.proofs.Reached.{reached_all, reached_eligible, same_names, union_of_starts}
use Rattle.capture.specs.Capture.{Given, Captured}

-- with recursion on, a capture is what is reached from the start alone
pub captured_walk : (g : Given) → g.recursive ≡ true → (m : ℕ) → Captured g m ↔ Reached (Eligible g.flags) (Names g.first g.dependency g.next g.d) (λ k. k ≡ g.from) m
captured_walk g on m = same_names (λ m k. (λ f. f.1, λ names. (on, names))) m

-- the capture of module s
abbrev pub capture_of : (flags first dependency next : List ℕ) (n d s : ℕ) → Given
capture_of flags first dependency next n d s = record { n = n; d = d; recursive = true; from = s; flags = flags; first = first; dependency = dependency; next = next }

-- what is reached from several starts is the union of their captures
pub union_of_captures : (flags first dependency next : List ℕ) (n d : ℕ) (S : ℕ → Type 0) (m : ℕ) → Reached (Eligible flags) (Names first dependency next d) S m ↔ ((s : ℕ) × S s × Captured (capture_of flags first dependency next n d s) m)
union_of_captures flags first dependency next n d S m =
    let u = union_of_starts m in (
      λ r. let o = u.0 r in (o.0, o.1, (captured_walk (capture_of flags first dependency next n d o.0) refl m).1 o.2),
      λ o. u.1 (o.0, o.1, (captured_walk (capture_of flags first dependency next n d o.0) refl m).0 o.2),
    )

-- over records that refusal 7 does not turn away, everything reached is a module if the starts are
pub reached_below : (first dependency next : List ℕ) (n d : ℕ) → bad_records first dependency next n d ≡ false → {E S : ℕ → Type 0} → ((m : ℕ) → S m → m < n) → {m : ℕ} → Reached E (Names first dependency next d) S m → m < n
reached_below first dependency next n d ok starts r = reached_all (λ m. m < n) starts (λ m k below names e. dependencies_in first dependency next n d (good first dependency next n d ok) m below k names) r

-- everything captured is eligible
pub captured_eligible : (g : Given) {m : ℕ} → Captured g m → Eligible g.flags m
captured_eligible g c = reached_eligible c

-- a module's chain counts only as the set of modules that it names: order, repeats, record numbers and D don't matter
pub same_chains : (g : Given) (first dependency next : List ℕ) (d : ℕ) → ((m k : ℕ) → Names g.first g.dependency g.next g.d m k ↔ Names first dependency next d m k) → (m : ℕ) → Captured g m ↔ Captured (record { n = g.n; d = d; recursive = g.recursive; from = g.from; flags = g.flags; first = first; dependency = dependency; next = next }) m
same_chains g first dependency next d same m = same_names (λ m k. (λ f. (f.0, (same m k).0 f.1), λ f. (f.0, (same m k).1 f.1))) m
