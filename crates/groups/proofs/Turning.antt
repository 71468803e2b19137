-- The groups one after another: after i turns the chunks of the first i groups are made.
use Prim.Native.Nat.{ℕ, ◌+◌, ◌*◌, ◌-◌, ◌≤◌, ◌<◌}
use mathlib.Core.List.{List, foldl}
use mathlib.Core.Path.{◌≡◌, sym, ap, ◌∙◌}
use native.Mathlib.Numerals.{add-one}
use native.Mathlib.Omega.{arith}
use lib.ListN.{length, get_or, take, drop}
use lib.Seq.{take_all}
use Rattle.options.specs.declared.Settings.{Settings}
use Rattle.grouping.specs.Given.{Given}
use Rattle.grouping.specs.Settings.{settings_of}
use Rattle.grouping.specs.Tree.{tree_of}
use Rattle.grouping.specs.ChunkList.{Chunk}
use Rattle.settling.specs.Traversal.{after_group}
use Rattle.settling.proofs.LoopSteps.{foldl_at}
use Rattle.emitting.specs.Emitted.{Work}
use Rattle.items.specs.Turn.{Tables}
use Rattle.running.specs.Fits.{ItemFits, Walking}
use Rattle.sets.proofs.FromPassed.{places_few}
use Rattle.sums.proofs.RowCount.{row_bound}
use Rattle.running.specs.State.{Advance, Begun}
use Rattle.running.proofs.Advancing.{advance_none, advance_then, advance_same, begun_next, begun_number, begun_place}
use Rattle.groups.specs.Turn.{Asked, OneFits, GroupTurning, GroupTurned, AllFit, GroupsTurning, GroupsTurned}
use Rattle.groups.proofs.GroupReady.{groups_few, module_count, flag_count, row_in}

-- the chunks after some groups
abbrev after : Given → List ℕ → List Chunk → List Chunk
after b groups chunks = foldl (after_group b.shared.k (settings_of b) (tree_of b)) chunks groups

-- the group at a turn, with its part of the answers
abbrev pub row_of : Asked → ℕ → ℕ → Asked
row_of asked n g = record { answers = take (g * n + n - g * n) (drop (g * n) asked.answers); tags = asked.tags; shares = asked.shares }

pub one_fits : {b : Given} {w : Walking} {settings : List Settings} {turns : List ℕ} {asked : Asked} {n : ℕ} (other : Settings) (i : ℕ) → i < length turns
    → AllFit b w settings turns asked n → OneFits b w (get_or settings (get_or turns i 0) other) (get_or turns i 0) (row_of asked n (get_or turns i 0))
one_fits {b} {w} {settings} {turns} {asked} {n} other i h fits =
    let g = get_or turns i 0 in
    record {
      walks = fits.walks;
      inside = fits.inside i h;
      settings_are = fits.settings_are g other (fits.inside i h);
      answers = row g;
      tags = fits.tags;
      shares = fits.shares;
    }
  where
    row : (g : ℕ) → take (g * n + n - g * n) (drop (g * n) asked.answers) ≡ take b.shared.n (drop (g * b.shared.n) b.variant.answers)
    row g =
        let e : g * n + n - g * n ≡ n = omega arith in
        rw (e, fits.answers, fits.modules)

-- ---- what a build hands over

module _ {t : Tables} {w : Walking} {bits : List ℕ} {settings : List Settings} {turns : List ℕ} {asked : Asked} {n number at : ℕ} {entry : Work}
    (given : GroupsTurning t w bits settings turns asked n number at entry) where
  pub given_few : n ≤ 4096
  given_few = omega (arith, module_count given.turning.b given.turning.fits.passed, given.fits.modules)

  pub given_flags : length w.flags ≡ n
  given_flags = ap length given.fits.walks.flags ∙ flag_count given.turning.b given.turning.fits.passed ∙ sym given.fits.modules

  pub order_few : length w.order ≤ 4096
  order_few = omega (arith, ap length given.fits.walks.order, places_few given.turning.b given.turning.fits.passed)

  pub group_small : (i : ℕ) → i < length turns → get_or turns i 0 < 64
  group_small i h = omega (arith, given.fits.inside i h, groups_few given.turning.b given.turning.fits.passed)

  -- the group's row of answers
  pub row_small : (i : ℕ) → i < length turns → get_or turns i 0 * n + n ≤ 262144
  row_small i h = row_bound (get_or turns i 0) 64 n (group_small i h) (omega arith) given_few

  pub row_within : (i : ℕ) → i < length turns → get_or turns i 0 * n + n ≤ length asked.answers
  row_within i h =
      rw (given.fits.answers, given.fits.modules) (row_in given.turning.b given.turning.fits.passed (get_or turns i 0) (given.fits.inside i h))

-- after i turns
pub record TurnsTo (t : Tables) (w : Walking) (bits : List ℕ) (settings : List Settings) (turns : List ℕ) (asked : Asked) (n number at i made : ℕ)
    (entry now : Work) : Type 0 where
  pub within : i ≤ length turns
  pub advance : (b : Given) (start : ℕ) → ItemFits b t bits → AllFit b w settings turns asked n
      → Advance b start (after b (take i turns)) number at made entry now

pub none_turned : {t : Tables} {w : Walking} {bits : List ℕ} {settings : List Settings} {turns : List ℕ} {asked : Asked} {n number at : ℕ} {entry : Work}
    → TurnsTo t w bits settings turns asked n number at 0 0 entry entry
none_turned = record { within = omega arith; advance = λ b start items fits. advance_none }

module _ {t : Tables} {w : Walking} {bits : List ℕ} {settings : List Settings} {turns : List ℕ} {asked : Asked} {n number at i made : ℕ} {entry now : Work}
    (so_far : TurnsTo t w bits settings turns asked n number at i made entry now) where
  next_begun : (given : GroupsTurning t w bits settings turns asked n number at entry)
      → Begun given.turning.b given.turning.start (number + made) (at + made) now
  next_begun given =
      let s = given.turning in
      begun_next s.begun (so_far.advance s.b s.start s.fits given.fits)

  pub number_small : GroupsTurning t w bits settings turns asked n number at entry → number + made ≤ 73727
  number_small given = let s = given.turning in omega (arith, begun_number s.fits.passed (next_begun given), s.small)

  pub record_in : GroupsTurning t w bits settings turns asked n number at entry → at + made ≤ length now.group_of
  record_in given = begun_place given.turning.fits.passed (next_begun given)

  -- where the next group begins
  pub next_turning : GroupsTurning t w bits settings turns asked n number at entry → (other : Settings) → i < length turns
      → GroupTurning t w bits (get_or settings (get_or turns i 0) other) (get_or turns i 0) (row_of asked n (get_or turns i 0)) (number + made) (at + made) now
  next_turning given other h =
      let s = given.turning in
      record {
        turning =
            record {
              b = s.b;
              start = s.start;
              fits = s.fits;
              begun = next_begun given;
              small = s.small;
            };
        fits = one_fits other i h given.fits;
      }

  pub one_turned : (other : Settings) → i < length turns → {more : ℕ} {exit : Work}
      → GroupTurned t w bits (get_or settings (get_or turns i 0) other) (get_or turns i 0) (row_of asked n (get_or turns i 0)) (number + made) (at + made) more now exit
      → TurnsTo t w bits settings turns asked n number at (i + 1) (made + more) entry exit
  one_turned other h turned =
      record {
        within = omega arith;
        advance = λ b start items fits.
            advance_same (more_turns b) (advance_then (so_far.advance b start items fits) (turned.advance b start items (one_fits other i h fits)));
      }
    where
      more_turns : (b : Given) (chunks : List Chunk)
          → after_group b.shared.k (settings_of b) (tree_of b) (after b (take i turns) chunks) (get_or turns i 0) ≡ after b (take (i + 1) turns) chunks
      more_turns b chunks = rw (add-one i) (sym (foldl_at (after_group b.shared.k (settings_of b) (tree_of b)) chunks turns i 0 h))

  pub all_turned : length turns ≤ i → GroupsTurned t w bits settings turns asked n number at made entry now
  all_turned h =
      record {
        advance = λ b start items fits.
            advance_same (λ chunks. ap (λ (l : List ℕ). after b l chunks) (take_all i turns h)) (so_far.advance b start items fits);
      }
