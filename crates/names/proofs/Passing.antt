-- What the walks of a group pass over, between two sets: it is closed, and stays so when the next set is in chunks.
use Prim.Native.Nat.{ℕ, ◌<◌}
use mathlib.Core.Bool.{Bool, true, false, not, cond, ◌&&◌, false≢true}
use mathlib.Core.List.{List, Memᴰ}
use mathlib.Core.Path.{◌≡◌, refl, sym, ◌∙◌, subst}
use lib.ListN.{length, get_or, take}
use Rattle.lists.specs.Stored.{stored}
use Rattle.walk.specs.Names.{Eligible}
use Rattle.options.specs.declared.Settings.{Settings}
use Rattle.running.specs.Fits.{Walking}
use Rattle.sets.specs.Built.{starts_of, SetBuilt}
use Rattle.sets.specs.Gathered.{marked_in}
use Rattle.closed.specs.Closed.{closes, live_by, some_left, closed_after, Closed}
use Rattle.closed.proofs.ClosedSets.{closed_none, closed_stays, closed_more, closes_recursive}

-- what walks of a group pass over is closed, and it is nothing if sets of the group can't be closed
pub record Passing (settings : Settings) (w : Walking) (live chunk_of : List ℕ) : Type 0 where
  pub closed : Closed w.flags w.first w.dependency w.next live chunk_of
  pub whole : closes settings ≡ false → live ≡ w.flags

pub passing_by : {settings : Settings} {w : Walking} {closed chunk_of : List ℕ} (t : Bool) → t ≡ closes settings
    → Closed w.flags w.first w.dependency w.next closed chunk_of → Passing settings w (live_by t w.flags closed) chunk_of
unfolding live_by
passing_by true by c = record { closed = c; whole = λ off. absurd (false≢true (sym (by ∙ off))) }
passing_by {w = w} {chunk_of = chunk_of} false by c =
    record { closed = closed_none w.flags w.first w.dependency w.next chunk_of; whole = λ _. refl }

module _ (settings : Settings) (w : Walking) {closed before after : List ℕ} (t : Bool) (by : t ≡ closes settings)
    (c : Closed w.flags w.first w.dependency w.next closed before)
    (stay : (m : ℕ) → Eligible w.flags m → (get_or before m 0 ≡ 0 → ⊥) → get_or after m 0 ≡ 0 → ⊥)
    (order_all : (m : ℕ) → m < length w.flags → Eligible w.flags m → Memᴰ m w.order)
    {run : List ℕ} {count : ℕ} {area : List ℕ}
    (built : SetBuilt settings.recursive (live_by t w.flags closed) w.first w.dependency w.next w.order run count area) where
  -- the set is closed, if it can be and is in chunks whole
  pub closed_next : Closed w.flags w.first w.dependency w.next (closed_after t after (take count area) closed) after
  unfolding closed_after live_by
  closed_next = go t refl (some_left after (take count area)) refl
    where
      same : Closed w.flags w.first w.dependency w.next closed after
      same = closed_stays w.flags w.first w.dependency w.next closed before after c stay

      go : (u : Bool) → t ≡ u → (s : Bool) → some_left after (take count area) ≡ s
          → Closed w.flags w.first w.dependency w.next (cond (u && not s) (stored 7 (take count area) closed) closed) after
      go false e s f = same
      go true e true f = same
      go true e false f =
          let b : SetBuilt settings.recursive closed w.first w.dependency w.next w.order run count area =
          subst (λ (u : Bool). SetBuilt settings.recursive (cond u closed w.flags) w.first w.dependency w.next w.order run count area)
          e built in
          let x = b.captured (closes_recursive settings (sym by ∙ e)) in
          let list : take count area ≡ marked_in x.marks w.order = x.holds.entries in
          subst (λ (l : List ℕ). Closed w.flags w.first w.dependency w.next (stored 7 l closed) after) (sym list)
          (closed_more w.flags w.first w.dependency w.next closed before after c stay
          (λ m. Memᴰ m (starts_of w.order run)) x.marks w.order x.marked order_all
          (subst (λ (l : List ℕ). some_left after l ≡ false) list f))
