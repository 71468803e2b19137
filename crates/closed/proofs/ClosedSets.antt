-- Closed sets: what a walk that passes over them finds of the modules without a chunk is what a walk through all eligible modules finds of them; and
-- a set that is in chunks whole can be closed too.
use Prim.Native.Nat.{ℕ, ◌-◌, ◌<◌}
use mathlib.Core.Bool.{Bool, true, false, not, false≢true}
use mathlib.Core.List.{List, Memᴰ}
use mathlib.Core.Logic.{◌↔◌, ◌⊎◌, inl, inr, ⊎_elim}
use mathlib.Core.Path.{◌≡◌, refl, sym, ap, ◌∙◌, subst}
use native.Mathlib.Decide.{dec_lt}
use native.Mathlib.Omega.{arith}
use borrow.Author.Tests.{eqb-true, eqb-false, eq-eqb}
use lib.Dec.{eqb}
use lib.ListN.{length, get_or, get_or-eq_default}
use Rattle.lists.proofs.Below.{both, none_of}
use Rattle.lists.proofs.Members.{keep_mem, mem_keep}
use Rattle.lists.proofs.Position.{mem_get_or}
use Rattle.flags.specs.Flags.{listed, assigned, eligible, eligible_at}
use Rattle.bitset.specs.Word.{bit}
use Rattle.lists.specs.Stored.{stored}
use Rattle.lists.proofs.Stored.{stored_either, stored_length, stored_on}
use Rattle.walk.specs.Reached.{Reached, start, further, Marks}
use Rattle.walk.specs.Names.{Eligible, Names}
use Rattle.walk.proofs.Reached.{reached_eligible}
use Rattle.options.specs.declared.Settings.{Settings}
use Rattle.sets.specs.Gathered.{marked_in}
use Rattle.closed.specs.Closed.{closes, live_by, left_at, some_left, Closed}

-- ---- eligible or not

eligible_dec : (flags : List ℕ) (m : ℕ) → Eligible flags m ⊎ (Eligible flags m → ⊥)
eligible_dec flags m = go (eligible_at flags m)
  where
    go : (b : Bool) → (b ≡ true) ⊎ (b ≡ true → ⊥)
    go true = inl refl
    go false = inr false≢true

-- an eligible module has a flag byte
pub eligible_in : (flags : List ℕ) (m : ℕ) → Eligible flags m → m < length flags
unfolding eligible_at eligible listed assigned bit
eligible_in flags m e = go (dec_lt m (length flags))
  where
    go : Dec (m < length flags) → m < length flags
    go (yes l) = l
    go (no l) = absurd (false≢true (sym (ap eligible (get_or-eq_default flags 0 {n = m} (omega arith))) ∙ e))

-- byte 7 is an assigned module's
assigned_byte : (live : List ℕ) (m : ℕ) → get_or live m 0 ≡ 7 → Eligible live m → ⊥
unfolding eligible_at eligible listed assigned bit
assigned_byte live m e el = false≢true (sym (ap eligible e) ∙ el)

same_byte : (live other : List ℕ) (m : ℕ) → get_or live m 0 ≡ get_or other m 0 → Eligible live m → Eligible other m
unfolding eligible_at
same_byte live other m e el = ap eligible (sym e) ∙ el

module _ (flags first dependency next live chunk_of : List ℕ) (c : Closed flags first dependency next live chunk_of) (S : ℕ → Type 0) where
  abbrev N : ℕ → ℕ → Type 0
  N = Names first dependency next (length next - 1)

  -- what is reached is reached past the closed ones, or is closed
  reached_past : {m : ℕ} → Reached (Eligible flags) N S m → Reached (Eligible live) N S m ⊎ (Eligible live m → ⊥)
  reached_past (start {m} s el) = ⊎_elim (λ e. inl (start s e)) inr (eligible_dec live m)
  reached_past (further {m} {d} r names el) =
      ⊎_elim
      (λ q. ⊎_elim (λ e. inl (further q names e)) inr (eligible_dec live d))
      (λ q. inr (c.named_too m d (reached_eligible r) q names el))
      (reached_past r)

  reached_all : {m : ℕ} → Reached (Eligible live) N S m → Reached (Eligible flags) N S m
  reached_all (start {m} s el) = start s (c.eligible_still m el)
  reached_all (further {m} {d} r names el) = further (reached_all r) names (c.eligible_still d el)

  -- so both reach the same of the modules without a chunk
  pub left_reached : (m : ℕ) → eqb (get_or chunk_of m 0) 0 ≡ true → Reached (Eligible flags) N S m ↔ Reached (Eligible live) N S m
  left_reached m e = (
    λ r. ⊎_elim (λ q. q) (λ q. absurd (c.taken m (reached_eligible r) q (eqb-true (get_or chunk_of m 0) 0 e))) (reached_past r),
    reached_all,
  )

pub closed_as : {flags first dependency next live want chunk_of : List ℕ} → live ≡ want → Closed flags first dependency next want chunk_of
    → Closed flags first dependency next live chunk_of
closed_as {flags} {first} {dependency} {next} {chunk_of = chunk_of} e c =
    subst (λ (l : List ℕ). Closed flags first dependency next l chunk_of) (sym e) c

-- ---- the next set

-- nothing is closed at first
pub closed_none : (flags first dependency next chunk_of : List ℕ) → Closed flags first dependency next flags chunk_of
closed_none flags first dependency next chunk_of =
    record {
      bytes = refl;
      eligible_still = λ m e. e;
      taken = λ m e n z. n e;
      named_too = λ m k e n names f g. n e;
    }

module _ (flags first dependency next live chunk_of after : List ℕ) (c : Closed flags first dependency next live chunk_of)
    (stay : (m : ℕ) → Eligible flags m → (get_or chunk_of m 0 ≡ 0 → ⊥) → get_or after m 0 ≡ 0 → ⊥) where
  -- more chunks change nothing
  pub closed_stays : Closed flags first dependency next live after
  closed_stays =
      record {
        bytes = c.bytes;
        eligible_still = c.eligible_still;
        taken = λ m e n. stay m e (c.taken m e n);
        named_too = c.named_too;
      }

  -- a set of marked modules: all that the starts reach past the closed ones
  module _ (S : ℕ → Type 0) (marks order : List ℕ)
      (x : Marks (Reached (Eligible live) (Names first dependency next (length next - 1)) S) (length live) marks)
      (order_all : (m : ℕ) → m < length flags → Eligible flags m → Memᴰ m order) where
    abbrev list : List ℕ
    list = marked_in marks order

    in_list : (m : ℕ) → Reached (Eligible live) (Names first dependency next (length next - 1)) S m → Memᴰ m list
    unfolding marked_in
    in_list m r =
        let el = c.eligible_still m (reached_eligible r) in
        let l = eligible_in flags m el in
        mem_keep (λ m. eqb (get_or marks m 0) 1) m (order_all m l el) (marked (x.each m (omega (arith, c.bytes))))
      where
        marked : ((get_or marks m 0 ≡ 1) × Reached (Eligible live) (Names first dependency next (length next - 1)) S m)
            ⊎ ((get_or marks m 0 ≡ 0) × (Reached (Eligible live) (Names first dependency next (length next - 1)) S m → ⊥)) → eqb (get_or marks m 0) 1 ≡ true
        marked (inl o) = eq-eqb (get_or marks m 0) 1 o.0
        marked (inr o) = absurd (o.1 r)

    list_reached : (m : ℕ) → Memᴰ m list → m < length live → Reached (Eligible live) (Names first dependency next (length next - 1)) S m
    unfolding marked_in
    list_reached m i l = go (x.each m l)
      where
        e : get_or marks m 0 ≡ 1
        e = eqb-true (get_or marks m 0) 1 (keep_mem (λ m. eqb (get_or marks m 0) 1) order m i).1

        go : ((get_or marks m 0 ≡ 1) × Reached (Eligible live) (Names first dependency next (length next - 1)) S m)
            ⊎ ((get_or marks m 0 ≡ 0) × (Reached (Eligible live) (Names first dependency next (length next - 1)) S m → ⊥))
            → Reached (Eligible live) (Names first dependency next (length next - 1)) S m
        go (inl o) = o.1
        go (inr o) = absurd (omega (arith, e, o.0))

    -- it is in chunks whole
    module _ (none : some_left after list ≡ false) where
      list_taken : (m : ℕ) → Memᴰ m list → get_or after m 0 ≡ 0 → ⊥
      unfolding some_left
      list_taken m i z =
          let o = mem_get_or 0 i in
          let e = none_of (left_at after list) (length list) none o.0 o.1 in
          eqb-false (get_or after (get_or list o.0 0) 0) 0 e (ap (λ (k : ℕ). get_or after k 0) o.2 ∙ z)

      -- who was passed over stays so
      gone : (m : ℕ) → (Eligible live m → ⊥) → Eligible (stored 7 list live) m → ⊥
      gone m n e =
          ⊎_elim (λ q. assigned_byte (stored 7 list live) m q.0 e) (λ q. n (same_byte (stored 7 list live) live m q e)) (stored_either 7 list live m)

      -- and who is in the set is passed over now
      set_gone : (m : ℕ) → Memᴰ m list → m < length live → Eligible (stored 7 list live) m → ⊥
      set_gone m i l e = assigned_byte (stored 7 list live) m (stored_on 7 list live m l i) e

      -- an eligible module that is passed over now was so before, or is in the set
      newly : (m : ℕ) → Eligible flags m → (Eligible (stored 7 list live) m → ⊥) → (Eligible live m → ⊥) ⊎ Memᴰ m list
      newly m el n =
          ⊎_elim (λ q. inr q.1) (λ q. inl (λ e. n (same_byte live (stored 7 list live) m (sym q) e))) (stored_either 7 list live m)

      pub closed_more : Closed flags first dependency next (stored 7 list live) after
      closed_more =
          record {
            bytes = stored_length 7 list live ∙ c.bytes;
            eligible_still = λ m e.
                ⊎_elim (λ q. absurd (assigned_byte (stored 7 list live) m q.0 e))
                (λ q. c.eligible_still m (same_byte (stored 7 list live) live m q e)) (stored_either 7 list live m);
            taken = λ m el n. ⊎_elim (λ q. stay m el (c.taken m el q)) (λ i. list_taken m i) (newly m el n);
            named_too = λ m k el n names f g. ⊎_elim (λ q. gone k (c.named_too m k el q names f) g) (λ i. from_set m k i el names f g) (newly m el n);
          }
        where
          from_set : (m k : ℕ) → Memᴰ m list → Eligible flags m → Names first dependency next (length next - 1) m k → Eligible flags k
              → Eligible (stored 7 list live) k → ⊥
          from_set m k i el names f g =
              let l = eligible_in flags m el in
              let r = list_reached m i (omega (arith, c.bytes)) in
              ⊎_elim
              (λ e. set_gone k (in_list k (further r names e)) (let j = eligible_in flags k f in omega (arith, c.bytes)) g)
              (λ q. gone k q g)
              (eligible_dec live k)

-- ---- which bytes a group goes by

-- by the table of closed sets, or by the flag bytes
module _ (flags closed : List ℕ) where
  pub live_on : {t : Bool} → t ≡ true → live_by t flags closed ≡ closed
  unfolding live_by
  live_on e = rw e

  pub live_off : {t : Bool} → t ≡ false → live_by t flags closed ≡ flags
  unfolding live_by
  live_off e = rw e

  pub live_bytes : (t : Bool) → length closed ≡ length flags → length (live_by t flags closed) ≡ length flags
  unfolding live_by
  live_bytes true e = e
  live_bytes false e = refl

-- sets that can be closed are found along dependencies, and are not divided
pub closes_recursive : (settings : Settings) → closes settings ≡ true → settings.recursive ≡ true
unfolding closes
closes_recursive settings e = (both (not settings.entries_aware) settings.recursive e).1

pub closes_plain : (settings : Settings) → closes settings ≡ true → settings.entries_aware ≡ true → ⊥
unfolding closes
closes_plain settings e aware = false≢true (sym (ap not aware) ∙ (both (not settings.entries_aware) settings.recursive e).0)
