-- Bytes put behind others in an area: what one copy leaves, none, one part after another, and a part that fits whole.
use Prim.Native.Nat.{ℕ, ◌+◌, ◌-◌, min, ◌≤◌, ◌<◌}
use mathlib.Core.List.{List, [], ◌++◌, append-nil}
use mathlib.Core.Path.{◌≡◌, sym, ap, ap₂, ◌∙◌, subst}
use native.Mathlib.Decide.{dec_lt}
use native.Mathlib.Nat.{add-zero, zero-add}
use native.Mathlib.Omega.{arith}
use lib.ListN.{length, take, drop, length-take, length-append}
use lib.Seq.{length-take-le, take_all, take-nil, take-append-le, take-append-add, drop-drop}
use Rattle.lists.specs.Area.{placed}
use Rattle.lists.proofs.Placed.{placed_none, placed_more, placed_length}
use Rattle.chunk_names.specs.Append.{fitting, Appended}

take_min : (r : ℕ) (l : List ℕ) → take (min r (length l)) l ≡ take r l
take_min r l = go (dec_lt (length l) r)
  where
    go : Dec (length l < r) → take (min r (length l)) l ≡ take r l
    go (yes h) = let e : min r (length l) ≡ length l = omega arith in ap (λ n. take n l) e ∙ take_all (length l) l (omega arith) ∙ sym (take_all r l (omega arith))
    go (no h) = let e : min r (length l) ≡ r = omega arith in ap (λ n. take n l) e

-- ---- one copy

module _ (area part : List ℕ) (at count : ℕ) (e : count ≡ min (length area - at) (length part)) where
  pub fits : take count part ≡ fitting area at part
  fits = ap (λ n. take n part) e ∙ take_min (length area - at) part

  pub fit_length : length (fitting area at part) ≡ count
  fit_length = length-take (length area - at) part ∙ sym e

  pub appended : (copied : List ℕ) → copied ≡ take count part → Appended area at part (at + count) (take at area ++ (copied ++ drop (at + count - at) (drop at area)))
  appended copied c =
      let n : at + count - at ≡ count = omega arith in
      record {
        ends = ap (λ m. at + m) (sym fit_length);
        bytes =
            ap₂ (λ (new rest : List ℕ). take at area ++ (new ++ rest)) (c ∙ fits)
            (ap (λ m. drop m (drop at area)) n ∙ drop-drop count at area ∙ ap (λ m. drop (at + m) area) (sym fit_length));
      }

-- ---- none

pub appended_none : (area : List ℕ) (at : ℕ) → Appended area at [] at area
appended_none area at =
    let none : fitting area at [] ≡ [] = take-nil (length area - at) in
    record {
      ends = sym (ap (λ (l : List ℕ). at + length l) none ∙ add-zero at);
      bytes = sym (ap (λ (l : List ℕ). placed at l area) none ∙ placed_none at area);
    }

-- ---- one part after another

-- the front of two lists laid end to end
take_both : (n : ℕ) (text part : List ℕ) → take n (text ++ part) ≡ take n text ++ take (n - length (take n text)) part
take_both n text part = go (dec_lt n (length text))
  where
    go : Dec (n < length text) → take n (text ++ part) ≡ take n text ++ take (n - length (take n text)) part
    go (yes h) =
        let none : n - length (take n text) ≡ 0 = rw (length-take-le n text (omega arith)) (omega arith) in
        take-append-le n text part (omega arith) ∙ sym (ap (λ m. take n text ++ take m part) none ∙ append-nil (take n text))
    go (no h) =
        let all = take_all n text (omega arith) in
        let n' : n ≡ length text + (n - length text) = omega arith in
        ap (λ m. take m (text ++ part)) n'
        ∙ take-append-add text part (n - length text)
        ∙ sym (ap (λ (l : List ℕ). l ++ take (n - length l) part) all)

module _ {a b first : List ℕ} {at mid : ℕ} (h : at ≤ length a) (x : Appended a at first mid b) where
  within : at + length (fitting a at first) ≤ length a
  within = let l = length-take (length a - at) first in omega arith

  pub same_room : length b ≡ length a
  same_room = ap length x.bytes ∙ placed_length at (fitting a at first) a within

  pub mid_within : mid ≤ length b
  mid_within = rw (same_room, x.ends) within

  module _ {c second : List ℕ} {end : ℕ} (y : Appended b mid second end c) where
    second_fits : fitting b mid second ≡ take (length a - at - length (fitting a at first)) second
    second_fits =
        let room : length b - mid ≡ length a - at - length (fitting a at first) = rw (same_room, x.ends) (omega arith) in
        ap (λ n. take n second) room

    both_fit : fitting a at (first ++ second) ≡ fitting a at first ++ fitting b mid second
    both_fit = take_both (length a - at) first second ∙ ap (λ (l : List ℕ). fitting a at first ++ l) (sym second_fits)

    pub appended_both : Appended a at (first ++ second) end c
    appended_both =
        let fit = fitting a at first in
        let rest = fitting b mid second in
        let lengths = length-take (length b - mid) second in
        let room : at + length fit + length rest ≤ length a = omega (arith, lengths, same_room, mid_within, x.ends) in
        record {
          ends = y.ends ∙ ap (λ n. n + length rest) x.ends ∙ sym (ap (λ (l : List ℕ). at + length l) both_fit ∙ rw (length-append fit rest) (omega arith));
          bytes =
              y.bytes
              ∙ ap₂ (λ n (l : List ℕ). placed n rest l) x.ends x.bytes
              ∙ placed_more at fit rest a room
              ∙ sym (ap (λ (l : List ℕ). placed at l a) both_fit);
        }

-- the same part, written otherwise
pub appended_as : {a b part other : List ℕ} {at end : ℕ} → part ≡ other → Appended a at part end b → Appended a at other end b
appended_as {a} {b} {at = at} {end = end} e x = subst (λ (l : List ℕ). Appended a at l end b) e x

-- ---- a part that fits whole, at the front

pub fits_whole : (area part : List ℕ) → length part ≤ length area → fitting area 0 part ≡ part
fits_whole area part h = take_all (length area - 0) part (omega arith)

module _ {area part after : List ℕ} {end : ℕ} (h : length part ≤ length area) (x : Appended area 0 part end after) where
  pub whole_length : end ≡ length part
  whole_length = x.ends ∙ ap (λ (l : List ℕ). 0 + length l) (fits_whole area part h) ∙ zero-add (length part)

  pub whole_bytes : after ≡ placed 0 part area
  whole_bytes = x.bytes ∙ ap (λ (l : List ℕ). placed 0 l area) (fits_whole area part h)
