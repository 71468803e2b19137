-- The walk from several modules at once: a list of modules still to visit, on which each module stands at most once.
use Rattle.std.specs.Prelude.{ℕ, ◌+◌, ◌≤◌, ◌<◌, false, cond, ◌&&◌, List, ◌⊎◌, ◌≡◌, eqb, length, get_or, set}
use Rattle.lists.specs.Below.{count_below}
use Rattle.flags.specs.Flags.{eligible_at}
use Rattle.records.specs.Bad.{RecordTables, bad_records}
use Rattle.forget.specs.Unfollowed.{unfollowed}
use Rattle.walk.specs.Reached.{Reached, Marks}
use Rattle.walk.specs.Names.{Eligible, Names}
use Rattle.walk.specs.Followed.{Followed}

-- the tables of n modules and d records, which refusal 7 does not turn away
pub record WalkTables (flags first dependency next : List ℕ) (n d : ℕ) : Type 0 where
  pub flag_bytes : length flags ≡ n
  pub records : RecordTables first dependency next n d
  pub good : bad_records first dependency next n d ≡ false

-- the marks, the list, and how many modules are on it: its first `tail` words
pub record Walk : Type 0 where
  pub marks : List ℕ
  pub queue : List ℕ
  pub tail : ℕ

-- how many of the first n modules are marked
unfoldable pub marked_count : List ℕ → ℕ → ℕ
unfolding count_below
marked_count marks n = count_below (λ m. eqb (get_or marks m 0) 1) n

-- Marks and list agree, at the start of a walk and all along it: each mark is 1 or 0, those that are 1 are of eligible modules, and the list
-- holds just these, as many as there are, so that none stands on it twice. It has room for n modules.
pub record WalkState (flags : List ℕ) (n : ℕ) (w : Walk) : Type 0 where
  pub mark_bytes : length w.marks ≡ n
  pub room : n ≤ length w.queue
  pub byte : (m : ℕ) → m < n → (get_or w.marks m 0 ≡ 1) ⊎ (get_or w.marks m 0 ≡ 0)
  pub eligible_ones : (m : ℕ) → m < n → get_or w.marks m 0 ≡ 1 → Eligible flags m
  pub queued : (i : ℕ) → i < w.tail → (get_or w.queue i 0 < n) × (get_or w.marks (get_or w.queue i 0) 0 ≡ 1)
  pub listed : (m : ℕ) → m < n → get_or w.marks m 0 ≡ 1 → (i : ℕ) × (i < w.tail) × (get_or w.queue i 0 ≡ m)
  pub count : w.tail ≡ marked_count w.marks n

-- what a walk needs
pub record WalkReady (flags first dependency next : List ℕ) (n d : ℕ) (w : Walk) (followed : List ℕ) : Type 0 where
  pub tables : WalkTables flags first dependency next n d
  pub state : WalkState flags n w
  pub clear : followed ≡ unfollowed

-- What a walk leaves: the marks of all that is reached from the modules that were marked before, and all of these on the list.
pub record Walked (flags first dependency next : List ℕ) (n d : ℕ) (before : List ℕ) (after : Walk) : Type 0 where
  pub marked : Marks (Reached (Eligible flags) (Names first dependency next d) (λ m. get_or before m 0 ≡ 1)) n after.marks
  pub state : WalkState flags n after
  pub same_length : length after.marks ≡ length before

-- ---- its turns

-- a module that is marked and put on the list
abbrev pub found : Walk → ℕ → Walk
found w k = record { marks = set w.marks k 1; queue = set w.queue w.tail k; tail = w.tail + 1 }

-- a module that a chain names is marked and put on the list if it is eligible and not marked yet
unfoldable pub visited : List ℕ → Walk → ℕ → Walk
visited flags w k = cond (eligible_at flags k && eqb (get_or w.marks k 0) 0) (found w k) w

-- module k can be visited
pub record VisitReady (flags : List ℕ) (w : Walk) (k : ℕ) : Type 0 where
  pub state : WalkState flags (length flags) w
  pub module_in : k < length flags

-- the chain of module m can be followed
pub record FollowReady (flags first dependency next : List ℕ) (n d : ℕ) (w : Walk) (m : ℕ) (followed : List ℕ) : Type 0 where
  pub tables : WalkTables flags first dependency next n d
  pub state : WalkState flags n w
  pub module_in : m < n
  pub before : Followed flags dependency next d w.marks followed 0

-- ---- its two parts: without marks of followed records, and with them

-- what is reached from the modules marked before
abbrev pub FromMarked : List ℕ → List ℕ → List ℕ → List ℕ → ℕ → List ℕ → ℕ → Type 0
FromMarked flags first dependency next d before = Reached (Eligible flags) (Names first dependency next d) (λ m. get_or before m 0 ≡ 1)

-- The walk from w₀ with `head` modules taken off the list: what is marked is reached, the starts are marked, and so is every eligible module that
-- a module taken off names.
pub record Walking (flags first dependency next : List ℕ) (n d : ℕ) (w₀ : Walk) (head : ℕ) (w : Walk) : Type 0 where
  pub state : WalkState flags n w
  pub head_in : head ≤ w.tail
  pub started : (m : ℕ) → get_or w₀.marks m 0 ≡ 1 → get_or w.marks m 0 ≡ 1
  pub sound : (m : ℕ) → get_or w.marks m 0 ≡ 1 → FromMarked flags first dependency next d w₀.marks m
  pub closed : (i : ℕ) → i < head → (k : ℕ) → Names first dependency next d (get_or w.queue i 0) k → Eligible flags k → get_or w.marks k 0 ≡ 1
  pub queue_length : length w.queue ≡ length w₀.queue

-- what the part without marks needs
pub record PlainReady (flags first dependency next : List ℕ) (n d : ℕ) (w : Walk) : Type 0 where
  pub tables : WalkTables flags first dependency next n d
  pub state : WalkState flags n w

-- what the part with marks needs: `start` modules are taken off the list, and no record is marked as followed
pub record MarkedReady (flags first dependency next : List ℕ) (n d start : ℕ) (w : Walk) (followed : List ℕ) : Type 0 where
  pub tables : WalkTables flags first dependency next n d
  pub state : WalkState flags n w
  pub start_in : start ≤ w.tail
  pub closed : (i : ℕ) → i < start → (k : ℕ) → Names first dependency next d (get_or w.queue i 0) k → Eligible flags k → get_or w.marks k 0 ≡ 1
  pub clear : followed ≡ unfollowed
