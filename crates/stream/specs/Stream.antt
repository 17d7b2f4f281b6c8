-- What a stream means: its six parts, and for each call what it may answer and what it leaves.
use Rattle.std.specs.Prelude.{◌≡◌, ℕ, ◌+◌, ◌-◌, ◌^◌, ◌<◌, ◌≤◌, min, Bool, true, ◌&&◌, ◌||◌, ◌⊎◌, List, [], ◌∷◌, ◌++◌, length, take, drop, replicate, ℤ, pos, ◌+ℤ◌, ◌≤ℤ◌, Some, None, Ok, Err, MatchBool, Option, Result, ◌==◌, ◌≢◌, nat_lt, slice_index}
use Rattle.calls.specs.declared.refusal.Whence.{Whence}
use Rattle.calls.specs.declared.refusal.Whence.TheVariants.{Start, Current, End}
use Rattle.calls.specs.declared.refusal.Call.{Call}
use Rattle.calls.specs.declared.refusal.Refusal.{Refusal}
use Rattle.calls.specs.declared.refusal.Refusal.TheVariants.{BadWhence}
use Rattle.calls.specs.Refusal.{notice}
use Rattle.stream.specs.Source.{Source}

-- ── the parts ──

-- the bytes shown, the position, the limit, the bytes stored in the bottom stream, the bytes held at each place by some level
-- of the pile, and whether the stream is steady
pub record Stream : Type 0 where
  pub shown : List ℕ
  pub position : ℕ
  pub limit : ℕ
  pub stored : List ℕ
  pub held : ℕ → ℕ → Bool
  pub steady : Bool

-- what a stream stands on: how many first places of the bottom stream its skips leave out, what the bottom stream stores, the
-- positions of the streams below from the next one down, and whether it moves all it can in a granted call while it is steady
pub record Pile : Type 0 where
  pub headers : ℕ
  pub bottom : List ℕ
  pub places : List ℕ
  pub whole : Bool

-- byte b stands at place p of xs
abbrev pub At : List ℕ → ℕ → ℕ → Type 0
At xs p b = (p < length xs) × (slice_index xs p ≡ b)

-- the same, as a test
abbrev pub is_at : List ℕ → ℕ → ℕ → Bool
is_at xs p b = nat_lt p (length xs) && slice_index xs p == b

-- how many bytes are shown from the position on
abbrev pub left : Stream → ℕ
left s = length s.shown - s.position

-- in order: the limit is at most 2^62 and never below the position or the length shown; each byte shown or stored is held
pub record Sound (s : Stream) : Type 0 where
  pub capped : s.limit ≤ 2 ^ 62
  pub placed : s.position ≤ s.limit
  pub sized : length s.shown ≤ s.limit
  pub showing : (p b : ℕ) → At s.shown p b → s.held p b ≡ true
  pub storing : (p b : ℕ) → At s.stored p b → s.held p b ≡ true

-- place p of a pile is place headers + p of the bottom stream
abbrev pub Based : Pile → Stream → Type 0
Based p s = s.stored ≡ drop p.headers p.bottom

-- ── what every call keeps ──

-- the limit; steadiness; and a byte held at a place was held there before or is shown there now
pub record Kept (s t : Stream) : Type 0 where
  pub limit_same : t.limit ≡ s.limit
  pub steady_on : s.steady ≡ true → t.steady ≡ true
  pub held_from : (p b : ℕ) → t.held p b ≡ true → (s.held p b ≡ true) ⊎ At t.shown p b

-- the pile below is the same
pub record Piled (p q : Pile) : Type 0 where
  pub headers_same : q.headers ≡ p.headers
  pub whole_same : q.whole ≡ p.whole

-- what every call leaves: the same pile, and a refusal that names who said so; that the stream is in order and its places are still
-- those of the bottom stream are laws of every stream
pub record Leaves {X : Type 0} (c : Call) (t : Stream) (p q : Pile) (r : Result X Refusal) : Type 0 where
  pub piled : Piled p q
  pub source : Source c t.position q.places r

-- ── refused ──

-- the numbers by which a stream that is not steady may refuse: not now, a bad count or position below, a fault
abbrev pub unsteady : ℕ → Bool
unsteady n = n == 7 || (n == 8 || (n == 9 || n == 10))

-- why a call may be refused by a number: by 11 where R holds, by 12 where P holds, by 7 to 10 where the stream is not steady
abbrev pub Why : Stream → Type 0 → Type 0 → ℕ → Type 0
Why s R P n = MatchBool (n == 11) R (MatchBool (n == 12) P (MatchBool (unsteady n) (s.steady ≢ true) ⊥))

-- bytes shown and position are as they were
pub record Still (s t : Stream) : Type 0 where
  pub kept : Kept s t
  pub shown_same : t.shown ≡ s.shown
  pub position_same : t.position ≡ s.position

-- a refused call moves neither bytes shown nor position
pub record Refused (s t : Stream) (R P : Type 0) (e : Refusal) : Type 0 where
  pub still : Still s t
  pub why : Why s R P (notice e).number

-- ── readinto ──

-- a count from 1 to the smaller of the buffer's length and what is left, or 0 if that is 0; those bytes fill the front of the
-- buffer, its rest stays, and the position moves by the count
pub record Read (s t : Stream) (buf out : List ℕ) (n : ℕ) : Type 0 where
  pub kept : Kept s t
  pub count_buf : n ≤ length buf
  pub count_left : n ≤ left s
  pub some : n ≡ 0 → min (length buf) (left s) ≡ 0
  pub filled : out ≡ take n (drop s.position s.shown) ++ drop n buf
  pub shown_same : t.shown ≡ s.shown
  pub moved : t.position ≡ s.position + n

abbrev pub ReadInto : Stream → Stream → List ℕ → List ℕ → Result ℕ Refusal → Type 0
ReadInto s t buf out (Ok n) = Read s t buf out n
ReadInto s t buf out (Err e) = (out ≡ buf) × Refused s t ⊥ ⊥ e

-- ── write ──

-- the bytes ys laid over xs at a place: a gap before them becomes zeros, and no bytes change nothing
abbrev pub laid : List ℕ → ℕ → List ℕ → List ℕ
laid xs at [] = xs
laid xs at (y ∷ ys) = take at xs ++ (replicate (at - length xs) 0 ++ ((y ∷ ys) ++ drop (at + length (y ∷ ys)) xs))

-- a count from 1 to the length handed in, or 0 if that is 0; those bytes are laid at the position, which moves by the count;
-- bytes that would end past the limit are never granted
pub record Wrote (s t : Stream) (buf : List ℕ) (n : ℕ) : Type 0 where
  pub kept : Kept s t
  pub fits : s.position + length buf ≤ s.limit
  pub count : n ≤ length buf
  pub some : n ≡ 0 → length buf ≡ 0
  pub shown_laid : t.shown ≡ laid s.shown s.position (take n buf)
  pub moved : t.position ≡ s.position + n

abbrev pub Write : Stream → Stream → List ℕ → Result ℕ Refusal → Type 0
Write s t buf (Ok n) = Wrote s t buf n
Write s t buf (Err e) = Refused s t ⊥ (s.limit < s.position + length buf) e

-- ── seek ──

-- what a seek counts from
abbrev pub origin : Stream → Whence → ℕ
origin s Start = 0
origin s Current = s.position
origin s End = length s.shown

-- below 0 or past the limit
abbrev pub Outside : Stream → ℤ → Type 0
Outside s z = pos 0 ≤ℤ z → z ≤ℤ pos s.limit → ⊥

-- the goal is answered and is the new position; one below 0 or past the limit is never granted
pub record Sought (s t : Stream) (goal : ℤ) (v : ℕ) : Type 0 where
  pub kept : Kept s t
  pub goal_is : goal ≡ pos v
  pub fits : v ≤ s.limit
  pub shown_same : t.shown ≡ s.shown
  pub moved : t.position ≡ v

abbrev pub SeekTo : Stream → Stream → ℤ → Result ℕ Refusal → Type 0
SeekTo s t goal (Ok v) = Sought s t goal v
SeekTo s t goal (Err e) = Refused s t (Outside s goal) ⊥ e

-- the goal is the target past what the whence counts from; any other whence is refused by 6
abbrev pub SeekBy : Stream → Stream → ℤ → Option Whence → Result ℕ Refusal → Type 0
SeekBy s t target (Some o) r = SeekTo s t (target +ℤ pos (origin s o)) r
SeekBy s t target None r = (r ≡ Err BadWhence) × Still s t

-- ── truncate ──

-- xs cut or lengthened with zeros to n bytes
abbrev pub resized : List ℕ → ℕ → List ℕ
resized xs n = take n xs ++ replicate (n - length xs) 0

-- the bytes are cut or lengthened to the size, which is answered; the position stays; a size below 0 or past the limit is never
-- granted
pub record Cut (s t : Stream) (goal : ℤ) (v : ℕ) : Type 0 where
  pub kept : Kept s t
  pub goal_is : goal ≡ pos v
  pub fits : v ≤ s.limit
  pub shown_cut : t.shown ≡ resized s.shown v
  pub position_same : t.position ≡ s.position

abbrev pub Truncate : Stream → Stream → ℤ → Result ℕ Refusal → Type 0
Truncate s t goal (Ok v) = Cut s t goal v
Truncate s t goal (Err e) = Refused s t (Outside s goal) ⊥ e

-- ── tell ──

-- nothing is moved at all
pub record Unmoved (s t : Stream) : Type 0 where
  pub still : Still s t
  pub stored_same : t.stored ≡ s.stored
  pub held_same : (p b : ℕ) → t.held p b ≡ s.held p b

-- the position is answered; bytes shown, stored and held stay, granted or refused
abbrev pub Tell : Stream → Stream → Result ℕ Refusal → Type 0
Tell s t (Ok v) = (v ≡ s.position) × Unmoved s t
Tell s t (Err e) = Unmoved s t × Refused s t ⊥ ⊥ e

-- ── flush ──

-- bytes shown and position stay; the stored bytes are then the shown ones, and each place holds only its shown byte
pub record Flushed (s t : Stream) : Type 0 where
  pub still : Still s t
  pub stored_shown : t.stored ≡ t.shown
  pub held_shown : (p b : ℕ) → t.held p b ≡ true → At t.shown p b

abbrev pub Flush : {X : Type 0} → Stream → Stream → Result X Refusal → Type 0
Flush s t (Ok v) = Flushed s t
Flush s t (Err e) = Refused s t ⊥ ⊥ e

-- ── whole ──

-- a count is all that could be moved, where the pile is one that moves all it can and the stream is steady
abbrev pub Whole : Pile → Stream → ℕ → Result ℕ Refusal → Type 0
Whole p s most (Ok n) = p.whole ≡ true → s.steady ≡ true → n ≡ most
Whole p s most (Err e) = Unit {0}
