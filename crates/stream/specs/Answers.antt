-- The answers of a stream that is never busy and moves all that it is asked to.
use Rattle.std.specs.Prelude.{ℕ, ◌+◌, min, cond, ℤ, pos, ◌+ℤ◌, Some, None, Ok, Err, Option, Result, nat_le}
use Rattle.std.specs.Option.{ok_or}
use Rattle.calls.specs.declared.refusal.Whence.{Whence}
use Rattle.calls.specs.declared.refusal.Call.TheVariants as call
use Rattle.calls.specs.declared.refusal.Refusal.{Refusal}
use Rattle.calls.specs.declared.refusal.Refusal.TheVariants.{BadWhence, OutOfRange, PastLimit}
use Rattle.calls.specs.Refusal.{own}
use Rattle.calls.specs.Places.{size_of, within}
use Rattle.stream.specs.Stream.{Stream, left, origin}

-- readinto: all that fits the buffer and is left
abbrev pub all_read : Stream → ℕ → Result ℕ Refusal
all_read s k = Ok (min k (left s))

-- write: all, or 12 where that would end past the limit
abbrev pub all_written : Stream → ℕ → Result ℕ Refusal
all_written s k = cond (nat_le (s.position + k) s.limit) (Ok k) (Err (PastLimit (own call.Write s.position)))

-- seek: the goal, or 11 where it is out of range, or 6
abbrev pub seek_answer : Stream → ℤ → Option Whence → Result ℕ Refusal
seek_answer s target None = Err BadWhence
seek_answer s target (Some o) = ok_or (within s.limit (target +ℤ pos (origin s o))) (OutOfRange (own call.Seek s.position))

-- truncate: the size, or 11 where it is out of range
abbrev pub cut_answer : Stream → Option ℤ → Result ℕ Refusal
cut_answer s size = ok_or (within s.limit (size_of s.position size)) (OutOfRange (own call.Truncate s.position))
