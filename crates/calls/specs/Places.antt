-- What the arguments of a call ask for.
use Rattle.std.specs.Prelude.{ℕ, Bool, false, cond, ℤ, pos, negsuc, Some, None, Ok, Err, Option, Result, ◌==◌, nat_le, nat_lt}
use Rattle.calls.specs.declared.refusal.Refusal.{Refusal}
use Rattle.calls.specs.declared.refusal.Refusal.TheVariants.{BufferTooSmall, BufferTooLarge}
use Rattle.calls.specs.declared.refusal.Whence.{Whence}
use Rattle.calls.specs.declared.refusal.Whence.TheVariants.{Start, Current, End}

abbrev pub is_z : ℤ → ℕ → Bool
is_z (pos n) m = n == m
is_z (negsuc n) m = false

-- 0, 1 and 2 are the start, the position and the end
abbrev pub whence_for : ℤ → Option Whence
whence_for w = cond (is_z w 0) (Some Start) (cond (is_z w 1) (Some Current) (cond (is_z w 2) (Some End) None))

-- the size that a truncate asks for, or the position if none is given
abbrev pub size_of : ℕ → Option ℤ → ℤ
size_of place None = pos place
size_of place (Some z) = z

-- the place z, if it lies from 0 to the limit
abbrev pub within : ℕ → ℤ → Option ℕ
within limit (pos n) = cond (nat_le n limit) (Some n) None
within limit (negsuc n) = None

-- a buffer's size, from 1 to 8192
abbrev pub size_answer : ℤ → Result ℕ Refusal
size_answer (negsuc n) = Err BufferTooSmall
size_answer (pos n) = cond (nat_lt n 1) (Err BufferTooSmall) (cond (nat_lt 8192 n) (Err BufferTooLarge) (Ok n))
