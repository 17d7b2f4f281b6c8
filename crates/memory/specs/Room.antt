-- A file on a slice: the first `len` bytes are shown and stored, and nothing else is held; the slice's length, capped at 2^62, is
-- the limit. It is steady, and moves all it can.
use Rattle.std.proofs.Common.{ℕ, ◌^◌, ◌≤◌, min, true, List, [], length, take, arith, length-take}
use Rattle.stream.specs.Stream.{Stream, Pile, Sound, is_at}
use Rattle.stream.proofs.Streams.{at_test}

abbrev pub room : List ℕ → ℕ
room bytes = min (length bytes) (2 ^ 62)

abbrev pub file : List ℕ → ℕ → ℕ → Stream
file bytes len place = record { shown = take len bytes; position = place; limit = room bytes; stored = take len bytes; held = λ p b. is_at (take len bytes) p b; steady = true }

abbrev pub ground : List ℕ → ℕ → Pile
ground bytes len = record { headers = 0; bottom = take len bytes; places = []; whole = true }

-- what is shown and the position lie within the limit
pub record InRoom (bytes : List ℕ) (len place : ℕ) : Type 0 where
  pub len_fits : len ≤ room bytes
  pub place_fits : place ≤ room bytes

-- a file in its room is in order
pub sound_file : (bytes : List ℕ) (len place : ℕ) → InRoom bytes len place → Sound (file bytes len place)
sound_file bytes len place ok =
    let l = length-take len bytes in
    record { capped = omega arith; placed = ok.place_fits; sized = omega arith; showing = λ p b h. at_test _ p b h; storing = λ p b h. at_test _ p b h }
