-- Bytes moved by several calls, one after another.
use Rattle.std.specs.Prelude.{◌≡◌, ℕ, ◌+◌, ◌≤◌, List, ◌++◌, length, take, drop}
use Rattle.stream.specs.Stream.{Stream, Kept, laid, left}

-- these bytes are laid at the position, which moves past them
pub record Put (s t : Stream) (bytes : List ℕ) : Type 0 where
  pub kept : Kept s t
  pub shown_laid : t.shown ≡ laid s.shown s.position bytes
  pub moved : t.position ≡ s.position + length bytes

-- the next n bytes fill the front of a buffer, whose rest stays, and the position moves past them
pub record Got (s t : Stream) (buf out : List ℕ) (n : ℕ) : Type 0 where
  pub kept : Kept s t
  pub count_buf : n ≤ length buf
  pub count_left : n ≤ left s
  pub filled : out ≡ take n (drop s.position s.shown) ++ drop n buf
  pub shown_same : t.shown ≡ s.shown
  pub moved : t.position ≡ s.position + n
