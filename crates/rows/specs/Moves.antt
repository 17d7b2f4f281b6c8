-- What the loops over a row's bytes leave: the row filled as far as the stream goes, or laid as far as the stream takes it.
use Rattle.std.specs.Prelude.{◌≡◌, ℕ, ◌+◌, ◌<◌, ◌≤◌, List, length, take, Ok, Err, Result}
use Rattle.calls.specs.declared.refusal.Refusal.{Refusal}
use Rattle.calls.specs.Refusal.{notice}
use Rattle.stream.specs.Stream.{Stream, Kept, Why, left}
use Rattle.stream.specs.Steps.{Put, Got}
use Rattle.rows.specs.declared.refusal.RowRefusal.{RowRefusal}
use Rattle.rows.specs.declared.refusal.RowRefusal.TheVariants.{Missing, NoQuote, Unwritable, Below}
use Rattle.rows.specs.declared.refusal.PutRefusal.{PutRefusal}

-- a row is filled, or all that is left is in it; refused, no byte shown is moved
abbrev pub Filled : Stream → Stream → List ℕ → List ℕ → Result ℕ Refusal → Type 0
Filled s t row out (Ok n) = Got s t row out n × (n < length row → left s ≡ n)
Filled s t row out (Err e) = Kept s t × (t.shown ≡ s.shown) × Why s ⊥ ⊥ (notice e).number

abbrev pub LayWhy : Stream → ℕ → RowRefusal → Type 0
LayWhy s k Missing = ⊥
LayWhy s k NoQuote = ⊥
LayWhy s k Unwritable = ⊥
LayWhy s k (Below e) = Why s ⊥ (s.limit < s.position + k) (notice e).number

-- a row is laid at the position; refused, as many of its leading bytes as the refusal tells
abbrev pub LaidOn : List ℕ → Stream → Stream → Result (Unit {0}) PutRefusal → Type 0
LaidOn row s t (Ok v) = Put s t row × (s.position + length row ≤ s.limit)
LaidOn row s t (Err x) = Put s t (take x.fresh row) × (x.fresh < length row) × (0 < x.fresh → s.position + length row ≤ s.limit) × LayWhy s (length row) x.why
