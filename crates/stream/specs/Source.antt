-- Which stream of a pile refused, and by which of its calls.
use Rattle.std.specs.Prelude.{◌≡◌, ℕ, ◌+◌, ◌%◌, ◌^◌, ◌<◌, Bool, true, false, ◌⊎◌, List, length, IfSome, Ok, Err, Result, slice_index}
use Rattle.calls.specs.declared.refusal.Call.{Call}
use Rattle.calls.specs.declared.refusal.Call.TheVariants as call
use Rattle.calls.specs.declared.refusal.Origin.{Origin}
use Rattle.calls.specs.declared.refusal.Refusal.{Refusal}
use Rattle.calls.specs.Refusal.{notice, own}

-- the calls by which a layer finds its place below and writes what it owes
abbrev pub settles : Call → Bool
settles call.ReadInto = false
settles call.Write = true
settles call.Seek = true
settles call.Tell = true
settles call.Truncate = false
settles call.Flush = false

-- a call may be refused by this call of a stream below: by the same, or by one that settles; a tell only by a tell
abbrev pub Reaches : Call → Call → Type 0
Reaches call.ReadInto d = (d ≡ call.ReadInto) ⊎ (settles d ≡ true)
Reaches call.Write d = (d ≡ call.Write) ⊎ (settles d ≡ true)
Reaches call.Seek d = (d ≡ call.Seek) ⊎ (settles d ≡ true)
Reaches call.Tell d = d ≡ call.Tell
Reaches call.Truncate d = (d ≡ call.Truncate) ⊎ (settles d ≡ true)
Reaches call.Flush d = (d ≡ call.Flush) ⊎ (settles d ≡ true)

-- a refusal passed on: the stream at some level below said so, at its position, and as many layers are above it;
-- `places` are the positions of the streams below, from the next one down
pub record Passed (c : Call) (places : List ℕ) (o : Origin) : Type 0 where
  pub level : ℕ
  pub there : level < length places
  pub call_is : Reaches c o.call
  pub position_is : o.position ≡ slice_index places level
  pub layers_is : o.layers ≡ (level + 1) % 2 ^ 32

-- Q of the stream that said so, where one did
abbrev pub Blames : (Origin → Type 0) → Refusal → Type 0
Blames Q e = IfSome (notice e).from Q

-- who refused a call of a stream that stands at a place: itself, or one below
abbrev pub Source : {X : Type 0} → Call → ℕ → List ℕ → Result X Refusal → Type 0
Source c at places (Ok v) = Unit {0}
Source c at places (Err e) = Blames (λ o. (o ≡ own c at) ⊎ Passed c places o) e

-- a refusal that came from below
abbrev pub FromBelow : {X : Type 0} → Call → List ℕ → Result X Refusal → Type 0
FromBelow c places (Ok v) = Unit {0}
FromBelow c places (Err e) = Blames (λ o. Passed c places o) e
