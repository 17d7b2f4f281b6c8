-- A stream without the first h places of the one below: it shows, stores and holds what lies below from place h on, has a position
-- of its own, and a limit that is h less.
use Rattle.std.specs.Prelude.{◌≡◌, ℕ, ◌+◌, ◌-◌, ◌≤◌, ◌||◌, List, ◌∷◌, drop, pos, Ok, Err, MatchBool, Result, ◌==◌}
use Rattle.calls.specs.declared.refusal.Call.{Call}
use Rattle.calls.specs.declared.refusal.Refusal.{Refusal}
use Rattle.calls.specs.declared.refusal.Whence.{Whence}
use Rattle.calls.specs.declared.refusal.Whence.TheVariants.{End}
use Rattle.calls.specs.Refusal.{notice, own}
use Rattle.stream.specs.Source.{Blames, Passed}
use Rattle.stream.specs.Stream.{Stream, Pile, Sought, Refused, Kept, origin}

abbrev pub skipped : Stream → ℕ → ℕ → Stream
skipped below h place = record { shown = drop h below.shown; position = place; limit = below.limit - h; stored = drop h below.stored; held = λ p b. below.held (h + p) b; steady = below.steady }

abbrev pub skipped_pile : Stream → Pile → ℕ → Pile
skipped_pile below under h = record { headers = under.headers + h; bottom = under.bottom; places = below.position ∷ under.places; whole = under.whole }

-- the header and the position lie within the limit
pub record InSkip (below : Stream) (h place : ℕ) : Type 0 where
  pub head_fits : h ≤ below.limit
  pub place_fits : place ≤ below.limit - h

-- 11 and 12 are this layer's own; any other refusal came from below with one layer more
abbrev pub Says : {X : Type 0} → Call → ℕ → List ℕ → Result X Refusal → Type 0
Says c at places (Ok v) = Unit {0}
Says c at places (Err e) = MatchBool ((notice e).number == 11 || (notice e).number == 12) (Blames (λ o. o ≡ own c at) e) (Blames (λ o. Passed c places o) e)

-- ── inside the layer ──

-- a stream put at a place within its limit, or a refusal of 7 to 10 passed on
abbrev pub Aligned : Stream → Stream → ℕ → Result ℕ Refusal → Type 0
Aligned s t place (Ok v) = Sought s t (pos place) v
Aligned s t place (Err e) = Refused s t ⊥ ⊥ e

-- the place that a seek of the layer counts from; only the end can be refused
abbrev pub Started : Stream → Stream → ℕ → ℕ → Whence → Result ℕ Refusal → Type 0
Started s t h place o (Ok v) = (v ≡ origin (skipped s h place) o) × Kept s t × (t.shown ≡ s.shown)
Started s t h place o (Err e) = Refused s t ⊥ ⊥ e × (o ≡ End)
