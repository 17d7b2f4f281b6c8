-- Rows of quotes in a stream: what a get answers, what a put leaves, and why either is refused.
use Rattle.std.specs.Prelude.{◌≡◌, ℕ, ◌+◌, ◌<◌, ◌≤◌, cond, ◌⊎◌, List, [], ◌∷◌, length, take, drop, ℤ, Some, None, Ok, Err, Option, Result, nat_le}
use Rattle.std.specs.Option.{ok_or}
use Rattle.calls.specs.declared.refusal.Call.{Call}
use Rattle.calls.specs.declared.refusal.Refusal.{Refusal}
use Rattle.calls.specs.Refusal.{Notice, notice}
use Rattle.stream.specs.Source.{Source}
use Rattle.stream.specs.Stream.{Stream, Pile, Kept, Why, At, laid}
use Rattle.rows.specs.declared.refusal.RowRefusal.{RowRefusal}
use Rattle.rows.specs.declared.refusal.RowRefusal.TheVariants.{Missing, NoQuote, Unwritable, Below}
use Rattle.rows.specs.declared.refusal.PutRefusal.{PutRefusal}

-- 13: a row not wholly there; 14: row bytes that are no quote; 15: a value that its kind cannot write; else what the stream said
abbrev pub row_notice : RowRefusal → Notice
row_notice Missing = record { number = 13; from = None; code = None }
row_notice NoQuote = record { number = 14; from = None; code = None }
row_notice Unwritable = record { number = 15; from = None; code = None }
row_notice (Below e) = notice e

-- the bytes of the row at a place
abbrev pub row_at : List ℕ → ℕ → ℕ → List ℕ
row_at bytes width p = take width (drop p bytes)

-- ── get ──

-- the answer by the bytes shown: 13 where the row is not wholly there, 14 where it is no quote, else its value
abbrev pub gotten : (List ℕ → Option ℤ) → ℕ → List ℕ → ℕ → Result ℤ RowRefusal
gotten reads width bytes p = cond (nat_le (p + width) (length bytes)) (ok_or (reads (row_at bytes width p)) NoQuote) (Err Missing)

-- that is the answer, unless the stream is not steady and refused
abbrev pub Answered : Stream → Result ℤ RowRefusal → Result ℤ RowRefusal → Type 0
Answered s a (Ok v) = Ok v ≡ a
Answered s a (Err Missing) = Err Missing ≡ a
Answered s a (Err NoQuote) = Err NoQuote ≡ a
Answered s a (Err Unwritable) = ⊥
Answered s a (Err (Below e)) = Why s ⊥ ⊥ (notice e).number

-- where granted, the position is the row's end
abbrev pub EndsAt : {X Y : Type 0} → Stream → ℕ → Result X Y → Type 0
EndsAt t end (Ok v) = t.position ≡ end
EndsAt t end (Err e) = Unit {0}

-- no byte shown is moved
pub record GotRow (reads : List ℕ → Option ℤ) (width p : ℕ) (s t : Stream) (r : Result ℤ RowRefusal) : Type 0 where
  pub kept : Kept s t
  pub shown_same : t.shown ≡ s.shown
  pub answered : Answered s (gotten reads width s.shown p) r
  pub ends : EndsAt t (p + width) r

-- ── put ──

-- why a put of a value that can be written may be refused: by 11 where the row starts past the limit, by 12 where it ends past it,
-- by 7 to 10 where the stream is not steady; never by 13, 14 or 15
abbrev pub PutWhy : Stream → ℕ → ℕ → RowRefusal → Type 0
PutWhy s width p Missing = ⊥
PutWhy s width p NoQuote = ⊥
PutWhy s width p Unwritable = ⊥
PutWhy s width p (Below e) = Why s (s.limit < p) ((p ≤ s.limit) × (s.limit < p + width)) (notice e).number

-- these bytes are laid at a place, and nothing else of what is shown is changed
pub record LaidAt (bytes : List ℕ) (p : ℕ) (s t : Stream) : Type 0 where
  pub kept : Kept s t
  pub shown_laid : t.shown ≡ laid s.shown p bytes

-- refused: as many leading bytes of the row are new as the refusal tells, and none where the row does not fit the limit
pub record PutPart (row : List ℕ) (p : ℕ) (s t : Stream) (x : PutRefusal) : Type 0 where
  pub part : LaidAt (take x.fresh row) p s t
  pub count : x.fresh ≤ length row
  pub fits : 0 < x.fresh → p + length row ≤ s.limit
  pub why : PutWhy s (length row) p x.why

-- granted: the row is new, it ends within the limit, and so does the position at its end
pub record PutWhole (row : List ℕ) (p : ℕ) (s t : Stream) : Type 0 where
  pub whole : LaidAt row p s t
  pub fits : p + length row ≤ s.limit
  pub ends : t.position ≡ p + length row

-- a put of the row that a value writes; where it writes none, 15, and the stream stays as it was
abbrev pub PutRow : Option (List ℕ) → ℕ → Stream → Stream → Result (Unit {0}) PutRefusal → Type 0
PutRow None p s t r = (r ≡ Err (record { why = Unwritable; fresh = 0 })) × (t ≡ s)
PutRow (Some row) p s t (Ok v) = PutWhole row p s t
PutRow (Some row) p s t (Err x) = PutPart row p s t x × (x.fresh < length row)

-- ── put, flush and get back ──

-- granted: the value got back is the one put, and each byte stored is the one shown at its place
pub record PatchWhole (value : ℤ) (row : List ℕ) (p : ℕ) (s t : Stream) (got : ℤ) : Type 0 where
  pub comes_back : got ≡ value
  pub put : PutWhole row p s t
  pub stored_shown : (q b : ℕ) → At t.stored q b → At t.shown q b

abbrev pub PatchRow : ℤ → Option (List ℕ) → ℕ → Stream → Stream → Result ℤ PutRefusal → Type 0
PatchRow value None p s t r = (r ≡ Err (record { why = Unwritable; fresh = 0 })) × (t ≡ s)
PatchRow value (Some row) p s t (Ok got) = PatchWhole value row p s t got
PatchRow value (Some row) p s t (Err x) = PutPart row p s t x

-- ── who refused ──

-- the stream said so in one of these calls, or one below it did
abbrev pub SaidIn : List Call → Stream → Pile → Refusal → Type 0
SaidIn [] t q e = ⊥
SaidIn (c ∷ cs) t q e = Source {X = ℕ} c t.position q.places (Err e) ⊎ SaidIn cs t q e

abbrev pub RowSaid : List Call → Stream → Pile → RowRefusal → Type 0
RowSaid cs t q Missing = Unit {0}
RowSaid cs t q NoQuote = Unit {0}
RowSaid cs t q Unwritable = Unit {0}
RowSaid cs t q (Below e) = SaidIn cs t q e

abbrev pub GetSaid : {X : Type 0} → List Call → Stream → Pile → Result X RowRefusal → Type 0
GetSaid cs t q (Ok v) = Unit {0}
GetSaid cs t q (Err x) = RowSaid cs t q x

abbrev pub PutSaid : {X : Type 0} → List Call → Stream → Pile → Result X PutRefusal → Type 0
PutSaid cs t q (Ok v) = Unit {0}
PutSaid cs t q (Err x) = RowSaid cs t q x.why
