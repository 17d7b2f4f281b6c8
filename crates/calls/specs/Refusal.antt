-- Each refusal by its number and its values, and how a layer passes one on.
use Rattle.std.specs.Prelude.{ℕ, ◌+◌, ◌%◌, ◌^◌, Some, None, Option}
use Rattle.calls.specs.declared.refusal.Call.{Call}
use Rattle.calls.specs.declared.refusal.Origin.{Origin}
use Rattle.calls.specs.declared.refusal.Refusal.{Refusal}
use Rattle.calls.specs.declared.refusal.Refusal.TheVariants.{BufferTooSmall, BufferTooLarge, HeaderTooLong, BadReadSize, ShortBuffer, BadWhence, NotNow, BadCount, BadPosition, Fault, OutOfRange, PastLimit}

-- what a refusal tells: its number; from 7 on the stream that said so; at 10 that stream's own code
pub record Notice : Type 0 where
  pub number : ℕ
  pub from : Option Origin
  pub code : Option ℕ

abbrev pub notice : Refusal → Notice
notice BufferTooSmall = record { number = 1; from = None; code = None }
notice BufferTooLarge = record { number = 2; from = None; code = None }
notice HeaderTooLong = record { number = 3; from = None; code = None }
notice BadReadSize = record { number = 4; from = None; code = None }
notice ShortBuffer = record { number = 5; from = None; code = None }
notice BadWhence = record { number = 6; from = None; code = None }
notice (NotNow o) = record { number = 7; from = Some o; code = None }
notice (BadCount o) = record { number = 8; from = Some o; code = None }
notice (BadPosition o) = record { number = 9; from = Some o; code = None }
notice (Fault o c) = record { number = 10; from = Some o; code = Some c }
notice (OutOfRange o) = record { number = 11; from = Some o; code = None }
notice (PastLimit o) = record { number = 12; from = Some o; code = None }

-- a stream's own refusal of a call: at its position, with no layer above
abbrev pub own : Call → ℕ → Origin
own c at = record { call = c; position = at; layers = 0 }

-- one layer more lies above the stream that refused; the count wraps at 32 bits
abbrev pub under : Origin → Origin
under o = record { call = o.call; position = o.position; layers = (o.layers + 1) % 2 ^ 32 }

-- a refusal as the next layer passes it on
abbrev pub deepened : Refusal → Refusal
deepened BufferTooSmall = BufferTooSmall
deepened BufferTooLarge = BufferTooLarge
deepened HeaderTooLong = HeaderTooLong
deepened BadReadSize = BadReadSize
deepened ShortBuffer = ShortBuffer
deepened BadWhence = BadWhence
deepened (NotNow o) = NotNow (under o)
deepened (BadCount o) = BadCount (under o)
deepened (BadPosition o) = BadPosition (under o)
deepened (Fault o c) = Fault (under o) c
deepened (OutOfRange o) = OutOfRange (under o)
deepened (PastLimit o) = PastLimit (under o)
