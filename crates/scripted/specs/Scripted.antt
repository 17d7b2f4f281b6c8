-- A memory stream whose calls a script may cut short or refuse.
use Rattle.std.specs.Prelude.{ℕ, min, false, List, Ok, Err, Result}
use Rattle.calls.specs.declared.refusal.Refusal.{Refusal}
use Rattle.stream.specs.Stream.{Stream, Pile, Sound}
use Rattle.memory.specs.Memory.{memory, memory_pile}
use Rattle.script.specs.declared.Entry.{Entry}
use Rattle.scripted.specs.declared.ScriptedStream.{ScriptedStream}
use Rattle.script.specs.Script.{entries_left, grants}

-- a stream that is steady exactly while each entry left is an AtMost of more than 0
abbrev pub under : List Entry → Stream → Stream
under es s = record { shown = s.shown; position = s.position; limit = s.limit; stored = s.stored; held = s.held; steady = grants es }

-- in order, as the stream is without the script
pub sound_under : (s : Stream) (es : List Entry) → Sound s → Sound (under es s)
sound_under s es k = record { capped = k.capped; placed = k.placed; sized = k.sized; showing = k.showing; storing = k.storing }

-- it does not always move all it can
abbrev pub cut_short : Pile → Pile
cut_short p = record { headers = p.headers; bottom = p.bottom; places = p.places; whole = false }

abbrev pub scripted : ScriptedStream → Stream
scripted s = under (entries_left s.script) (memory s.memory)

abbrev pub scripted_pile : ScriptedStream → Pile
scripted_pile s = cut_short (memory_pile s.memory)

-- where the verdict grants, the answer, given how many bytes may move
abbrev pub granting : {X : Type 0} → Result ℕ Refusal → (ℕ → Result X Refusal) → Result X Refusal
granting (Ok most) answer = answer most
granting (Err e) answer = Err e

-- a count cut at the most that may move
abbrev pub at_most : Result ℕ Refusal → ℕ → Result ℕ Refusal
at_most (Ok n) most = Ok (min n most)
at_most (Err e) most = Err e
