-- What the entries of a script say.
use Rattle.std.specs.Prelude.{ℕ, ◌-◌, ◌^◌, Bool, true, false, cond, ◌&&◌, List, [], ◌∷◌, Ok, Err, Result, ◌==◌, nat_lt}
use Rattle.calls.specs.declared.refusal.Call.{Call}
use Rattle.calls.specs.declared.refusal.Call.TheVariants.{ReadInto, Write, Seek, Tell, Truncate, Flush}
use Rattle.calls.specs.declared.refusal.Origin.{Origin}
use Rattle.calls.specs.declared.refusal.Refusal.{Refusal}
use Rattle.calls.specs.declared.refusal.Refusal.TheVariants as refusal
use Rattle.script.specs.declared.Entry.{Entry}
use Rattle.script.specs.declared.Entry.TheVariants.{AtMost, NotNow, Bad, Fault}
use Rattle.script.specs.declared.Script.{Script}

-- the entries left
abbrev pub entries_left : Script → List Entry
entries_left s = s.left.now

-- the entry that a kind and a number stand for
abbrev pub entry_of : ℕ → ℕ → Entry
entry_of kind n = cond (kind == 0) (AtMost n) (cond (kind == 1) NotNow (cond (kind == 2) (Bad n) (Fault n)))

-- a bad entry: a bad count at readinto and write, a bad position at seek and tell, elsewhere a fault
abbrev pub second : Origin → ℕ → Call → Refusal
second o n ReadInto = refusal.BadCount o
second o n Write = refusal.BadCount o
second o n Seek = refusal.BadPosition o
second o n Tell = refusal.BadPosition o
second o n Truncate = refusal.Fault o n
second o n Flush = refusal.Fault o n

-- at most n bytes are moved, and n = 0 is not now; a bad entry says by the call what is bad; a fault has code n
abbrev pub judged : Entry → Origin → Result ℕ Refusal
judged (AtMost n) o = cond (n == 0) (Err (refusal.NotNow o)) (Ok n)
judged NotNow o = Err (refusal.NotNow o)
judged (Bad n) o = Err (second o n o.call)
judged (Fault n) o = Err (refusal.Fault o n)

-- how many bytes the first entry lets a call move, or why it is refused; after the list all is granted
abbrev pub verdict : List Entry → Origin → Result ℕ Refusal
verdict [] o = Ok (2 ^ 64 - 1)
verdict (e ∷ es) o = judged e o

-- whether an entry lets a call move a byte
abbrev pub moves : Entry → Bool
moves (AtMost n) = nat_lt 0 n
moves NotNow = false
moves (Bad n) = false
moves (Fault n) = false

-- each entry does
abbrev pub grants : List Entry → Bool
grants [] = true
grants (e ∷ es) = moves e && grants es
