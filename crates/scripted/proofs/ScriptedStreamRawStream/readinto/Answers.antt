use Rattle.std.proofs.Common.{refl}
use Rattle.calls.specs.declared.refusal.Call.TheVariants as call
use Rattle.calls.specs.Refusal.{own}
use Rattle.memory.specs.Memory.{memory}
use Rattle.script.specs.Script.{entries_left}
use Rattle.scripted.proofs.OnScript.{most_some, read_under}
use Rattle.scripted.proofs.ScriptedStreamRawStream.readinto.Goals as goal

pub returns-clause-rule : goal.returns-clause-rule
returns-clause-rule c =
    let s = c.args.self.now in
    let a = c.in_ok-most.ensures in
    let es = entries_left s.script in
    let buf = c.args.buf.now in
    read_under (memory s.memory) (memory c.readinto.new.self) es (entries_left c.next.new.self) buf c.readinto.new.buf c.min-k.result c.in_ok-most.most c.readinto.result refl a.used c.min-k.ensures (most_some es (own call.ReadInto c.position.result) c.in_ok-most.most a.answer) c.readinto.ensures.rule
