use Rattle.std.proofs.Common.{rules}
use Rattle.calls.specs.declared.refusal.Call.TheVariants as call
use Rattle.script.specs.Script.{entries_left}
use Rattle.scripted.proofs.OnScript.{refused_leaves}
use Rattle.scripted.proofs.ScriptedStreamRawStream.seek.Goals as goal

pub returns-in_err-next-clause-leaves : goal.returns-in_err-next-clause-leaves
returns-in_err-next-clause-leaves c =
    let s = c.args.self.now in
    refused_leaves call.Seek s.memory (entries_left s.script) (entries_left c.next.new.self) _ c.in_err-next.field-0.0 c.from_residual-in_err-next.result c.in_err-next.ensures.answer (search rules) c.from_residual-in_err-next.ensures.1
