use Rattle.std.proofs.Common.{length, subst, take, drop, ◌-◌}
use Rattle.stream.specs.Stream.{Write}
use Rattle.stream.proofs.Refusals.{granted_up}
use Rattle.rows.specs.declared.refusal.PutRefusal.{PutRefusal}
use Rattle.rows.proofs.OnRows.{lay_more}
use Rattle.rows.proofs.rows.lay.Goals as goal

pub loop-n-preserved : goal.loop-n-preserved
loop-n-preserved g c =
    let i = c.loop-n.invariant in
    let row = c.args.row.now in
    let t = g.S.RawStream.view c.loop-n.s in
    let u = g.S.RawStream.view c.write.new.self in
    let w = subst (Write t u (take (length row - c.loop-n.n) (drop c.loop-n.n row))) (granted_up PutRefusal c.write.result c.in_ok-n.field-0 c.in_ok-n.ensures.cases) c.write.ensures.rule in
    let p = lay_more (g.S.RawStream.view c.args.s.now) t u row c.loop-n.n c.in_ok-n.field-0 (g.met.S.RawStream.sound c.args.s.now) i.1 i.0 w in
    (p.0, p.1, λ _. p.2)
