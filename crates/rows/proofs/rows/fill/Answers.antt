use Rattle.stream.proofs.Steps.{got_more}
use Rattle.rows.proofs.OnRows.{fill_end}
use Rattle.rows.proofs.rows.fill.Goals as goal

pub returns-then-m-eq0-clause-rule : goal.returns-then-m-eq0-clause-rule
returns-then-m-eq0-clause-rule g c =
    let s = c.args.s.now in
    fill_end (g.S.RawStream.view s) (g.S.RawStream.view c.loop-n.s) (g.S.RawStream.view c.readinto.new.self) c.args.row.now c.loop-n.row c.readinto.new.buf c.loop-n.n c.in_ok-m.m (g.met.S.RawStream.sound s) c.loop-n.invariant c.in_ok-m.ensures.rule c.if-m-eq0.true

pub loop-n-preserved : goal.loop-n-preserved
loop-n-preserved g c =
    let s = c.args.s.now in
    got_more (g.S.RawStream.view s) (g.S.RawStream.view c.loop-n.s) (g.S.RawStream.view c.readinto.new.self) c.args.row.now c.loop-n.row c.readinto.new.buf c.loop-n.n c.in_ok-m.m (g.met.S.RawStream.sound s) c.loop-n.invariant c.in_ok-m.ensures.rule
