use Rattle.calls.specs.declared.refusal.Call.TheVariants as call
use Rattle.stream.proofs.Streams.{piled_then}
use Rattle.skip.proofs.OnSkip.{leaves_err, says_err, read_why, read_skip}
use Rattle.skip.proofs.HeaderSkipRawStream.readinto.Goals as goal

pub returns-in_err-got-clause-leaves : goal.returns-in_err-got-clause-leaves
returns-in_err-got-clause-leaves g c =
    let s = c.args.self.now in
    let m = c.align.new.self in
    let t = c.readinto.new.self in
    let l = c.readinto.ensures.leaves in
    leaves_err call.ReadInto (g.S.RawStream.view s.raw) (g.S.RawStream.view t) (g.S.RawStream.pile s.raw) (g.S.RawStream.pile t) s.head m.head m.pos c.readinto.result c.from_residual-in_err-got.result c.in_err-got.field-0.0 c.align.ensures.rest.0
    (piled_then _ _ _ c.align.ensures.piled l.piled) l.source c.in_err-got.ensures.cases c.from_residual-in_err-got.ensures.1

pub returns-in_err-got-clause-says : goal.returns-in_err-got-clause-says
returns-in_err-got-clause-says g c =
    let b = g.S.RawStream.view c.align.new.self.raw in
    let t = c.readinto.new.self in
    says_err call.ReadInto ⊥ ⊥ b (g.S.RawStream.view t) (g.S.RawStream.pile t) c.args.self.now.pos c.readinto.result c.from_residual-in_err-got.result c.in_err-got.field-0.0 (λ x. x) (λ x. x)
    (read_why b (g.S.RawStream.view t) _ _ _ c.readinto.ensures.rule) c.readinto.ensures.leaves.source c.in_err-got.ensures.cases c.from_residual-in_err-got.ensures.1

pub returns-clause-rule : goal.returns-clause-rule
returns-clause-rule g c =
    let s = c.args.self.now in
    let m = c.align.new.self in
    read_skip (g.S.RawStream.view s.raw) (g.S.RawStream.view m.raw) (g.S.RawStream.view c.readinto.new.self) s.head m.head s.pos m.pos c.in_ok-got.got _ c.args.buf.now _ c.readinto.result (g.met.S.RawStream.sound s.raw) s.in_skip c.align.ensures.rest.0 c.align.ensures.rest.1 c.in_ok-align.ensures.rule
    c.readinto.ensures.rule c.in_ok-got.ensures.cases
