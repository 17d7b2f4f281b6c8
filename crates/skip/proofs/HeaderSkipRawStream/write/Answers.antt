use Rattle.std.proofs.Common.{◌+◌, ◌-◌, ◌<◌, length}
use Rattle.calls.specs.declared.refusal.Call.TheVariants as call
use Rattle.stream.proofs.Streams.{piled_then}
use Rattle.skip.proofs.OnSkip.{found_at, ends_in, fits_below, leaves_err, says_err, write_why, wrote_skip}
use Rattle.skip.proofs.HeaderSkipRawStream.write.Goals as goal

pub returns-in_err-taken-clause-leaves : goal.returns-in_err-taken-clause-leaves
returns-in_err-taken-clause-leaves g c =
    let s = c.args.self.now in
    let m = c.align.new.self in
    let t = c.write.new.self in
    let l = c.write.ensures.leaves in
    leaves_err call.Write (g.S.RawStream.view s.raw) (g.S.RawStream.view t) (g.S.RawStream.pile s.raw) (g.S.RawStream.pile t) s.head m.head m.pos c.write.result c.from_residual-in_err-taken.result c.in_err-taken.field-0.0 c.align.ensures.rest.0
    (piled_then _ _ _ c.align.ensures.piled l.piled) l.source c.in_err-taken.ensures.cases c.from_residual-in_err-taken.ensures.1

pub returns-in_err-taken-clause-says : goal.returns-in_err-taken-clause-says
returns-in_err-taken-clause-says g c =
    let s = c.args.self.now in
    let a = g.S.RawStream.view s.raw in
    let b = g.S.RawStream.view c.align.new.self.raw in
    let t = c.write.new.self in
    let n = length c.args.buf.now in
    let to = c.in_ok-align.ensures.rule in
    let room = ends_in n s.pos c.limit-limit.result (a.limit - s.head) s.in_skip.place_fits c.limit-limit.ensures c.if-buf-limit.false in
    let fits = fits_below n s.head s.pos b.position a.limit b.limit (found_at (s.head + s.pos) _ b.position to.goal_is to.moved) to.kept.limit_same s.in_skip.head_fits room in
    says_err call.Write ⊥ (b.limit < b.position + n) b (g.S.RawStream.view t) (g.S.RawStream.pile t) s.pos c.write.result c.from_residual-in_err-taken.result c.in_err-taken.field-0.0 (λ x. x) fits
    (write_why b (g.S.RawStream.view t) _ _ c.write.ensures.rule) c.write.ensures.leaves.source c.in_err-taken.ensures.cases c.from_residual-in_err-taken.ensures.1

pub returns-clause-rule : goal.returns-clause-rule
returns-clause-rule g c =
    let s = c.args.self.now in
    let m = c.align.new.self in
    wrote_skip (g.S.RawStream.view s.raw) (g.S.RawStream.view m.raw) (g.S.RawStream.view c.write.new.self) s.head m.head s.pos m.pos c.in_ok-taken.taken _ c.args.buf.now c.write.result (g.met.S.RawStream.sound s.raw) s.in_skip c.align.ensures.rest.0 c.align.ensures.rest.1 c.in_ok-align.ensures.rule
    c.write.ensures.rule c.in_ok-taken.ensures.cases
