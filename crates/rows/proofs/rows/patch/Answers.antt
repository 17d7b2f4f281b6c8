use Rattle.std.proofs.Common.{◌≡◌, ◌*◌, sym, ◌∙◌, w32, SFits, rules}
use Rattle.rows.specs.declared.refusal.RowRefusal.TheVariants.{Below}
use Rattle.rows.proofs.OnRows.{patch_unflushed, patch_granted, patch_ungotten}
use Rattle.rows.proofs.rows.patch.Goals as goal

pub returns-in-Err-clause-rule : goal.returns-in-Err-clause-rule
returns-in-Err-clause-rule g c =
    let is : c.into.result ≡ Below c.in-Err.e = c.into.ensures in
    rw is (patch_unflushed g.Q.Quote.writes c.args.value c.WIDTH.result (c.args.i * g.Q.Quote.WIDTH) (g.S.RawStream.view c.args.s.now) (g.S.RawStream.view c.put.new.s) (g.S.RawStream.view c.flush.new.self) c.in_ok-put.field-0 c.in-Err.e c.ranges.value (λ row is. (g.met.Q.Quote.back c.args.value row is).1 ∙ sym c.WIDTH.ensures) c.in_ok-put.ensures.rule c.in-Err.ensures.rule)

pub returns-in-Ok-clause-rule : goal.returns-in-Ok-clause-rule
returns-in-Ok-clause-rule g c =
    let f : SFits w32 c.in-Ok.v = search rules in
    patch_granted g.Q.Quote.writes g.Q.Quote.reads c.args.value g.Q.Quote.WIDTH (c.args.i * g.Q.Quote.WIDTH) (g.S.RawStream.view c.args.s.now) (g.S.RawStream.view c.put.new.s) (g.S.RawStream.view c.flush.new.self) (g.S.RawStream.view c.get.new.s) c.in_ok-put.field-0 c.in-Ok.v c.ranges.value f g.met.Q.Quote.wide.0 (g.met.Q.Quote.back c.args.value) c.in_ok-put.ensures.rule c.in_default.ensures.rule (g.met.S.RawStream.sound c.get.new.s) c.in-Ok.ensures.rule

pub returns-in-Err-get-clause-rule : goal.returns-in-Err-get-clause-rule
returns-in-Err-get-clause-rule g c =
    patch_ungotten g.Q.Quote.writes g.Q.Quote.reads c.args.value g.Q.Quote.WIDTH c.WIDTH-in-Err-get.result (c.args.i * g.Q.Quote.WIDTH) (g.S.RawStream.view c.args.s.now) (g.S.RawStream.view c.put.new.s) (g.S.RawStream.view c.flush.new.self) (g.S.RawStream.view c.get.new.s) c.in_ok-put.field-0 c.in-Err-get.why c.ranges.value c.WIDTH-in-Err-get.ensures g.met.Q.Quote.wide.0 (g.met.Q.Quote.back c.args.value) c.in_ok-put.ensures.rule c.in_default.ensures.rule c.in-Err-get.ensures.rule
