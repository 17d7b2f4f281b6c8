use Rattle.std.proofs.Common.{arith, rules}
use Rattle.memory.proofs.OnMemory.{after_write}
use Rattle.memory.proofs.MemoryStreamRawStream.write.Goals as goal

pub returns-clause-rule : goal.returns-clause-rule
returns-clause-rule c =
    let s = c.args.self.now in
    after_write s.bytes.now _ _ c.args.buf.now s.len s.pos c.min.result c.max-self.result s.in_room (omega (arith, s.in_room.place_fits)) (search rules) c.min.ensures c.clear.ensures.bytes c.lay.ensures.bytes c.max-self.ensures
