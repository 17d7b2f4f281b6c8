use Rattle.std.proofs.Common.{rules}
use Rattle.memory.proofs.OnMemory.{read_part}
use Rattle.memory.proofs.MemoryStreamRawStream.readinto.Goals as goal

pub returns-clause-rule : goal.returns-clause-rule
returns-clause-rule c =
    let s = c.args.self.now in
    read_part s.bytes.now _ _ s.len s.pos _ s.in_room (search rules) (search rules) (search rules) (search rules)
