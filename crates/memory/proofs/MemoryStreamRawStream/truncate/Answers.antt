use Rattle.calls.specs.Places.{size_of}
use Rattle.stream.proofs.Streams.{within_is, within_at}
use Rattle.std.proofs.Common.{ℕ, Some, sym, ap, ◌∙◌}
use Rattle.memory.specs.Room.{room}
use Rattle.memory.proofs.OnMemory.{after_truncate}
use Rattle.memory.proofs.MemoryStreamRawStream.truncate.Goals as goal

pub returns-clause-rule : goal.returns-clause-rule
returns-clause-rule c =
    let s = c.args.self.now in
    let z = size_of s.pos c.args.size in
    let g = within_is (room s.bytes.now) z c.in_ok-v.v (within_at c.limit.result (room s.bytes.now) (size_of c.position.result c.args.size) z (Some c.in_ok-v.v) c.limit.ensures (ap (λ (p : ℕ). size_of p c.args.size) c.position.ensures) (sym c.in_ok-v.ensures.ok_part ∙ c.size_of_cut.ensures)) in
    after_truncate s.bytes.now _ s.len s.pos c.min.result c.in_ok-v.v _ _ s.in_room g.0 g.1 c.min.ensures c.clear.ensures.bytes c.clear.ensures.rest.1
