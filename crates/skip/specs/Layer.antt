-- The layer, as a stream over the one that it holds.
use Rattle.stream.specs.declared.raw.RawStream.{Ghosts}
use Rattle.stream.specs.Stream.{Stream, Pile}
use Rattle.skip.specs.declared.HeaderSkip.{HeaderSkip}
use Rattle.skip.specs.Skip.{skipped, skipped_pile}

abbrev pub skipping : {S : Type 0} {g : Ghosts S} → HeaderSkip S g → Stream
skipping {g = g} s = skipped (g.view s.raw) s.head s.pos

abbrev pub skipping_pile : {S : Type 0} {g : Ghosts S} → HeaderSkip S g → Pile
skipping_pile {g = g} s = skipped_pile (g.view s.raw) (g.pile s.raw) s.head
