-- The memory stream is a file on its slice.
use Rattle.memory.specs.declared.MemoryStream.{MemoryStream}
use Rattle.memory.specs.Room.{file, ground}
use Rattle.stream.specs.Stream.{Stream, Pile}

abbrev pub memory : MemoryStream → Stream
memory m = file m.bytes.now m.len m.pos

abbrev pub memory_pile : MemoryStream → Pile
memory_pile m = ground m.bytes.now m.len
