pub mod OnMemory
