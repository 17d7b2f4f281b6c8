pub mod OnRows
