pub mod OnSkip
