pub mod BasisPoints
