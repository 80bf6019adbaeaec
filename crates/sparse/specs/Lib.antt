pub mod Sparse
pub mod ByRows
pub mod ByRowsLaws
pub mod Matrix
pub mod Stored
pub mod Scan
pub mod ScanLaws
pub mod ProductLaws
