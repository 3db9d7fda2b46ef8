pub mod RowByRow
pub mod Columns
pub mod Cells
pub mod Seen
pub mod Done
pub mod Held
pub mod Systems
