pub mod Sheets
pub mod Memory
pub mod Rows
pub mod Columns
pub mod BitShelf
pub mod ColumnShelf
