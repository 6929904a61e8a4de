mod Rows
mod Figures
