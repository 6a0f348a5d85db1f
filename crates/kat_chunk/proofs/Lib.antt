mod Options
mod Parts
mod Values
mod Cells
