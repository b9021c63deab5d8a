mod Trays
mod Whole
