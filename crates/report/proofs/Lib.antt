mod Writing
mod Joining
mod Registers
mod Fields
mod CsvText
mod PlainTexts
mod Tables
