mod Built
mod Ends
mod Layouts
mod Merged
mod Numerals
