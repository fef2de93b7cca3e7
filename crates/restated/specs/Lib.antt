pub mod Bars
pub mod BookBars
