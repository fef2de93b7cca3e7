pub mod FiveDigits
