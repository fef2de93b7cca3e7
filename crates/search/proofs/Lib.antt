pub mod AllTurns
pub mod Beginning
pub mod Leading
pub mod Numbers
pub mod Listing
pub mod Marking
pub mod MarkedList
pub mod AtEnd
