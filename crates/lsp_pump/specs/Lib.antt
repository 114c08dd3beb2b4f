pub mod Spaced
pub mod Pieces
pub mod Steps
pub mod SeatWay
pub mod Reading
pub mod Pumped
pub mod Onward
pub mod PumpsSession
