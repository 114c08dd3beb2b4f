pub mod Rule
pub mod Steps
pub mod Props
pub mod Phases
pub mod Seats
pub mod Desks
