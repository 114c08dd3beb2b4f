pub mod Entries
pub mod Law
pub mod Origin
pub mod Outgoing
pub mod Proxy
pub mod Sent
pub mod Shown
pub mod Tables
