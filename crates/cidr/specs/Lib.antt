-- What the commands make of lists.
pub mod Commands
pub mod Firewalls
pub mod Limits
pub mod Lines
pub mod Relations
pub mod Shown
