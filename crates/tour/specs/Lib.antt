-- What ports are, what a table says of them, and what the bytes of a download are.
pub mod Coverage
pub mod Ports
pub mod Rules
