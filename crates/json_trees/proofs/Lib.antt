pub mod Seen
mod Numbers
mod Texts
