-- Lemmas.
mod Ends
mod Fields
mod Marks
pub mod Numbers
mod Written
