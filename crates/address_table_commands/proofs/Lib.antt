-- Lemmas over what the commands read and print.
pub mod Compared
pub mod Files
pub mod Numbers
pub mod Printed
