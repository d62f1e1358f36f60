-- Lemmas.
mod Bytes
