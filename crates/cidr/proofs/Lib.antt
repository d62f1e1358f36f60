-- Lemmas.
mod Commands
mod Compared
mod Firewalls
mod Halted
mod Kept
mod Limits
mod LookedUp
