-- What a set of addresses has, and its prefixes and runs.
pub mod Counts
pub use Rattle.address_prefixes.specs.Prefixes
pub use Rattle.address_prefixes.specs.Runs
pub use Rattle.address_prefixes.specs.declared.prefix.Prefix
