pub mod Damage
pub mod Command
pub mod Ends
pub mod Tally
pub mod Outcome
pub mod Trial
