pub mod Fields
pub mod Table
pub mod Linear
pub mod Division
pub mod SingleErrors
pub mod Verdicts
pub mod WrongBits
pub mod Payloads
