pub mod ActiveCalls
pub mod Balances
