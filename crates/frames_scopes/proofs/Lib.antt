pub mod NestLemmas
pub mod ChainLemmas
pub mod NestSteps
pub mod NestRuns
pub mod FrameLemmas
