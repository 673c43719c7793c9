pub mod SourceSteps
