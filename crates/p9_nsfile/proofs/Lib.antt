pub mod Running
pub mod GivenRuns
