pub mod Record
pub mod RecordReading
pub mod Closed
