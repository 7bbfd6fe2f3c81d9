pub mod Pace
pub mod Coming
pub mod Rounds
pub mod Life
pub mod Visits
pub mod Served
pub mod Run
pub mod Laws
