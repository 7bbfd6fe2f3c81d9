mod Lives
mod Sends
mod Holds
mod Accepting
mod Rounds
mod Reports
mod Visits
mod Whole
