mod Counting
mod TakesTurns
