mod Plays
mod Machines
mod Guarding
mod Alikes
mod Chosen
