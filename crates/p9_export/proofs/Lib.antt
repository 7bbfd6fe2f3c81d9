mod Rooms
mod Sessions
mod Sounds
mod Steps
