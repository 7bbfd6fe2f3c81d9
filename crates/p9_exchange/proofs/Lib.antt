mod Inputs
mod Numbered
mod Copies
mod Talks
mod Sections
