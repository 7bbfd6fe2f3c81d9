mod Parsing
mod Asking
