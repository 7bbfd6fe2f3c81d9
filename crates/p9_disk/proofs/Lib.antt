mod Effects
mod Moments
mod Pieces
mod Walks
