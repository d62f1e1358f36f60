mod Found
mod Pieces
mod ReadLines
mod Shortest
mod Told
