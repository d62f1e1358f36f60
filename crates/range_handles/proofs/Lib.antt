mod Boxes
mod Fills
mod Floats
mod InOrder
mod Many
mod Upto
