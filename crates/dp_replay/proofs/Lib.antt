mod Left
mod Pixels
