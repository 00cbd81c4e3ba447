mod Brought
mod Turns
