mod Fronts
mod Wholes
mod Passing
mod Literals
mod Steps
mod Standing
