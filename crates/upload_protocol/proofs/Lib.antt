mod Drawn
mod Fits
mod Acts
mod Room
mod Written
