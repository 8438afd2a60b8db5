mod Fronts
mod Served
