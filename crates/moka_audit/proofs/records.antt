mod Onward
mod Parts
mod Tidying
mod Walking
