mod Parts
mod Calls
mod Weighing
mod Bounding
mod Emptying
mod Exchanging
mod Serving
mod Turning
