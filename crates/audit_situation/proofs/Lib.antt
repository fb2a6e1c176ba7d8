mod Listing
mod Places
mod Ranked
