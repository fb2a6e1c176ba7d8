mod Lines
mod Outgoing
mod Refusing
mod Seated
mod Promised
mod Telling
mod Exchanging
