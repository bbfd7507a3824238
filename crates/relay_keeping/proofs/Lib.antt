mod Messages
mod Following
mod Places
mod Founding
mod Seats
