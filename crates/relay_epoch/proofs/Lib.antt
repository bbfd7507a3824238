mod Joining
mod Trying
