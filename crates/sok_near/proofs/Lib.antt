mod Passing
mod Places
