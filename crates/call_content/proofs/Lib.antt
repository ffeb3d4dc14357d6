mod Judges
mod Owns
mod Calls
