-- `Meeting`: no path is both light from its first 1 on and light to its end, computed. `Apart`: what follows for any two words.
mod Meeting
pub mod Apart
