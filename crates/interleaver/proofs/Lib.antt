-- `PlaceLaws`: the places and their inverse. `Placing`: a loop that puts values at their places.
pub mod PlaceLaws
pub mod Placing
