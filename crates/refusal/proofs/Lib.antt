-- `Laws`: no refusal has the number 0, and number and place name one refusal alone.
pub mod Laws
