-- `Written` says what document 01 asks of the image, `Outcomes` how writing ends, `Decides` that the promise leaves no choice, and `RoundTrip`
-- that what was written stands for the list.
pub mod Written
mod Parts
mod Laying
pub mod Outcomes
pub mod Decides
pub mod RoundTrip
