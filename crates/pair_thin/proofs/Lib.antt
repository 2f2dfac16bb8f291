-- For the proofs of this crate: `Turning`, a turn on two runs of numbers and the loop of them; `Coming`, what is to come from a feed, a round on
-- two feeds and the loop of them; `Keeping`, a loop that counts a list and stores it where there is room.
mod Turning
mod Coming
mod Keeping
