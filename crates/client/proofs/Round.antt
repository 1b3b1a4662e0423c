-- The replies of a round in whichever order they come: the third demand, for read rounds, of which AnyOrder and Calls have the theorems, and for
-- time rounds (Times). Run has what they share.
pub mod Swaps
pub mod Run
pub mod Order
pub mod Reply
pub mod Kept
pub mod AnyOrder
pub mod Calls
pub mod Times
