-- A run of calls that meets all that the theorems take: a save, a first read and a second, with one liar.
pub mod Data
pub mod Nodes
pub mod Lives
pub mod Asks
pub mod Save
pub mod Read
pub mod Numbers
pub mod Second
pub mod Apart
pub mod Given
pub mod After
pub mod NewTime
