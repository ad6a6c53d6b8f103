pub mod Stages
mod Turns
mod Shares
mod Seats
mod Steps
mod TurnSteps
mod Passes
mod Starts
mod FactsHold
mod Closes
