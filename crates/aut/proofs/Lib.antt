mod Apart
pub mod Readings
mod Rooms
mod Slots
mod Stages
mod Plans
mod Reasons
mod Systems
mod Outcomes
mod Fronts
mod Pens
mod Lengths
mod Spelled
mod Moves
mod Walking
mod Forms
mod Same
mod RoundTrip
