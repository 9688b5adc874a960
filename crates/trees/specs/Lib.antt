-- Laws of accepted trees: components, rooting, neighbours, directions, postorder, positions.
pub mod Items
pub mod Components
pub mod Rooting
pub mod Accepted
pub mod Neighbours
pub mod Directions
pub mod Postorder
pub mod Rooted
pub mod Positions
pub mod Visits
pub mod Cases
