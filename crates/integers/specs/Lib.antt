-- What the leaf functions on 32-bit integers promise beside an equation, and the laws of the model's integers and weights.
pub mod Results
pub mod Laws
