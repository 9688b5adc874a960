-- The certificate of optimality (the paper's sheet): what its check says.
pub mod Rules
pub mod Items
pub mod Sound
pub mod Length
pub mod Places
