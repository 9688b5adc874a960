-- Plants written as bytes, the table of small plants, what else the definitions compute of such plants, the limits, serials, and directed edges.
pub mod Plants
pub mod Expected
pub mod SmallPlants
pub mod FurtherPlants
pub mod ValueCases
pub mod CertificateCases
pub mod SizesCases
pub mod LimitCases
pub mod SerialCases
pub mod DirectionCases
