-- What the numbers of how much to lend are good for. Paper 02, [1]: "Each is shown equal to what a later job or sheet really takes."
pub mod Work
pub mod Count
pub mod Certificate
