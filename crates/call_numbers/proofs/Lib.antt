-- What the answers' numbers promise, and the job in slices: an edit of a definition of specs/ is refused here.
mod Exports
pub mod JobInCalls
