-- The main theorems of jobs: an edit of a definition of specs/ is refused here.
pub mod Theorems
