-- How much to lend: the numbers that a controller asks for before it sets memory aside. Paper 02, [1]. That nothing is solved no definition says: the
-- code depends on no crate that solves (crates.txt).
use Rattle.std.specs.Prelude.{◌≡◌, cond, List, ℕ, eqb, Ok, Err}
use Rattle.model.specs.declared.Sizes.{Sizes}
use Rattle.model.specs.Refusals.{Answer, refusal_in, with_number}
use Rattle.model.specs.Order.{subproblems}
use Rattle.model.specs.Calls.{input_item}
use Rattle.model.specs.Certificate.{certificate_length}

-- "From table and layouts alone, give the count of subproblems, the work numbers wanted and the sheet's length": what a job counts from its start to
-- its end, what item 13 asks for, and what item 19 asks for, each by the definition that the other calls have. "The tests are 1 to 12", and 25 and 26 with
-- them ([3]: "Both stand in every call that tests 7 or 12").
unfoldable pub sizes_of : List ℕ → List ℕ → List ℕ → Answer Sizes
sizes_of table recorded found =
    cond (eqb (input_item table recorded found) 0)
    (Ok (record { subproblems = subproblems recorded found; work = subproblems recorded found; certificate = certificate_length recorded found }))
    (Err (with_number (input_item table recorded found)))

-- the paper's number for each case of the answer, 0 where the call is not refused; and the three numbers, 0 where it is
abbrev pub sizes_refusal : Answer Sizes → ℕ
sizes_refusal a = refusal_in a

abbrev pub sizes_count : Answer Sizes → ℕ
sizes_count (Ok sizes) = sizes.subproblems
sizes_count (Err e) = 0

abbrev pub sizes_work : Answer Sizes → ℕ
sizes_work (Ok sizes) = sizes.work
sizes_work (Err e) = 0

abbrev pub sizes_length : Answer Sizes → ℕ
sizes_length (Ok sizes) = sizes.certificate
sizes_length (Err e) = 0

-- what is answered for one of the three: this number where no item applies, 0 where the call is refused
unfoldable pub unless_refused : List ℕ → List ℕ → List ℕ → ℕ → ℕ
unless_refused table recorded found x = cond (eqb (input_item table recorded found) 0) x 0

-- the answer in the paper's numbers
pub record SizesNumbers (table recorded found : List ℕ) (refusal s w c : ℕ) : Type 0 where
  pub number : refusal ≡ input_item table recorded found
  pub counts : s ≡ unless_refused table recorded found (subproblems recorded found)
  pub wants : w ≡ unless_refused table recorded found (subproblems recorded found)
  pub measures : c ≡ unless_refused table recorded found (certificate_length recorded found)

-- the call: it is lent nothing but what it reads
pub record SizesCall (table recorded found : List ℕ) (a : Answer Sizes) : Type 0 where
  pub outcome : a ≡ sizes_of table recorded found
  pub numbers : SizesNumbers table recorded found (sizes_refusal a) (sizes_count a) (sizes_work a) (sizes_length a)
