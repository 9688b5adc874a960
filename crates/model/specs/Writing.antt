-- Writing a certificate: item 19, what the call leaves, and what its answer says. Paper 01, "The sheet", "Jobs" (the work numbers after writing a
-- sheet) and "Why a call is turned down".
use Rattle.std.specs.Prelude.{◌≡◌, ◌≢◌, List, [], ◌∷◌, ◌++◌, ℕ, ◌<◌, length, take, drop, ltb, ℤ, Ok, Err}
use Rattle.model.specs.Refusals.{Item, item, first_of, Answer, refusal_in, with_number}
use Rattle.model.specs.Order.{subproblems}
use Rattle.model.specs.Mapping.{Heaviest}
use Rattle.model.specs.Values.{values, value_at, answer}
use Rattle.model.specs.Calls.{input_items, work_item}
use Rattle.model.specs.Certificate.{certificate_length, weight_in, mapping_in, value_in, check_of}

-- 19: the certificate's buffer is shorter than the certificate
abbrev pub room_item : List ℕ → List ℕ → List ℕ → Item
room_item recorded found certificate = item 19 (ltb (length certificate) (certificate_length recorded found))

-- writing: 1 to 13 with 25 and 26, and 19
abbrev pub write_items : List ℕ → List ℕ → List ℕ → List ℤ → List ℕ → List Item
write_items table recorded found work certificate = input_items table recorded found ++ (work_item recorded found work ∷ room_item recorded found certificate ∷ [])

unfoldable pub write_item : List ℕ → List ℕ → List ℕ → List ℤ → List ℕ → ℕ
write_item table recorded found work certificate = first_of (write_items table recorded found work certificate)

-- the paper's number for each case of the answer, 0 where the call is not refused; and the certificate's length, 0 where it is
abbrev pub write_refusal : Answer ℕ → ℕ
write_refusal a = refusal_in a

abbrev pub length_of : Answer ℕ → ℕ
length_of (Ok l) = l
length_of (Err e) = 0

-- Not refused: all values in order and the rest of the work numbers as it was; in the front of the buffer a certificate that the check accepts, with
-- a heaviest mapping, its weight and the value of each subproblem, and the rest of the buffer as it was; its length. Which heaviest mapping and which
-- duals is the program's choice.
pub record CertificateLeft (table recorded found : List ℕ) (work : List ℤ) (certificate : List ℕ) (work' : List ℤ) (certificate' : List ℕ) (a : Answer ℕ) : Type 0 where
  pub values_left : work' ≡ values table recorded found ++ drop (subproblems recorded found) work
  pub rest : certificate' ≡ take (certificate_length recorded found) certificate' ++ drop (certificate_length recorded found) certificate
  pub accepted : check_of table recorded found (take (certificate_length recorded found) certificate') ≡ 0
  pub values_in : (k : ℕ) → k < subproblems recorded found → value_in recorded found (take (certificate_length recorded found) certificate') k ≡ value_at table recorded found k
  pub weight_in_lem : weight_in (take (certificate_length recorded found) certificate') ≡ answer table recorded found
  pub heaviest_in : Heaviest table recorded found (mapping_in recorded (take (certificate_length recorded found) certificate'))
  pub given : a ≡ Ok (certificate_length recorded found)
  pub number : write_refusal a ≡ 0
  pub measures : length_of a ≡ certificate_length recorded found

-- Refused: the number of the first item that applies, and nothing changed.
pub record WritingRefusal (refusal : ℕ) (work : List ℤ) (certificate : List ℕ) (work' : List ℤ) (certificate' : List ℕ) (a : Answer ℕ) : Type 0 where
  pub given : a ≡ Err (with_number refusal)
  pub number : write_refusal a ≡ refusal
  pub measures : length_of a ≡ 0
  pub work_kept : work' ≡ work
  pub certificate_kept : certificate' ≡ certificate

-- the call: from what is lent at entry to what is there at exit, with the answer
pub record WriteCall (table recorded found : List ℕ) (work : List ℤ) (certificate : List ℕ) (work' : List ℤ) (certificate' : List ℕ) (a : Answer ℕ) : Type 0 where
  pub refused : write_item table recorded found work certificate ≢ 0 → WritingRefusal (write_item table recorded found work certificate) work certificate work' certificate' a
  pub written : write_item table recorded found work certificate ≡ 0 → CertificateLeft table recorded found work certificate work' certificate' a
