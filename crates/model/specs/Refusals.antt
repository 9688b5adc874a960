-- A call is refused by the first of its items that applies. Paper 01, "Why a call is turned down".
use Rattle.std.specs.Prelude.{ℕ, ◌+◌, ◌-◌, Bool, cond, List, [], ◌∷◌, get_or, Result, Ok, Err, IsErrAnd, ◌≡◌}
use Rattle.model.specs.declared.refusal.TreeFault.{TreeFault}
use Rattle.model.specs.declared.refusal.TreeFault.TheVariants.{Shape, Labels, Ends, Cycle, Degree, Serials}
use Rattle.model.specs.declared.refusal.Refusal.{Refusal}
use Rattle.model.specs.declared.refusal.Refusal.TheVariants.{TableShape, TableWeights, Recorded, Found, WorkShort, JobRecord, JobTrees, WorkNumber, JobUnfinished, MappingShort, CertificateShort, CertificateShape, CertificateMapping, CertificateWeight, CertificateRecord, CertificateAnswer}

-- an item: its number, and whether it applies
pub data Item : Type 0 where
  item : ℕ → Bool → Item

-- the number of the first that applies in the order tested, 0 if none
unfoldable pub first_of : List Item → ℕ
first_of [] = 0
first_of (item k applies ∷ rest) = cond applies k (first_of rest)

-- ---- the items by name

-- a tree's items: `first` is 3 for the recorded tree and 8 for the found one, `twice` 25 and 26
abbrev pub tree_number : ℕ → ℕ → TreeFault → ℕ
tree_number first twice Shape = first
tree_number first twice Labels = first + 1
tree_number first twice Ends = first + 2
tree_number first twice Cycle = first + 3
tree_number first twice Degree = first + 4
tree_number first twice Serials = twice

abbrev pub item_number : Refusal → ℕ
item_number TableShape = 1
item_number TableWeights = 2
item_number (Recorded fault) = tree_number 3 25 fault
item_number (Found fault) = tree_number 8 26 fault
item_number WorkShort = 13
item_number JobRecord = 14
item_number JobTrees = 15
item_number WorkNumber = 16
item_number JobUnfinished = 17
item_number MappingShort = 18
item_number CertificateShort = 19
item_number CertificateShape = 20
item_number CertificateMapping = 21
item_number CertificateWeight = 22
item_number CertificateRecord = 23
item_number CertificateAnswer = 24

-- the refusals in the order of their numbers, 1 to 26, and the one with a number
unfoldable pub refusals : List Refusal
refusals =
    TableShape ∷ TableWeights
    ∷ Recorded Shape ∷ Recorded Labels ∷ Recorded Ends ∷ Recorded Cycle ∷ Recorded Degree
    ∷ Found Shape ∷ Found Labels ∷ Found Ends ∷ Found Cycle ∷ Found Degree
    ∷ WorkShort ∷ JobRecord ∷ JobTrees ∷ WorkNumber ∷ JobUnfinished
    ∷ MappingShort ∷ CertificateShort ∷ CertificateShape ∷ CertificateMapping ∷ CertificateWeight ∷ CertificateRecord ∷ CertificateAnswer
    ∷ Recorded Serials ∷ Found Serials ∷ []

unfoldable pub with_number : ℕ → Refusal
with_number k = get_or refusals (k - 1) TableShape

-- ---- a call's answer: what it gives, or why it is turned down

abbrev pub Answer : Type 0 → Type 0
Answer A = Result A Refusal

-- the paper's number, 0 where the call is not refused
abbrev pub refusal_in : {A : Type 0} → Answer A → ℕ
refusal_in (Ok given) = 0
refusal_in (Err refusal) = item_number refusal

-- the answer is the refusal with this number
abbrev pub RefusedBy : {A : Type 0} → ℕ → Answer A → Type 0
RefusedBy k a = IsErrAnd a (λ e. item_number e ≡ k)

-- the number of one tree's item, 0 where none applies
abbrev pub fault_in : {A : Type 0} → ℕ → ℕ → Result A TreeFault → ℕ
fault_in first twice (Ok given) = 0
fault_in first twice (Err fault) = tree_number first twice fault
