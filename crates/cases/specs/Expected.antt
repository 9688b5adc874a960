-- What a table of cases says of the definitions: a row is a case's number, its table and two trees, and what is expected of them.
-- Assumes nothing.
use Rattle.std.specs.Prelude.{◌≡◌, true, List, [], ◌∷◌, ℕ, ℤ, Ok, Err}
use Rattle.std.proofs.Common.{sym, ◌∙◌}
use Rattle.model.specs.declared.Sizes.{Sizes}
use Rattle.model.specs.Calls.{input_item}
use Rattle.model.specs.Certificate.{check_of}
use Rattle.model.specs.Mapping.{Heaviest, weight, mapping_ok}
use Rattle.model.specs.Refusals.{Answer, with_number}
use Rattle.model.specs.Sizes.{sizes_of}
use Rattle.model.specs.Values.{answer}
use Rattle.subtrees.proofs.Theorems.{heaviest_exactly, quick_mapping}

-- a weight with a heaviest mapping, as n bytes; or the number of the item that turns the plant down; or a certificate and the number of the
-- item that its check gives, 0 where it is accepted; or how much to lend
pub data Expected : Type 0 where
  weighs : ℤ → List ℕ → Expected
  refused : ℕ → Expected
  checked : List ℕ → ℕ → Expected
  told : Answer Sizes → Expected

-- the answer to how much to lend: the subproblems, the work numbers wanted and a certificate's length; or the number of an item
abbrev pub lend : ℕ → ℕ → ℕ → Answer Sizes
lend subproblems work certificate = Ok (record { subproblems = subproblems; work = work; certificate = certificate })

abbrev pub refused_by : ℕ → Answer Sizes
refused_by item = Err (with_number item)

pub data Row : Type 0 where
  plant : ℕ → List ℕ → List ℕ → List ℕ → Expected → Row

-- items 1 to 12, 25 and 26 let it pass, the answer is w, and p is a heaviest mapping, which weighs w
pub record Weighs (table recorded found : List ℕ) (w : ℤ) (p : List ℕ) : Type 0 where
  pub passes : input_item table recorded found ≡ 0
  pub answers : answer table recorded found ≡ w
  pub heaviest : Heaviest table recorded found p
  pub exact : weight table recorded found p ≡ w

abbrev pub Holds : Row → Type 0
Holds (plant k table recorded found (weighs w p)) = Weighs table recorded found w p
Holds (plant k table recorded found (refused item)) = input_item table recorded found ≡ item
Holds (plant k table recorded found (checked certificate item)) = check_of table recorded found certificate ≡ item
Holds (plant k table recorded found (told a)) = sizes_of table recorded found ≡ a

-- every row of a table holds
infixr 40 ◌then◌
pub data All : List Row → Type 0 where
  end : All []
  ◌then◌ : {r : Row} {l : List Row} → Holds r → All l → All (r ∷ l)

-- the mapping passes the quick test and weighs the answer, so it is a heaviest one
pub by_test : {table recorded found p : List ℕ} {w : ℤ} → input_item table recorded found ≡ 0 → answer table recorded found ≡ w → mapping_ok table recorded found p ≡ true → weight table recorded found p ≡ w → Weighs table recorded found w p
by_test {table} {recorded} {found} {p} passes answers ok exact =
    record {
      passes = passes;
      answers = answers;
      heaviest = (heaviest_exactly table recorded found passes p).1 ((quick_mapping table recorded found passes p).0 ok, exact ∙ sym answers);
      exact = exact;
    }
