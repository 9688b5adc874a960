-- What the match in one call answers on a row of a table of cases: the row and the call's contract together. Assumes nothing.
use Rattle.std.specs.Prelude.{◌≡◌, ◌≢◌, List, ℕ, ◌≤◌, length, ℤ, Ok, Err}
use Rattle.std.proofs.Common.{sym, ap, ◌∙◌}
use Rattle.model.specs.Refusals.{Answer, with_number}
use Rattle.model.specs.Calls.{match_item}
use Rattle.model.specs.Jobs.{start_item}
use Rattle.model.specs.Match.{MatchCall}
use Rattle.model.specs.Order.{subproblems}
use Rattle.model.specs.Tree.{count}
use Rattle.job_items.specs.Items.{start_input, start_none}
use Rattle.one_call.specs.Items.{match_start, match_none}
use Rattle.cases.specs.Expected.{Expected, weighs, refused, checked, told, Row, plant, Holds}

-- the weight, or the item's number; a certificate and how much to lend are not the match's matter
abbrev pub Answers : Expected → Answer ℤ → Type 0
Answers (weighs w p) a = a ≡ Ok w
Answers (refused k) a = k ≢ 0 → a ≡ Err (with_number k)
Answers (checked z k) a = Unit {0}
Answers (told b) a = Unit {0}

-- every match of the row's plant with enough work numbers and a mapping buffer that is long enough
abbrev pub Answered : Row → Type 0
Answered (plant k table r f e) =
    (work : List ℤ) (mapping : List ℕ) (work' : List ℤ) (mapping' : List ℕ) (a : Answer ℤ)
    → subproblems r f ≤ length work → count r ≤ length mapping → MatchCall table r f work mapping work' mapping' a → Answers e a

pub row_answered : (row : Row) → Holds row → Answered row
row_answered (plant k table r f (weighs w p)) h = λ work mapping work' mapping' a enough room call.
    (call.matched (match_none table r f work mapping (start_none table r f work h.passes enough) room)).given ∙ ap Ok h.answers
row_answered (plant k table r f (refused i)) h = λ work mapping work' mapping' a enough room call n.
    let s : start_item table r f work ≡ i = start_input table r f work (λ z. n (sym h ∙ z)) ∙ h in
    let e : match_item table r f work mapping ≡ i = match_start table r f work mapping (λ z. n (sym s ∙ z)) ∙ s in
    (call.refused (λ z. n (sym e ∙ z))).given ∙ ap (λ (j : ℕ). Err (with_number j)) e
row_answered (plant k table r f (checked z i)) h = λ work mapping work' mapping' a enough room call. tt
row_answered (plant k table r f (told b)) h = λ work mapping work' mapping' a enough room call. tt
