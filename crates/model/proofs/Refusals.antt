-- A refusal and its number: each number from 1 to 26 is that of one refusal; and what an answer is, from the number in it. Assumes nothing.
use Rattle.std.specs.Prelude.{◌≡◌, refl, ◌≢◌, Bool, true, false, ◌&&◌, List, [], ◌∷◌, leb, ℕ, ◌+◌, ◌-◌, ◌≤◌, eqb, Result, Ok, Err, IsErrAnd, MatchResult, ◌↔◌}
use Rattle.std.proofs.Common.{sym, ap, ◌∙◌, arith, eqb-true, leb-true}
use Rattle.foundations.specs.Tests.{and_split}
use Rattle.foundations.specs.Lists.{every, every_at}
use Rattle.model.specs.declared.refusal.TreeFault.{TreeFault}
use Rattle.model.specs.declared.refusal.TreeFault.TheVariants.{Shape, Labels, Ends, Cycle, Degree, Serials}
use Rattle.model.specs.declared.refusal.Refusal.{Refusal}
use Rattle.model.specs.declared.refusal.Refusal.TheVariants.{TableShape, TableWeights, Recorded, Found, WorkShort, JobRecord, JobTrees, WorkNumber, JobUnfinished, MappingShort, CertificateShort, CertificateShape, CertificateMapping, CertificateWeight, CertificateRecord, CertificateAnswer}
use Rattle.model.specs.Refusals.{Item, item, first_of, tree_number, item_number, refusals, with_number, Answer, refusal_in, RefusedBy, fault_in}

pub with_own_number : (e : Refusal) → with_number (item_number e) ≡ e
unfolding with_number refusals
with_own_number TableShape = refl
with_own_number TableWeights = refl
with_own_number (Recorded Shape) = refl
with_own_number (Recorded Labels) = refl
with_own_number (Recorded Ends) = refl
with_own_number (Recorded Cycle) = refl
with_own_number (Recorded Degree) = refl
with_own_number (Recorded Serials) = refl
with_own_number (Found Shape) = refl
with_own_number (Found Labels) = refl
with_own_number (Found Ends) = refl
with_own_number (Found Cycle) = refl
with_own_number (Found Degree) = refl
with_own_number (Found Serials) = refl
with_own_number WorkShort = refl
with_own_number JobRecord = refl
with_own_number JobTrees = refl
with_own_number WorkNumber = refl
with_own_number JobUnfinished = refl
with_own_number MappingShort = refl
with_own_number CertificateShort = refl
with_own_number CertificateShape = refl
with_own_number CertificateMapping = refl
with_own_number CertificateWeight = refl
with_own_number CertificateRecord = refl
with_own_number CertificateAnswer = refl

pub number_injective : (d e : Refusal) → item_number d ≡ item_number e → d ≡ e
number_injective d e h = sym (with_own_number d) ∙ ap with_number h ∙ with_own_number e

-- the numbers are 1 to 26, and each of these is that of a refusal
tree_low : (first twice : ℕ) (fault : TreeFault) → 1 ≤ first → first ≤ 8 → 1 ≤ twice → twice ≤ 26 → (1 ≤ tree_number first twice fault) × (tree_number first twice fault ≤ 26)
tree_low first twice Shape a b c d = (omega arith, omega arith)
tree_low first twice Labels a b c d = (omega arith, omega arith)
tree_low first twice Ends a b c d = (omega arith, omega arith)
tree_low first twice Cycle a b c d = (omega arith, omega arith)
tree_low first twice Degree a b c d = (omega arith, omega arith)
tree_low first twice Serials a b c d = (omega arith, omega arith)

pub number_low : (e : Refusal) → (1 ≤ item_number e) × (item_number e ≤ 26)
number_low TableShape = (omega arith, omega arith)
number_low TableWeights = (omega arith, omega arith)
number_low (Recorded fault) = tree_low 3 25 fault (omega arith) (omega arith) (omega arith) (omega arith)
number_low (Found fault) = tree_low 8 26 fault (omega arith) (omega arith) (omega arith) (omega arith)
number_low WorkShort = (omega arith, omega arith)
number_low JobRecord = (omega arith, omega arith)
number_low JobTrees = (omega arith, omega arith)
number_low WorkNumber = (omega arith, omega arith)
number_low JobUnfinished = (omega arith, omega arith)
number_low MappingShort = (omega arith, omega arith)
number_low CertificateShort = (omega arith, omega arith)
number_low CertificateShape = (omega arith, omega arith)
number_low CertificateMapping = (omega arith, omega arith)
number_low CertificateWeight = (omega arith, omega arith)
number_low CertificateRecord = (omega arith, omega arith)
number_low CertificateAnswer = (omega arith, omega arith)

pub number_some : (e : Refusal) → item_number e ≢ 0
number_some e z = let l = number_low e in omega arith

own_place : every (λ i. eqb (item_number (with_number (i + 1))) (i + 1)) 26 ≡ true
unfolding every with_number refusals
own_place = refl

pub number_back : (k : ℕ) → 1 ≤ k → k ≤ 26 → item_number (with_number k) ≡ k
number_back k l h =
    let e : k - 1 + 1 ≡ k = omega arith in
    let is : item_number (with_number (k - 1 + 1)) ≡ k - 1 + 1 = eqb-true _ _ (every_at (λ i. eqb (item_number (with_number (i + 1))) (i + 1)) (k - 1) 26 own_place (omega arith)) in
    rw e at is

-- so the first of items that are the paper's is the number of a refusal
abbrev pub in_paper : List Item → Bool
in_paper [] = true
in_paper (item k applies ∷ l) = leb k 26 && in_paper l

first_low : (l : List Item) → in_paper l ≡ true → first_of l ≤ 26
unfolding first_of
first_low [] h = omega arith
first_low (item k true ∷ l) h = let e = and_split (leb k 26) (in_paper l) h in leb-true _ _ e.0
first_low (item k false ∷ l) h = let e = and_split (leb k 26) (in_paper l) h in first_low l e.1

pub first_back : (l : List Item) → in_paper l ≡ true → first_of l ≢ 0 → item_number (with_number (first_of l)) ≡ first_of l
first_back l h n = let low = first_low l h in number_back (first_of l) (omega arith) low

-- ---- an answer from the number in it

module _ {A : Type 0} where
  pub refused_is : (a : Answer A) {k : ℕ} → refusal_in a ≡ k → k ≢ 0 → a ≡ Err (with_number k)
  refused_is (Ok x) e n = absurd (n (sym e))
  refused_is (Err d) e n = ap Err (sym (with_own_number d) ∙ ap with_number e)

  pub given_is : (a : Answer A) → refusal_in a ≡ 0 → (x : A) × (a ≡ Ok x)
  given_is (Ok x) e = (x, refl)
  given_is (Err d) e = absurd (number_some d e)

  pub refused_by : (k : ℕ) (a : Answer A) → RefusedBy k a ↔ ((k ≡ refusal_in a) × (k ≢ 0))
  refused_by k (Ok x) = (λ h. elim h [ ], λ p. absurd (p.1 p.0))
  refused_by k (Err e) = (λ h. (sym h, λ z. number_some e (h ∙ z)), λ p. sym p.0)

  -- what the exit of a `?` returns: e, of a part of the items; so it is the first of all that apply
  pub sent_on : (a : Answer A) (e : Refusal) {part whole : ℕ} → IsErrAnd a (λ d. d ≡ e) → item_number e ≡ part → (part ≢ 0 → whole ≡ part) → refusal_in a ≡ whole
  sent_on (Ok x) e h is first = elim h [ ]
  sent_on (Err d) e h is first = ap item_number h ∙ is ∙ sym (first (λ z. number_some e (is ∙ z)))

  -- a tree's fault told as the recorded tree's, and as the found one's
  pub as_recorded : (r : Result A TreeFault) (a : Answer A) → MatchResult r (λ x. a ≡ Ok x) (λ e. IsErrAnd a (λ d. d ≡ Recorded e)) → refusal_in a ≡ fault_in 3 25 r
  as_recorded (Ok x) a h = ap refusal_in h
  as_recorded (Err e) (Ok x) h = elim h [ ]
  as_recorded (Err e) (Err d) h = ap item_number h

  pub as_found : (r : Result A TreeFault) (a : Answer A) → MatchResult r (λ x. a ≡ Ok x) (λ e. IsErrAnd a (λ d. d ≡ Found e)) → refusal_in a ≡ fault_in 8 26 r
  as_found (Ok x) a h = ap refusal_in h
  as_found (Err e) (Ok x) h = elim h [ ]
  as_found (Err e) (Err d) h = ap item_number h
