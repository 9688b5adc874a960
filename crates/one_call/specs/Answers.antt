-- The answers of a match: their numbers and weights, and the two main theorems of the call, from its contract. Assumes nothing.
use Rattle.std.specs.Prelude.{◌≡◌, refl, ◌≢◌, ◌↔◌, List, ℕ, take, ℤ, pos, Ok, Err}
use Rattle.std.proofs.Common.{sym, ap, ◌∙◌, ⊎_elim}
use Rattle.foundations.specs.Tests.{same?}
use Rattle.model.specs.Tree.{count}
use Rattle.model.specs.Calls.{match_item}
use Rattle.model.specs.Mapping.{Heaviest, weight}
use Rattle.model.specs.Match.{refusal_of, weight_of, MatchCall, Refusal}
use Rattle.model.specs.Refusals.{Answer, item_number, refusal_in, RefusedBy}
use Rattle.model.specs.declared.refusal.Refusal as named
use Rattle.model.proofs.Refusals.{refused_is, refused_by, number_some}

pub refused_number : {a : Answer ℤ} {e : named.Refusal} → a ≡ Err e → refusal_of a ≡ item_number e
refused_number is = ap refusal_of is

pub refused_weight : {a : Answer ℤ} {e : named.Refusal} → a ≡ Err e → weight_of a ≡ pos 0
refused_weight is = ap weight_of is

-- a refusal that left all as it was
pub refusal_made : (a : Answer ℤ) (work : List ℤ) (mapping : List ℕ) {k : ℕ} → refusal_in a ≡ k → k ≢ 0 → Refusal k work mapping work mapping a
refusal_made a work mapping e n = let g = refused_is a e n in record { given = g; number = e; weighs = refused_weight g; work_kept = refl; mapping_kept = refl }

pub found_number_lem : {a : Answer ℤ} {w : ℤ} → a ≡ Ok w → refusal_of a ≡ 0
found_number_lem e = ap refusal_of e

pub found_weight : {a : Answer ℤ} {w : ℤ} → a ≡ Ok w → weight_of a ≡ w
found_weight e = ap weight_of e

module _ (table r f : List ℕ) (work : List ℤ) (mapping : List ℕ) (work' : List ℤ) (mapping' : List ℕ) (a : Answer ℤ) (call : MatchCall table r f work mapping work' mapping' a) where
  number_is : refusal_in a ≡ match_item table r f work mapping
  number_is = ⊎_elim (λ z. (call.matched z).number ∙ sym z) (λ n. (call.refused n).number) (same? (match_item table r f work mapping) 0)

  -- the answer is a refusal exactly if an item applies, with the first
  pub refusal_first : (k : ℕ) → RefusedBy k a ↔ ((k ≡ match_item table r f work mapping) × (k ≢ 0))
  refusal_first k = rw (← number_is) (refused_by k a)

  -- and a refusal changes nothing
  pub refusal_keeps : (e : named.Refusal) → a ≡ Err e → (work' ≡ work) × (mapping' ≡ mapping)
  refusal_keeps e is =
      let n = call.refused (λ z. number_some e (ap refusal_in (sym is) ∙ number_is ∙ z)) in
      (n.work_kept, n.mapping_kept)

  -- where no item applies, what is left is a heaviest mapping, and the answer is its exact weight
  pub heaviest_match : match_item table r f work mapping ≡ 0 → Heaviest table r f (take (count r) mapping') × (weight_of a ≡ weight table r f (take (count r) mapping'))
  heaviest_match z =
      let m = call.matched z in
      (m.heaviest, m.weighs ∙ sym m.exact)
