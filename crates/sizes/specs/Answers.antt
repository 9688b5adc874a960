-- The answer to how much to lend in each case, and in numbers. Assumes nothing.
use Rattle.std.specs.Prelude.{◌≡◌, ◌≢◌, List, ℕ, Ok}
use Rattle.std.proofs.Math.Path.{sym}
use Rattle.std.proofs.Common.{◌∙◌}
use borrow.Author.Tests.{ne_eqb}
use Rattle.model.specs.declared.Sizes.{Sizes}
use Rattle.model.specs.Refusals.{Answer, refusal_in}
use Rattle.model.proofs.Refusals.{refused_is}
use Rattle.model.specs.Order.{subproblems}
use Rattle.model.specs.Calls.{input_item}
use Rattle.model.specs.Certificate.{certificate_length}
use Rattle.model.specs.Sizes.{sizes_of, unless_refused, SizesNumbers, SizesCall}

module _ (table r f : List ℕ) where
  pub sizes_given : {s w c : ℕ} → input_item table r f ≡ 0 → s ≡ subproblems r f → w ≡ subproblems r f → c ≡ certificate_length r f → SizesCall table r f (Ok (record { subproblems = s; work = w; certificate = c }))
  unfolding sizes_of unless_refused
  sizes_given e a b d = record {
    outcome = rw (e, a, b, d);
    numbers = record { number = sym e; counts = rw (e, a); wants = rw (e, b); measures = rw (e, d) };
  }

  pub sizes_refused : (a : Answer Sizes) → refusal_in a ≡ input_item table r f → input_item table r f ≢ 0 → SizesCall table r f a
  unfolding sizes_of unless_refused
  sizes_refused a e n =
      let off = ne_eqb (input_item table r f) 0 n in
      let is = refused_is a e n in
      record {
        outcome = rw off is;
        numbers = record { number = e; counts = rw (off, is); wants = rw (off, is); measures = rw (off, is) };
      }

-- what the numbers of a call that is not refused are
pub record Told (table r f : List ℕ) (s w c : ℕ) : Type 0 where
  pub passes : input_item table r f ≡ 0
  pub count : s ≡ subproblems r f
  pub work : w ≡ subproblems r f
  pub long : c ≡ certificate_length r f

pub sizes_told : {table r f : List ℕ} {refusal s w c : ℕ} → SizesNumbers table r f refusal s w c → refusal ≡ 0 → Told table r f s w c
unfolding unless_refused
sizes_told {table} {r} {f} n z =
    let e : input_item table r f ≡ 0 = sym n.number ∙ z in
    record { passes = e; count = n.counts ∙ rw e; work = n.wants ∙ rw e; long = n.measures ∙ rw e }
