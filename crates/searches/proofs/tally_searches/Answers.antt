-- `tally_searches` refuses by the first item that applies, or makes the plan and adds the pairs up. Assumes nothing.
use Rattle.std.proofs.Common.{◌≡◌, sym, ◌∙◌, rules}
use Rattle.model.specs.Order.{subproblems}
use Rattle.searches.specs.Bounds.{bound_all}
use Rattle.searches.specs.Steps.{zero_item, sound_trees, lent_work, ready_plan}
use Rattle.searches.proofs.tally_searches.Goals as goal

pub make-requires-clause-sound : goal.make-requires-clause-sound
make-requires-clause-sound c = let none : c.refusal_in-item.result ≡ 0 = search rules in (sound_trees _ _ _ _ (c.refusal_in-item.ensures ∙ c.start_item.ensures) none).0

pub make-requires-clause-sound_2 : goal.make-requires-clause-sound_2
make-requires-clause-sound_2 c = let none : c.refusal_in-item.result ≡ 0 = search rules in (sound_trees _ _ _ _ (c.refusal_in-item.ensures ∙ c.start_item.ensures) none).1

pub invariant_of-on : goal.invariant_of-on
invariant_of-on c = let none : c.refusal_in-item.result ≡ 0 = search rules in record { ready = ready_plan _ _ _ _ (c.refusal_in-item.ensures ∙ c.start_item.ensures) none c.make.ensures }

pub tally_all-requires : goal.tally_all-requires
tally_all-requires c = let none : c.refusal_in-item.result ≡ 0 = search rules in lent_work _ _ _ _ (c.refusal_in-item.ensures ∙ c.start_item.ensures) none

pub returns : goal.returns
returns c =
    let none : c.refusal_in-item.result ≡ 0 = search rules in
    let e = (c.refusal_in-item.ensures ∙ c.start_item.ensures) in
    let t = c.tally_all.ensures.1 in
    record {
      number = t.passed ∙ sym (zero_item _ _ _ _ e none);
      work_kept = λ n. absurd (n t.passed);
      refused = λ n. absurd (n t.passed);
      filled = λ z. c.tally_all.ensures.0;
      few = t.few;
      bound = λ z. t.bound ∙ sym (bound_all (ready_plan _ _ _ _ e none c.make.ensures) (subproblems c.args.recorded.now c.args.found.now));
      looked = t.looked;
      full = t.full;
      low = t.low;
    }
