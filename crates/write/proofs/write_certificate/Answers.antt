-- `write_certificate` refuses by the first item that applies and changes nothing, or makes the plan, solves and writes. Assumes nothing.
use mathlib.Core.Path.{◌≡◌, sym, ap, ◌∙◌}
use native.Mathlib.Omega.{arith}
use Rattle.std.specs.Prelude.{Ok}
use Rattle.model.specs.Certificate.{certificate_length}
use Rattle.model.proofs.Refusals.{sent_on, number_some}
use Rattle.formats.specs.Inputs.{input_sound}
use Rattle.plan.specs.Plan.{Ready}
use Rattle.records.specs.Places.{ready_inputs, inputs_length, places_end}
use Rattle.job_items.specs.Items.{start_passed}
use Rattle.write.specs.Theorems.{refusal_made, written_number, written_length}
use Rattle.write.specs.Items.{write_start, write_room, write_none}
use Rattle.write.proofs.write_certificate.Goals as goal

pub returns-in_err-start_item : goal.returns-in_err-start_item
returns-in_err-start_item c =
    let is = c.in_err-start_item.ensures in
    let first = write_start _ _ _ _ c.args.certificate.now (λ z. number_some c.in_err-start_item.field-0.0 (is ∙ z)) in
    record {
      refused = refusal_made _ _ _ (sent_on _ _ c.from_residual.ensures.1 is (write_start _ _ _ _ _));
      written = λ z. absurd (number_some c.in_err-start_item.field-0.0 (is ∙ sym first ∙ z));
    }

pub make-requires-clause-sound : goal.make-requires-clause-sound
make-requires-clause-sound c = (input_sound _ _ _ (start_passed _ _ _ _ (sym c.in_ok-start_item.ensures)).0).0

pub make-requires-clause-sound_2 : goal.make-requires-clause-sound_2
make-requires-clause-sound_2 c = (input_sound _ _ _ (start_passed _ _ _ _ (sym c.in_ok-start_item.ensures)).0).1

pub invariant_of-on : goal.invariant_of-on
invariant_of-on c = record { ready = record { passes = (start_passed _ _ _ _ (sym c.in_ok-start_item.ensures)).0; planned = c.make.ensures } }

pub places_of-requires-clause-inputs : goal.places_of-requires-clause-inputs
places_of-requires-clause-inputs c =
    let N : Ready _ _ _ c.make.new.plan = record { passes = (start_passed _ _ _ _ (sym c.in_ok-start_item.ensures)).0; planned = c.make.ensures } in
    ready_inputs N

pub returns-then-certificate-l : goal.returns-then-certificate-l
returns-then-certificate-l c =
    let N : Ready _ _ _ c.make.new.plan = record { passes = (start_passed _ _ _ _ (sym c.in_ok-start_item.ensures)).0; planned = c.make.ensures } in
    let long : c.begin-l.result ≡ certificate_length c.args.recorded.now c.args.found.now = rw c.n.ensures.value at c.begin-l.ensures ∙ places_end (ready_inputs N) c.places_of.ensures.at in
    let w = write_room _ _ _ _ c.args.certificate.now (sym c.in_ok-start_item.ensures) (omega (arith, c.if-certificate-l.true)) in
    record { refused = refusal_made _ _ _ (sym w); written = λ z. absurd (let q = sym w ∙ z in omega (arith, q)) }

pub solve_and_write-requires-clause-lent : goal.solve_and_write-requires-clause-lent
solve_and_write-requires-clause-lent c = record { enough = (start_passed _ _ _ _ (sym c.in_ok-start_item.ensures)).1 }

pub solve_and_write-requires-clause-found_in_bounds : goal.solve_and_write-requires-clause-found_in_bounds
solve_and_write-requires-clause-found_in_bounds c =
    let N : Ready _ _ _ c.make.new.plan = record { passes = (start_passed _ _ _ _ (sym c.in_ok-start_item.ensures)).0; planned = c.make.ensures } in
    let long : c.begin-l.result ≡ certificate_length c.args.recorded.now c.args.found.now = rw c.n.ensures.value at c.begin-l.ensures ∙ places_end (ready_inputs N) c.places_of.ensures.at in
    omega (arith, c.if-certificate-l.false)

pub overflow_cast-result : goal.overflow_cast-result
overflow_cast-result c =
    let N : Ready _ _ _ c.make.new.plan = record { passes = (start_passed _ _ _ _ (sym c.in_ok-start_item.ensures)).0; planned = c.make.ensures } in
    let long : c.begin-l.result ≡ certificate_length c.args.recorded.now c.args.found.now = rw c.n.ensures.value at c.begin-l.ensures ∙ places_end (ready_inputs N) c.places_of.ensures.at in
    omega (arith, long, inputs_length (ready_inputs N))

pub returns : goal.returns
returns c =
    let N : Ready _ _ _ c.make.new.plan = record { passes = (start_passed _ _ _ _ (sym c.in_ok-start_item.ensures)).0; planned = c.make.ensures } in
    let long : c.begin-l.result ≡ certificate_length c.args.recorded.now c.args.found.now = rw c.n.ensures.value at c.begin-l.ensures ∙ places_end (ready_inputs N) c.places_of.ensures.at in
    let s = c.solve_and_write.ensures in
    let w = write_none _ _ _ _ c.args.certificate.now (sym c.in_ok-start_item.ensures) (omega (arith, c.if-certificate-l.false)) in
    let g = ap Ok long in
    record {
      refused = λ n. absurd (n w);
      written = λ z. record { values_left = s.filled; rest = s.rest; accepted = s.accepted; values_in = s.values_in; weight_in_lem = s.weight_in_lem; heaviest_in = s.heaviest_in; given = g; number = written_number g; measures = written_length g };
    }
