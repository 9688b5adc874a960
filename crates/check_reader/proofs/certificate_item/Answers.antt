-- `certificate_item` tests the items 20 to 24 in their order. Assumes nothing.
use Rattle.std.proofs.Common.{rules, ◌≡◌, refl, sym, ap, ◌∙◌, length, not}
use Rattle.model.specs.Certificate.{certificate_length}
use Rattle.model.proofs.Refusals.{sent_on}
use Rattle.records.specs.Places.{begin_in, ready_inputs, places_end}
use Rattle.check_reader.specs.Items.{item_length, item_shape, item_mapping, item_records}
use Rattle.check_reader.proofs.certificate_item.Goals as goal

pub returns-then-certificate-begin : goal.returns-then-certificate-begin
returns-then-certificate-begin c =
    let ends : c.begin.result ≡ certificate_length c.args.on.now.recorded.now c.args.on.now.found.now = c.begin.ensures ∙ ap (begin_in c.args.places.now) c.n.ensures.value ∙ places_end (ready_inputs c.args.on.now.ready) c.requires in
    item_length _ _ _ _ c.args.on.now.ready.passes (λ e. c.if-certificate-begin.true (e ∙ sym ends))

pub invariant_of-sheet : goal.invariant_of-sheet
invariant_of-sheet c =
    let ends : c.begin.result ≡ certificate_length c.args.on.now.recorded.now c.args.on.now.found.now = c.begin.ensures ∙ ap (begin_in c.args.places.now) c.n.ensures.value ∙ places_end (ready_inputs c.args.on.now.ready) c.requires in
    let long : length c.args.certificate.now ≡ c.begin.result = search rules in
    record { stand = c.requires; long = long ∙ ends }

pub returns-then-not-marks : goal.returns-then-not-marks
returns-then-not-marks c = item_shape _ _ _ _ c.args.on.now.ready.passes c.marks.result c.marks.ensures.shaped (ap not c.if-not-marks.true)

pub returns-in_err-mapping_item : goal.returns-in_err-mapping_item
returns-in_err-mapping_item c =
    sent_on _ _ c.from_residual.ensures.1 c.in_err-mapping_item.ensures
    (λ n. sym (item_mapping _ _ _ _ c.args.on.now.ready.passes c.marks.result c.marks.ensures.shaped (ap not c.if-not-marks.false) _ refl n))

pub returns : goal.returns
returns c =
    item_records _ _ _ _ c.args.on.now.ready.passes c.marks.result c.marks.ensures.shaped (ap not c.if-not-marks.false) (sym c.in_ok-mapping_item.ensures) _ c.records_item.ensures
