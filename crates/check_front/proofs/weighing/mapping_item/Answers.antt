-- `mapping_item` meets its contract: the partner bytes are the certificate's mapping, and a mapping by the quick test is weighed. Assumes nothing.
use Rattle.std.proofs.Common.{arith, sym, ap, ◌∙◌, subst, not, ne_eqb, eq-eqb}
use Rattle.foundations.specs.Tests.{passed}
use Rattle.model.specs.Mapping.{IsMapping, mapping_ok}
use Rattle.plan.specs.Numbers.{ready_accepted}
use Rattle.subtrees.proofs.Theorems.{quick_mapping}
use Rattle.check_front.specs.Marks.{front_inside}
use Rattle.check_front.specs.Weighing.{same_number, weights_compared, item_21, item_22, item_none}
use Rattle.check_front.proofs.weighing.mapping_item.Goals as goal

pub mapping_ok-requires : goal.mapping_ok-requires
mapping_ok-requires c =
    let few = (ready_accepted c.args.on.now.ready).recorded.ends.few in
    record { recorded_in_bounds = omega (arith, few, c.requires.partners_of.long) }

pub returns-then-not-mapping_ok : goal.returns-then-not-mapping_ok
returns-then-not-mapping_ok c =
    let on = c.args.on.now in
    item_21 _ _ _ _ c.mapping_ok.result (c.mapping_ok.ensures ∙ ap (mapping_ok on.table.now on.recorded.now on.found.now) c.requires.partners_of.front) (ap not c.if-not-mapping_ok.true)

pub weigh-w-requires : goal.weigh-w-requires
weigh-w-requires c =
    let on = c.args.on.now in
    let few = (ready_accepted on.ready).recorded.ends.few in
    let ok = passed _ c.mapping_ok.result (c.mapping_ok.ensures ∙ ap (mapping_ok on.table.now on.recorded.now on.found.now) c.requires.partners_of.front) (ap not c.if-not-mapping_ok.false) in
    record { recorded_in_bounds = omega (arith, few, c.requires.partners_of.long); mapping = subst (IsMapping on.table.now on.recorded.now on.found.now) (sym c.requires.partners_of.front) ((quick_mapping _ _ _ on.ready.passes _).0 ok) }

pub int32_at-v-requires : goal.int32_at-v-requires
int32_at-v-requires c =
    let l = front_inside _ _ _ c.requires.z_len in omega arith

pub returns-then-v-w : goal.returns-then-v-w
returns-then-v-w c =
    let on = c.args.on.now in
    let v = c.int32_at-v in
    let w = c.weigh-w in
    let same = same_number v.result w.result (record { sfits = v.type_inv }) (record { sfits = w.type_inv }) in
    item_22 _ _ _ _ c.mapping_ok.result (c.mapping_ok.ensures ∙ ap (mapping_ok on.table.now on.recorded.now on.found.now) c.requires.partners_of.front) _
    (weights_compared _ _ _ _ _ v.result w.result _ c.requires.partners_of v.ensures w.ensures same) (ap not c.if-not-mapping_ok.false) (rw (ne_eqb _ _ c.if-v-w.true))

pub returns : goal.returns
returns c =
    let on = c.args.on.now in
    let v = c.int32_at-v in
    let w = c.weigh-w in
    let same = same_number v.result w.result (record { sfits = v.type_inv }) (record { sfits = w.type_inv }) in
    item_none _ _ _ _ c.mapping_ok.result (c.mapping_ok.ensures ∙ ap (mapping_ok on.table.now on.recorded.now on.found.now) c.requires.partners_of.front) _
    (weights_compared _ _ _ _ _ v.result w.result _ c.requires.partners_of v.ensures w.ensures same) (ap not c.if-not-mapping_ok.false) (rw (eq-eqb _ _ c.if-v-w.false))
