-- `gains` meets its contract. Assumes nothing.
use Rattle.plan.specs.Pairs.{filled_more, pair_low, degree_few}
use Rattle.check_records.proofs.gains.gains.Goals as goal

pub child_count-n-requires : goal.child_count-n-requires
child_count-n-requires c = (pair_low c.args.sheet.now.on.now.ready c.requires.pair).0

pub loop-i-preserved : goal.loop-i-preserved
loop-i-preserved c = filled_more c.loop-i.i _ _ _ _ (degree_few c.args.sheet.now.on.now.ready c.requires.pair) c.loop-i.invariant c.gain_row.ensures
