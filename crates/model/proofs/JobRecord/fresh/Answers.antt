-- `JobRecord::fresh` meets its contract. Assumes nothing.
use Rattle.std.proofs.Common.{refl}
use Rattle.model.specs.Jobs.{fresh_record}
use Rattle.model.proofs.JobRecord.fresh.Goals as goal

pub returns : goal.returns
unfolding fresh_record
returns c = refl
