-- `taken` meets its contract. Assumes nothing.
use Rattle.planning.proofs.taken.Goals as goal

pub returns : goal.returns
returns c = record { few = c.find.ensures.few; before = c.find.ensures.before; stop = c.find.ensures.here }
