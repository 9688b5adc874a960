-- `planned_item` makes the plan and the places, and hands on to the items 20 to 24. Assumes nothing.
use Rattle.formats.specs.Inputs.{input_sound}
use Rattle.check_reader.proofs.planned_item.Goals as goal

pub make-requires-clause-sound : goal.make-requires-clause-sound
make-requires-clause-sound c = (input_sound _ _ _ c.requires).0

pub make-requires-clause-sound_2 : goal.make-requires-clause-sound_2
make-requires-clause-sound_2 c = (input_sound _ _ _ c.requires).1

pub invariant_of-on : goal.invariant_of-on
invariant_of-on c = record { ready = record { passes = c.requires; planned = c.make.ensures } }

pub places_of-requires-clause-inputs : goal.places_of-requires-clause-inputs
places_of-requires-clause-inputs c = record { table = c.args.table.now; ready = record { passes = c.requires; planned = c.make.ensures } }
