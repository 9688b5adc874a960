-- `places_of` meets its contract. Assumes nothing.
use Prim.Native.Nat.{◌*◌}
use mathlib.Core.Path.{◌≡◌}
use Rattle.model.specs.Certificate.{squares, record_at}
use Rattle.model.specs.Order.{width}
use Rattle.model.specs.Tree.{count}
use Rattle.records.specs.Places.{PlacesTo}
use Rattle.records.proofs.places_of.Given as goal

abbrev pub invariant-loop-i : goal.invariant-loop-i
invariant-loop-i l = (l.w ≡ width l.found) × (l.all ≡ squares l.found (count l.found)) × (l.at ≡ record_at l.recorded l.found (l.i * width l.found)) × PlacesTo l.recorded l.found l.i l.p
