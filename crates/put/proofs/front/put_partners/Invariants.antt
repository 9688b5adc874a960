-- `put_partners` stores one partner after the other, each where the one before it ends. Assumes nothing.
use mathlib.Core.Path.{◌≡◌}
use Rattle.model.specs.Certificate.{partner_at}
use Rattle.put.specs.Front.{PartnersPut}
use Rattle.put.proofs.front.put_partners.Given as goal

abbrev pub invariant-loop-p : goal.invariant-loop-p
invariant-loop-p l = (l.at ≡ partner_at l.p-index) × PartnersPut l.p-index l.partners l.initial.d l.d
