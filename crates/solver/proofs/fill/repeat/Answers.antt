-- `repeat` meets its contract. Assumes nothing.
use Rattle.std.proofs.Common.{◌≡◌, ◌+◌, ◌-◌, length, take, drop, sym, ◌∙◌, rules, arith}
use Rattle.std.proofs.Math.ListN.{replicate, length-replicate, length-take, length-drop}
use Rattle.std.proofs.lemmas.Slice.{put_mid-paste}
use Rattle.foundations.specs.Machine.{Same}
use Rattle.solver.specs.Numbers.{written_same}
use Rattle.solver.proofs.fill.repeat.Goals as goal

pub returns : goal.returns
returns c =
    let a = c.args.run in
    let work = c.args.work.now in
    let b : Same c.args.x = search rules in
    let n : a.from + a.count - a.from ≡ a.count = omega arith in
    let long : length (take (a.from + a.count - a.from) (drop a.from work)) ≡ a.count = simp (length-take, length-drop) (omega arith) in
    let e = c.fill.ensures.after (λ y h. h) in
    put_mid-paste a.from _ work c.fill.new.self (replicate a.count c.args.x) a.count (rw (long, b) at e) (sym n) (sym (length-replicate a.count c.args.x))
    ∙ written_same work a.from a.count c.args.x c.requires
