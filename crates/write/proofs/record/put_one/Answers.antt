-- `put_one` meets its contract. Assumes nothing.
use Rattle.std.proofs.Common.{◌≤◌, length, ap, ℕ, ◌+◌, sym, arith}
use mir.Facts.{to_z-of_z}
use Rattle.records.specs.Others.{others_few}
use Rattle.write.specs.Frames.{front_long, record_part, one_put}
use Rattle.write.proofs.record.put_one.Goals as goal

pub others_row-others-requires-clause-l_le_degree_limit : goal.others_row-others-requires-clause-l_le_degree_limit
others_row-others-requires-clause-l_le_degree_limit c = omega (arith, c.others_of-l.ensures, others_few (length c.args.neighbours.now) c.args.q, c.requires.one_fits.degree)

pub others_row-others-requires-clause-l_in_bounds : goal.others_row-others-requires-clause-l_in_bounds
others_row-others-requires-clause-l_in_bounds c = omega (arith, c.others_of-l.ensures, others_few (length c.args.neighbours.now) c.args.q)

pub slice_bounds-others-end : goal.slice_bounds-others-end
slice_bounds-others-end c = omega (arith, c.others_of-l.ensures, others_few (length c.args.neighbours.now) c.args.q, c.requires.one_fits.degree, c.others_row-others.ensures.long)

pub slice_bounds-put_record-end : goal.slice_bounds-put_record-end
slice_bounds-put_record-end c =
    let few : c.others_of-l.result ≤ length c.others_row-others.result = omega (arith, c.others_of-l.ensures, others_few (length c.args.neighbours.now) c.args.q, c.requires.one_fits.degree, c.others_row-others.ensures.long) in
    sym (front_long _ _ few)

pub overflow_cast-l : goal.overflow_cast-l
overflow_cast-l c = omega (arith, c.others_of-l.ensures, others_few (length c.args.neighbours.now) c.args.q, c.requires.one_fits.degree)

pub returns : goal.returns
returns c =
    let few : c.others_of-l.result ≤ length c.others_row-others.result = omega (arith, c.others_of-l.ensures, others_few (length c.args.neighbours.now) c.args.q, c.requires.one_fits.degree, c.others_row-others.ensures.long) in
    one_put c.others_of-l.ensures (to_z-of_z c.ranges.value) (ap (λ (x : ℕ). c.args.at + x) c.subproblem_length.ensures) c.others_row-others.ensures (record_part few c.put_record.ensures)
