-- `assignment::search` meets its contract. The three ends are those of `Roots`. Assumes nothing.
use mathlib.Core.Path.{refl}
use Rattle.assignment.specs.Matching.{gain_limit}
use Rattle.assignment.proofs.Duality.{column_limit}
use Rattle.assignment.proofs.Roots.{rooted, end_covered, end_free, end_explored, sized_out}
use Rattle.assignment.proofs.Counting.{search_rows}
use Rattle.assignment.proofs.search.Goals as goal

pub look_first-near-requires-clause-dist_len : goal.look_first-near-requires-clause-dist_len
look_first-near-requires-clause-dist_len c = let p = c.requires.pending in (refl, p.0, λ x h. column_limit p.3.state (sized_out _ c.args.problem.now.matrix.sized).gains x h)

pub returns-then-d-ge-GAIN_LIMIT-clause-ended : goal.returns-then-d-ge-GAIN_LIMIT-clause-ended
returns-then-d-ge-GAIN_LIMIT-clause-ended c = end_covered c.requires.pending.1 (rooted (sized_out _ c.args.problem.now.matrix.sized) c.requires.pending.0 c.requires.pending.1 c.requires.pending.2 c.requires.pending.3 refl c.requires.pending.4 c.look_first-near.ensures.0) c.if-d-ge-GAIN_LIMIT.true

pub returns-then-solution-b-ge-FREE-clause-ended : goal.returns-then-solution-b-ge-FREE-clause-ended
returns-then-solution-b-ge-FREE-clause-ended c = end_free c.requires.pending.1 (rooted (sized_out _ c.args.problem.now.matrix.sized) c.requires.pending.0 c.requires.pending.1 c.requires.pending.2 c.requires.pending.3 refl c.requires.pending.4 c.look_first-near.ensures.0) c.if-d-ge-GAIN_LIMIT.false c.if-solution-b-ge-FREE.true

pub explore-requires-clause-rooted : goal.explore-requires-clause-rooted
explore-requires-clause-rooted c = (rooted (sized_out _ c.args.problem.now.matrix.sized) c.requires.pending.0 c.requires.pending.1 c.requires.pending.2 c.requires.pending.3 refl c.requires.pending.4 c.look_first-near.ensures.0)

pub returns-clause-ended : goal.returns-clause-ended
returns-clause-ended c = end_explored _ _ _ gain_limit c.explore.ensures.0

pub returns-clause-search : goal.returns-clause-search
returns-clause-search c = search_rows c.requires.countable c.look_first-near.ensures.1 c.explore.ensures.1
