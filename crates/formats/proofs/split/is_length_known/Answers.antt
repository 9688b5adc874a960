-- `is_length_known` meets its contract. Assumes nothing.
use mathlib.Core.Path.{sym}
use borrow.Author.Rules.{rules}
use Rattle.model.specs.Input.{length_known}
use Rattle.formats.specs.Split.{either, length_unknown}
use Rattle.formats.proofs.split.is_length_known.Goals as goal

pub returns-then-s-first : goal.returns-then-s-first
returns-then-s-first c = sym (length_unknown _ (search rules))

pub returns : goal.returns
unfolding length_known
returns c = rw (c.is_mark-long.ensures, c.is_mark-short.ensures, c.tree_head_length-first.ensures, ← either _)
