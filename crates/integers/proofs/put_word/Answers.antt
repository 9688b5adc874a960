-- `put_word` meets its contract. Assumes nothing.
use Rattle.std.proofs.Common.{◌∙◌, arith}
use Rattle.integers.specs.Laws.{put_word_is}
use Rattle.integers.proofs.put_word.Goals as goal

pub returns : goal.returns
returns c = put_word_is _ _ _ _ _ c.requires (omega arith) (omega arith) (c.copy_from_slice.ensures.after ∙ c.to_le_bytes.ensures)
