-- `encode` meets its contract. Assumes nothing.
use Rattle.std.proofs.Common.{ap, ◌∙◌, sym, to_z-of_z}
use Rattle.model.specs.Bytes.{put_word, bits32}
use Rattle.integers.specs.Laws.{bits32_cast}
use Rattle.integers.proofs.encode.Goals as goal

pub returns : goal.returns
returns c = c.put_word.ensures ∙ ap (put_word _ _) (c.cast_unsigned.ensures ∙ (sym (bits32_cast _) ∙ ap bits32 (to_z-of_z c.ranges.w)))
