-- `decode` meets its contract. Assumes nothing.
use borrow.Author.Rules.{rules}
use Rattle.std.proofs.Common.{ap, ◌≡◌, ◌∙◌, arith, to_z, of_z, w32}
use Rattle.model.specs.Bytes.{signed32}
use Rattle.integers.specs.Laws.{signed32_cast}
use Rattle.integers.proofs.decode.Goals as goal

pub returns : goal.returns
returns c =
    let b : to_z w32 (of_z w32 c.cast_signed.result) ≡ c.cast_signed.result = search rules in
    b ∙ (c.cast_signed.ensures ∙ (signed32_cast _ (omega arith) ∙ ap signed32 c.unsigned_of.ensures))
