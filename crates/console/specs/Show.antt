-- What is printed of an answer and of a partner, as bytes. Assumes nothing.
use Rattle.std.specs.Prelude.{List, ◌++◌, ℕ, ℤ, Ok, Err, codes, if◌then◌else◌, ◌==◌}
use Rattle.std.specs.Fmt.{decimal, signed_decimal}
use Rattle.model.specs.Limits.{no_vertex}
use Rattle.model.specs.Refusals.{Answer, item_number}

-- the weight, or the number of the item that refuses the call
abbrev pub told : Answer ℤ → List ℕ
told (Ok w) = codes "weight " ++ signed_decimal w
told (Err e) = codes "refused " ++ decimal (item_number e)

-- a partner's number, a hyphen for none
abbrev pub partner_text : ℕ → List ℕ
partner_text p = if p == no_vertex then codes "-" else decimal p
