-- What the first line of an input is, what stands behind it, and the name and the word in a line's text. Assumes nothing.
use Rattle.std.specs.Prelude.{◌≡◌, ℕ, ◌<◌, ◌==◌, List, length, drop}
use Rattle.std.specs.List.{before_first, after_first}

-- the text of the first line, without its end, and what stands behind that
abbrev pub first_text : List ℕ → List ℕ
first_text input = before_first (λ b. b == 10) input

abbrev pub behind_first : List ℕ → List ℕ
behind_first input = after_first (λ b. b == 10) input

-- the name stands before the first colon; the word from the second byte behind it on, before the first blank there
abbrev pub name_in : List ℕ → List ℕ
name_in text = before_first (λ b. b == 58) text

abbrev pub word_in : List ℕ → List ℕ
word_in text = before_first (λ b. b == 32) (drop 1 (after_first (λ b. b == 58) text))

-- a line with this name and this word was the first of an input that is not empty, and what is left stands behind it
pub record FirstLine (input name word left : List ℕ) : Type 0 where
  pub some : 0 < length input
  pub name_is : name ≡ name_in (first_text input)
  pub word_is : word ≡ word_in (first_text input)
  pub left_is : left ≡ behind_first input
