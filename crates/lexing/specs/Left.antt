-- What is left of a text that is cut into tokens.
use Rattle.std.specs.Prelude.{ℕ, List}

-- what finds the tokens, the text, and the place from which on it is still to be cut
pub record Left (S : Type 0) : Type 0 where
  pub scanner : S
  pub text : List ℕ
  pub place : ℕ
