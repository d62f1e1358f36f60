-- Tokens of a text, one after the other.
use Rattle.std.proofs.Common.{refl, ℕ, ◌<◌, ◌≤◌, List, [], ◌∷◌, ◌++◌, length, arith}
use Rattle.std.specs.List.{AllByRecursion}
use Rattle.std.specs.Str.{IsCharBoundary}
use Rattle.std.proofs.lemmas.Str.{IsCharBoundary-from_rest}
use Rattle.lexing.specs.declared.lexer.Lexer.{Lexer}
use Rattle.lexing.specs.declared.token.Token.{Token}
use Rattle.lexing.specs.Lexers.{IsSkipped}
use Rattle.lexing.specs.declared.token.LexError.{LexError}
use Rattle.lexing.specs.declared.token.LexError.TheVariants.{NoToken, Memory}
use Rattle.lexing.specs.Runs.{IsTokenAt, AreTokens, AreSkipped, IsReasonAt, IsReason}

module _ (lexer : Lexer) (text : List ℕ) where
  pub tokens_more : (start : ℕ) (tokens : List Token) (at : ℕ) (token : Token)
      → AreTokens lexer text start tokens at → IsTokenAt lexer text at token
      → AreTokens lexer text start (tokens ++ token ∷ []) token.end
  tokens_more start [] at token same is = (rw same is, refl)
  tokens_more start (t ∷ ts) at token (first, later) is =
      (first, tokens_more t.end ts at token later is)

  all_more : (tokens : List Token) (token : Token)
      → AllByRecursion (λ t. IsSkipped lexer t.rule) tokens → IsSkipped lexer token.rule
      → AllByRecursion (λ t. IsSkipped lexer t.rule) (tokens ++ token ∷ [])
  all_more [] token all is = (is, tt)
  all_more (t ∷ ts) token all is = (all.0, all_more ts token all.1 is)

  pub skipped_more : (start at : ℕ) (token : Token) → AreSkipped lexer text start at
      → IsTokenAt lexer text at token → IsSkipped lexer token.rule
      → AreSkipped lexer text start token.end
  skipped_more start at token (tokens, are, all) is skipped = (
    tokens ++ token ∷ [],
    tokens_more start tokens at token are is,
    all_more tokens token all skipped,
  )

  pub token_boundary : (at : ℕ) (token : Token) → at ≤ length text → IsTokenAt lexer text at token
      → IsCharBoundary text token.end
  token_boundary at token within (n, is, start, end) =
      rw end (IsCharBoundary-from_rest text at n within is.accepted.0)

  pub token_further : (at : ℕ) (token : Token) → IsTokenAt lexer text at token → at < token.end
  token_further at token (n, is, start, end) = omega (arith, is.nonempty, end)

  -- no token at a place up to which there are some
  pub reason_of_all : (may_refuse : Type 0) (at : ℕ) (error : LexError) (tokens : List Token)
      → AreTokens lexer text 0 tokens at → at < length text
      → IsReasonAt lexer text may_refuse at error → IsReason lexer text error
  reason_of_all may_refuse at (NoToken place) tokens are within (same, none) =
      rw same ((tokens, are), (within, none))
  reason_of_all may_refuse at Memory tokens are within may = tt
