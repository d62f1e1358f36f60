-- Tokens are written one after the other.
use Rattle.std.proofs.Common.{◌≡◌, ◌∙◌, refl, ap, sym, subst, inl, inr, arith, ℕ, ◌+◌, ◌<◌, List, [], ◌∷◌, ◌++◌, Some, Err, length, map, take, drop}
use Rattle.std.specs.Prelude.{◌≢◌}
use Rattle.std.specs.Iterator.{Yields}
use Rattle.std.specs.List.{AllByRecursion}
use Rattle.std.proofs.lemmas.List.{drop-set-lt, length-append, length-set, map_push, take_all, take_more_set, take-append-le}
use Rattle.lexing.specs.declared.lexer.Lexer.{Lexer}
use Rattle.lexing.specs.declared.placed.Placed.{Placed}
use Rattle.lexing.specs.declared.token.LexError.TheVariants.{Memory}
use Rattle.lexing.specs.Left.{Left}
use Rattle.lexing.specs.Places.{GivesPlaced, IsPlaced}
use Rattle.lexing.specs.Runs.{IsNext}
use Rattle.lexer_handles.specs.declared.tokens.TokenParts.{TokenParts}
use Rattle.lexer_handles.specs.Tokens.{IsPut, placed_of}

-- one token more is written, if there is a slot for it
pub written_more : (before after : List TokenParts) (all : List Placed) (placed : Placed)
    (parts : TokenParts) (n : ℕ) → n ≡ length all → placed_of parts ≡ placed
    → map placed_of (take n before) ≡ take (length before) all → IsPut n parts before after
    → map placed_of (take (n + 1) after) ≡ take (length after) (all ++ placed ∷ [])
written_more before after all placed parts n counted is were (inl (within, put)) =
    let long : length (all ++ placed ∷ []) ≡ length all + 1 = length-append all (placed ∷ []) in
    rw put
    (ap (map placed_of) (take_more_set before n parts within)
    ∙ (map_push placed_of (take n before) parts
    ∙ ((λ k. (were ∙ take_all (length before) all (omega arith)) k ++ is k ∷ [])
    ∙ (sym (take_all (length before) (all ++ placed ∷ []) (omega arith))
    ∙ ap (λ m. take m (all ++ placed ∷ [])) (sym (length-set before n parts))))))
written_more before after all placed parts n counted is were (inr (past, same)) =
    rw same
    (ap (map placed_of) (take_all (n + 1) before (omega arith) ∙ sym (take_all n before past))
    ∙ (were ∙ sym (take-append-le (length before) all (placed ∷ []) (omega arith))))

-- each token that calls give has its place
pub each_placed : {S : Type 0} (lexer : S → Lexer) (may_refuse : S → Type 0) (all : List Placed)
    (left last : Left S) → Yields (GivesPlaced lexer may_refuse) left all last
    → AllByRecursion (IsPlaced left.text) all
each_placed lexer may_refuse [] left last end = tt
each_placed lexer may_refuse (placed ∷ all) left last (next, ((scanner, text, is), here), calls) = (
  here,
  subst (λ read. AllByRecursion (IsPlaced read) all) text
      (each_placed lexer may_refuse all next last calls),
)

-- what lies behind the slot stays
pub kept_behind : (before after : List TokenParts) (parts : TokenParts) (at n : ℕ) → at < n
    → IsPut at parts before after → drop n after ≡ drop n before
kept_behind before after parts at n past (inl (within, put)) =
    rw put (drop-set-lt n before at parts past)
kept_behind before after parts at n past (inr (full, same)) = rw same refl

-- what refuses no memory gives a token, or the place where none begins
pub no_memory : {S : Type 0} (lexer : S → Lexer) (before after : Left S) (placed : Placed)
    → GivesPlaced lexer (λ _. ⊥) before (Some placed) after → placed.token ≢ Err Memory
no_memory lexer before after placed ((scanner, text, next), here) is =
    (subst (λ token. IsNext (lexer before.scanner) before.text ⊥ before.place (Some token) after.place)
    is next).0
