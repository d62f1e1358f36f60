-- What is read of a text once its one value is.
use Rattle.std.proofs.Common.{◌≡◌, ap, ◌∙◌, List, [], ◌∷◌, true, false, true≢false, sym, cond, is_some, Option, Some, None, MatchOption, option_and_then}
use Rattle.json.specs.Token.{Token}
use Rattle.json.specs.Json.{Json, if_last}
use Rattle.serde_json.specs.Data.{Data}
use Rattle.serde_json.specs.Read.{of_json}
use Rattle.json_trees.specs.Borrowed.{data_of, is_readable}
use Rattle.json_trees.proofs.Seen.{json_read}

abbrev whole : Option (Json × List Token) → Option Data
whole o = option_and_then of_json (option_and_then (λ p. if_last p.0 p.1) o)

pub text_read : (o : Option (Json × List Token)) (j : Json) → o ≡ Some (j, [])
    → is_readable j ≡ true → whole o ≡ Some (data_of j)
text_read o j e h = ap whole e ∙ json_read j ∙ ap (λ b. cond b (Some (data_of j)) None) h

pub text_goes_on : (o : Option (Json × List Token)) (j : Json) (t : Token) (ts : List Token)
    → o ≡ Some (j, t ∷ ts) → whole o ≡ None
text_goes_on o j t ts e = ap whole e

pub text_unreadable : (o : Option (Json × List Token)) (j : Json) → o ≡ Some (j, [])
    → is_readable j ≡ false → whole o ≡ None
text_unreadable o j e h = ap whole e ∙ json_read j ∙ ap (λ b. cond b (Some (data_of j)) None) h

pub one_follows : {T : Type 0} (r : Option T) (token : T → Token) (old new : List Token)
    → MatchOption r ((old ≡ []) × (new ≡ [])) (λ t. old ≡ token t ∷ new) → is_some r ≡ true
    → (t : Token) × (old ≡ t ∷ new)
one_follows None token old new h some = absurd (true≢false (sym some))
one_follows (Some t) token old new h some = (token t, h)

pub none_follows : {T : Type 0} (r : Option T) (token : T → Token) (old new : List Token)
    → MatchOption r ((old ≡ []) × (new ≡ [])) (λ t. old ≡ token t ∷ new) → is_some r ≡ false
    → old ≡ []
none_follows None token old new h none = h.0
none_follows (Some t) token old new h none = absurd (true≢false none)
