-- The tokens of a text by modes, one after the other.
use Rattle.std.specs.Prelude.{◌≡◌, ℕ, ◌⊎◌, List, [], ◌∷◌, length, ⊤}
use Rattle.lexing.specs.declared.lexer.Lexer.{Lexer}
use Rattle.lexing.specs.declared.token.Token.{Token}
use Rattle.lexing.specs.Runs.{IsTokenAt, IsStuckAt, IsBehindOne}
use Rattle.lexing_modes.specs.declared.change.ModeChange.TheVariants.{Push, Pop}
use Rattle.lexing_modes.specs.declared.error.TokenError.{TokenError}
use Rattle.lexing_modes.specs.declared.error.TokenError.TheVariants.{NoToken, NothingPushed, Memory}
use Rattle.lexing_modes.specs.declared.modes.Modes.{Modes}
use Rattle.lexing_modes.specs.declared.token.ModeToken.{ModeToken}
use Rattle.lexing_modes.specs.Modes.{IsScannerOf, change_after}
use Rattle.lexing_modes.specs.States.{State, first_state, HasSameModes, LeadsTo}

module _ {S : Type 0} (lexer : S → Lexer) (modes : Modes S) (text : List ℕ) where
  -- at the place stands this token of the mode: the longest piece that a rule of the mode accepts,
  -- by the first such rule
  abbrev pub IsTokenOf : ℕ → ℕ → Token → Type 0
  IsTokenOf mode place token = (scanner : S) × IsScannerOf modes mode scanner
      × IsTokenAt (lexer scanner) text place token

  -- at the place, which is not the end, no token of the mode begins
  abbrev pub IsStuckIn : ℕ → ℕ → Type 0
  IsStuckIn mode place = (scanner : S) × IsScannerOf modes mode scanner
      × IsStuckAt (lexer scanner) text place

  -- the token of the mode stands at the place, and behind it this is the state
  pub record Takes (before : State) (found : ModeToken) (after : State) : Type 0 where
    pub mode : found.mode ≡ before.mode
    pub token : IsTokenOf before.mode before.place found.token
    pub behind : after.place ≡ found.token.end
    pub change : LeadsTo (change_after modes before.mode found.token.rule) before after

  -- from the one state to the other the text is these tokens, one after the other
  abbrev pub AreTokens : State → List ModeToken → State → Type 0
  AreTokens before [] after = before ≡ after
  AreTokens before (found ∷ tokens) after =
      (next : State) × Takes before found next × AreTokens next tokens after

  module _ (may_refuse : S → Type 0) where
    -- an allocation may fail here: the mode's scanner allocates, or the mode's token pushes a mode
    abbrev pub MayRefuse : State → Type 0
    MayRefuse state =
        ((scanner : S) × IsScannerOf modes state.mode scanner × may_refuse scanner)
        ⊎ ((token : Token) × (next : ℕ) × IsTokenOf state.mode state.place token
        × (change_after modes state.mode token.rule ≡ Push next))

    -- why no token is taken here, and the state after it: behind one character, behind the token
    -- that has nothing to pop, or at the end
    abbrev pub Fails : State → TokenError → State → Type 0
    Fails before (NoToken mode place) after = (mode ≡ before.mode) × (place ≡ before.place)
        × IsStuckIn mode place × IsBehindOne text place after.place × HasSameModes before after
    Fails before (NothingPushed mode place) after = (mode ≡ before.mode)
        × (place ≡ before.place) × (before.below ≡ []) × ((token : Token)
        × IsTokenOf mode place token × (change_after modes mode token.rule ≡ Pop)
        × (after.place ≡ token.end)) × HasSameModes before after
    Fails before Memory after = MayRefuse before × (after.place ≡ length text)

    -- why the text is not cut into tokens: it is up to where one is not taken
    abbrev pub IsReason : TokenError → Type 0
    IsReason Memory = ⊤
    IsReason error = (tokens : List ModeToken) × (at : State) × (after : State)
        × AreTokens first_state tokens at × Fails at error after
