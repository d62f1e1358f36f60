-- A machine that has read some characters.
use Rattle.std.proofs.Common.{◌≡◌, inl, subst, ℕ, ◌<◌, ◌≤◌, ◌+◌, ◌*◌, List, [], ◌∷◌, ◌++◌, length, Option, Some, None, BTreeSet, arith}
use Rattle.std.specs.Prelude.{IfSome, Bool, true}
use Rattle.std.specs.Char.{is_ascii}
use Rattle.std.specs.Option.{MatchOption}
use Rattle.std.specs.List.{slice_get}
use Rattle.std.specs.Str.{chars, IsUtf8}
use Rattle.std.proofs.Math.Logic.{∥∥₁_elim}
use Rattle.std.proofs.Props.{props}
use Rattle.std.proofs.lemmas.Bool.Decides.{nat_tests}
use Rattle.std.proofs.lemmas.Option.{slice_get_within}
use Rattle.btree_range_map.specs.Characters.{IsCharacter}
use Rattle.charmoves.specs.Automata.{HasRule, IsStart}
use Rattle.state_sets.specs.declared.longest.Match.{Match}
use Rattle.state_sets.specs.Steps.{AreAfter}
use Rattle.state_sets.specs.Tokens.{IsFirstAmong}
use Rattle.state_sets.proofs.Best.{IsBest, best_none, best_grows, best_stays, best_when_stuck, token_of_best}
use Rattle.state_sets.proofs.Leading.{after_none, after_more}
use Rattle.state_sets.proofs.Lists.{some_at}
use Rattle.state_sets.proofs.Reading.{bytes_of}
use Rattle.lexing.specs.declared.machine.Machine.{Machine}
use Rattle.lexing.specs.declared.step.Step.{Step}
use Rattle.lexing.specs.Lexers.{rules_in, Accepts}
use Rattle.lexing.specs.Tokens.{IsToken, BeginsWithNone}
use Rattle.lexing.specs.Machines.{Row, RowBinds, AreStates, IsMachine, target}
use Rattle.lexing.specs.MachineSteps.{GoesTo, state_count}

module _ (machine : Machine) where
  abbrev pub HasStep : ℕ → ℕ → ℕ → Type 0
  HasStep = HasRule (rules_in machine.lexer)

  abbrev pub Starts : ℕ → Type 0
  Starts = IsStart (rules_in machine.lexer)

  abbrev pub IsBestOf : List ℕ → Option Match → Type 0
  IsBestOf = IsBest HasStep Starts (Accepts machine.lexer)

  -- the state stands for the states that what is read leads to
  pub record IsThere (read : List ℕ) (state : ℕ) : Type 0 where
    pub sets : List (BTreeSet ℕ)
    pub are : AreStates machine.lexer sets machine.states
    pub all : length sets ≡ state_count machine
    pub set : BTreeSet ℕ
    pub stands : slice_get sets state ≡ Some set
    pub after : AreAfter HasStep Starts read set

  pub there_none : IsMachine machine.lexer machine.states → IsThere [] 0
  there_none (sets, are, all) = grind (arith, after_none HasStep Starts)

  pub there_more : (read : List ℕ) (c state next : ℕ) → GoesTo machine state c (Some next)
      → IsThere read state → IsThere (read ++ c ∷ []) next
  there_more read c state next goes was =
      let (reached, stands, by) = goes was.sets was.are was.all was.set was.stands in
      record {
        sets = was.sets;
        are = was.are;
        all = was.all;
        set = reached;
        stands = stands;
        after = after_more HasStep Starts read was.set reached c was.after by;
      }

  -- and that is the longest token of what is read
  pub record IsRunning (read : List ℕ) (state : ℕ) (longest : Option Match) : Type 0 where
    pub there : IsThere read state
    pub best : IsBestOf read longest

  pub running_none : IsMachine machine.lexer machine.states → IsRunning [] 0 None
  running_none is = record {
    there = there_none is;
    best = best_none HasStep Starts (Accepts machine.lexer);
  }

  module _ (read : List ℕ) (c state next : ℕ) (longest : Option Match) (found : Option ℕ)
      (goes : GoesTo machine state c (Some next))
      (at : slice_get machine.states.first_rules.items next ≡ Some found)
      (was : IsRunning read state longest) where
    -- a character more, with which a token of the first rule ends, or none
    goes_on : (now : Option Match) → ((reached : BTreeSet ℕ)
        → AreAfter HasStep Starts (read ++ c ∷ []) reached
        → IsFirstAmong (Accepts machine.lexer) reached found → IsBestOf (read ++ c ∷ []) now)
        → IsRunning (read ++ c ∷ []) next now
    goes_on now best =
        let there = there_more read c state next goes was.there in
        record {
          there = there;
          best = best there.set there.after (there.are.first next found there.set at there.stands);
        }

    pub running_grows : (rule len : ℕ) → len ≡ bytes_of (read ++ c ∷ []) → found ≡ Some rule
        → IsRunning (read ++ c ∷ []) next (Some (record { rule = rule; len = len }))
    running_grows rule len bytes is =
        goes_on _
        (λ reached after told. best_grows _ _ _ read c reached found rule len after told is bytes)

    pub running_stays : ((rule : ℕ) → ¬ (found ≡ Some rule))
        → IsRunning (read ++ c ∷ []) next longest
    running_stays never =
        goes_on longest
        (λ reached after told.
        best_stays _ _ _ read c reached found longest after told never was.best)

  module _ (text : List ℕ) (utf8 : IsUtf8 text) (longest : Option Match) where
    abbrev IsTold : Type 0
    IsTold = MatchOption longest (BeginsWithNone machine.lexer text)
        (λ m. IsToken machine.lexer text m.rule m.len)

    -- the whole text is read, or the next character leads nowhere
    told_of_best : (read : List ℕ) (state : ℕ) → ∥ IsRunning read state longest ∥₁
        → (IsRunning read state longest → IsBestOf (chars text) longest) → IsTold
    told_of_best read state running best =
        ∥∥₁_elim running (told_prop longest)
        (λ was. token_of_best _ _ _ text utf8 longest (best was))
      where
        told_prop : (found : Option Match) → IsProp (MatchOption found
            (BeginsWithNone machine.lexer text) (λ m. IsToken machine.lexer text m.rule m.len))
        told_prop None = hlevel props
        told_prop (Some m) = hlevel props

    pub token_at_end : (read : List ℕ) (state : ℕ) → read ≡ chars text
        → ∥ IsRunning read state longest ∥₁ → IsTold
    token_at_end read state whole running =
        told_of_best read state running (λ was. rw (← whole) was.best)

    pub token_when_stuck : (read rest : List ℕ) (c state : ℕ) → chars text ≡ read ++ c ∷ rest
        → GoesTo machine state c None → ∥ IsRunning read state longest ∥₁ → IsTold
    token_when_stuck read rest c state split goes running =
        told_of_best read state running
        (λ was.
        let there = was.there in
        let none = goes there.sets there.are there.all there.set there.stands in
        rw split (best_when_stuck _ _ _ read rest c there.set longest there.after none was.best))

  -- the next state is one of the machine's
  pub next_within : (state c : ℕ) (next : Option ℕ) → state < state_count machine
      → GoesTo machine state c next → IfSome next (λ n. n < state_count machine)
  next_within state c None within goes = tt
  next_within state c (Some next) within goes =
      ∥∥₁_elim machine.sound (hlevel props)
      (λ (sets, are, all).
      let (set, stands) = some_at sets state (omega (arith, within, all)) in
      grind (arith, goes sets are all set stands, slice_get_within sets next))

  pub some_state : IsMachine machine.lexer machine.states → 0 < state_count machine
  some_state (sets, are, all) =
      grind (arith, slice_get_within sets 0)

pub below_ascii : (c : ℕ) (r : Bool) → r ≡ is_ascii c → r ≡ true → c < 128
below_ascii c r e t = grind (arith, nat_tests)

module _ (machine : Machine) (state c : ℕ) (within : state < state_count machine) where
  -- a step is read
  module _ (step : Step)
      (at : slice_get machine.states.steps.items (256 * state + c) ≡ Some step) where
    pub goes_by_step : (next : Option ℕ) → target step ≡ next → c < 128
        → GoesTo machine state c next
    goes_by_step next to ascii sets are all set stands =
        let (row, here) = some_at machine.states.rows.items state within in
        let is : IsCharacter c = (omega (arith, ascii), inl (omega (arith, ascii))) in
        let binds = (are.steps state c row step (omega (arith, ascii)) here at).0 ascii in
        are.row state row set here stands c is next (subst (λ n. RowBinds row c n) to binds)

    pub nowhere_beyond_ascii : 128 ≤ c → c < 256 → target step ≡ None
    nowhere_beyond_ascii beyond byte =
        ∥∥₁_elim machine.sound (hlevel props)
        (λ (sets, are, all).
        let (row, here) = some_at machine.states.rows.items state within in
        (are.steps state c row step byte here at).1 beyond)

  -- or a row
  pub goes_by_row : IsCharacter c → (next : Option ℕ) (row : Row)
      → slice_get machine.states.rows.items state ≡ Some row → RowBinds row c next
      → GoesTo machine state c next
  goes_by_row is next row here binds sets are all set stands =
      are.row state row set here stands c is next binds
