-- What a history of calls binds a key to: what the last unrefused call on it says.
use Rattle.std.specs.Prelude.{◌≡◌, Bool, List, ◌∷◌, Option, None, Result, Ok, ⊤}
use Rattle.range_keys.specs.Order.{KeyOrder}
use Rattle.range_algebra.specs.Range.{Holds}
use Rattle.range_runs.specs.Answers.{IsAsAnswered}
use Rattle.range_runs.specs.Bindings.{IsSomeOf}
use Rattle.range_commands.specs.declared.command.Command.{Command}
use Rattle.range_commands.specs.declared.command.Command.TheVariants.{Insert, InsertDisconnected, Remove, Update}
use Rattle.range_commands.specs.declared.command.Reply.{Reply}
use Rattle.range_commands.specs.declared.command.Reply.TheVariants.{Memory, Connected, Closure}

-- the reply says that nothing was changed
abbrev pub IsRefusal : {K V E : Type 0} → Reply K V E → Type 0
IsRefusal Memory = ⊤
IsRefusal (Connected r v) = ⊤
IsRefusal (Closure e) = ⊤
IsRefusal reply = ⊥

module _ {K : Type 0} (order : KeyOrder K) (k : K) {V T : Type 0} where
  -- the command may change what the key is bound to
  abbrev pub IsOn : Command K V T → Type 0
  IsOn (Insert r v) = Holds order r k
  IsOn (InsertDisconnected r v) = Holds order r k
  IsOn (Remove r) = Holds order r k
  IsOn (Update r t) = Holds order r k
  IsOn command = ⊥

module _ {K : Type 0} (order : KeyOrder K) {V : Type 0} (same : V → V → Bool) {T E : Type 0}
    (may : T → Option V → Result (Option V) E → Type 0) (k : K) where
  -- the closure may answer so to a binding, with the tag
  abbrev pub IsAnsweredTo : T → Option V → Option V → Type 0
  IsAnsweredTo t c b = (answer : Option V) × may t c (Ok answer) × IsAsAnswered same answer b

  -- what a key that the command is on is bound to by it
  abbrev pub IsBoundBy : (Option V → Type 0) → Command K V T → Option V → Type 0
  IsBoundBy before (Insert r v) b = IsSomeOf order same v b
  IsBoundBy before (InsertDisconnected r v) b = IsSomeOf order same v b
  IsBoundBy before (Remove r) b = b ≡ None
  IsBoundBy before (Update r t) b = (c : Option V) × before c × IsAnsweredTo t c b
  IsBoundBy before command b = before b

  -- what a key may be bound to after one more call
  pub record BindAfter (before : Option V → Type 0) (command : Command K V T) (reply : Reply K V E)
      (b : Option V) : Type 0 where
    pub on : IsOn order k command → ¬ IsRefusal reply → IsBoundBy before command b
    pub other : ¬ IsOn order k command → before b
    pub refused : IsRefusal reply → before b

  abbrev pub BindOver : (Option V → Type 0) → List (Command K V T) → List (Reply K V E) → Option V
      → Type 0
  BindOver before (command ∷ commands) (reply ∷ replies) b =
      BindOver (BindAfter before command reply) commands replies b
  BindOver before commands replies b = before b
