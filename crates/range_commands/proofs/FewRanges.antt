-- How many ranges more there are after a list of commands.
use Rattle.std.proofs.Common.{◌≤◌, ◌+◌, ◌*◌, Bool, List, [], ◌∷◌, length, ap, arith}
use Rattle.std.specs.Prelude.{Option, Result}
use Rattle.range_keys.specs.Order.{KeyOrder}
use Rattle.range_algebra.specs.declared.any.AnyRange.{AnyRange}
use Rattle.range_store.specs.declared.storage.Item.{Item}
use Rattle.range_commands.specs.Runs.{IsStep, AreSteps, HasNoUpdate}
use Rattle.range_commands.specs.declared.command.Command.{Command}
use Rattle.range_commands.specs.declared.command.Reply.{Reply}

module _ {K : Type 0} (order : KeyOrder K) {V : Type 0} (same : V → V → Bool) {T E : Type 0}
    (may : T → Option V → Result (Option V) E → Type 0) where
  -- one command that is no update leaves at most two ranges more
  pub two_more : (items next : List (Item (AnyRange K) V)) (command : Command K V T)
      (commands : List (Command K V T)) (reply : Reply K V E)
      → IsStep order same may items command reply next → HasNoUpdate (command ∷ commands)
      → (length next ≤ length items + 2) × HasNoUpdate commands
  two_more items next command commands reply step rest = grind (arith, step, rest)

  -- so commands without an update leave at most two ranges more for each of them
  pub few_more : (items last : List (Item (AnyRange K) V)) (commands : List (Command K V T))
      (replies : List (Reply K V E)) → AreSteps order same may items commands replies last
      → HasNoUpdate commands → length last ≤ length items + 2 * length commands
  few_more items last [] [] run no_update = omega (arith, ap length run)
  few_more items last (c ∷ commands) (r ∷ replies) run no_update =
      let grown = two_more items run.0 c commands r run.1 no_update in
      omega (arith, grown.0, few_more run.0 last commands replies run.2 grown.1)
  few_more items last commands replies run no_update = absurd run
