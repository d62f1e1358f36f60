-- Addresses of one family alone.
use Rattle.std.proofs.Common.{ℕ, List, Option}
use Rattle.address_text.specs.declared.family.Family.{Family}
use Rattle.address_lists.specs.Lists.{Has, HasJust}
use Rattle.address_lists.specs.declared.addresses.Addresses.{Addresses}
use Rattle.cidr.specs.Commands.{IsAnswer}
use Rattle.cidr.specs.Shown.{Kept}
use Rattle.cidr_arguments.specs.declared.request.Command.{Command}
use Rattle.cidr.specs.declared.serve.Reading.{Reading}
use Rattle.cidr.proofs.Commands.{AreMade}

-- what is kept of the answer
pub kept_answer : (reading : Reading) (task : Command) (only : Option Family)
    (inputs : List (Option (List ℕ))) (before now : List ℕ) (list new : Addresses)
    → AreMade reading inputs before now (λ lists. HasJust list (IsAnswer task lists))
    → HasJust new (Kept only (Has list))
    → AreMade reading inputs before now (λ lists. HasJust new (Kept only (IsAnswer task lists)))
kept_answer reading task only inputs before now list new made kept files known =
    let (lists, said, counted, all) = made files known in (
      lists,
      said,
      counted,
      λ family n h. let one = all family n h in
          let both = kept family n h in (
            λ has. let has_both = both.0 has in (has_both.0, one.0 has_both.1),
            λ said. both.1 (said.0, one.1 said.1),
          ),
    )
