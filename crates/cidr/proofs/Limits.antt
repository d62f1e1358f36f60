-- What is printed in place of an answer, where few prefixes are.
use Rattle.std.proofs.Common.{◌≡◌, ℕ, List, ◌++◌, Option, Result, Ok, Err, IfOk, subst, sym}
use Rattle.line_program.specs.Listing.{Writes}
use Rattle.address_lists.specs.declared.addresses.Addresses.{Addresses}
use Rattle.address_text.specs.declared.family.Family.{Family}
use Rattle.address_lists.specs.Files.{Content}
use Rattle.address_lists.specs.Lists.{HasJust}
use Rattle.cidr_arguments.specs.declared.request.Output.{Output}
use Rattle.cidr.specs.Commands.{AreKnown, AreLists, left_out_of}
use Rattle.cidr.specs.Limits.{IsLimited, IsShownWithin}
use Rattle.cidr.specs.Shown.{IsShown}
use Rattle.cidr.specs.declared.limit.Added.{Added}
use Rattle.cidr.specs.declared.serve.Reading.{Reading}
use Rattle.cidr.specs.declared.serve.Stop.{Stop}
use Rattle.cidr.proofs.Commands.{AreMade}

-- a list is written in place of another
pub within_written : (output : Output) (list new : Addresses) (added : Added)
    (before after : Option (List ℕ)) → IsLimited output.most list new added
    → Writes before after (IsShown output.form output.only new)
    → Writes before after (IsShownWithin output list added)
within_written output list new added before after limited written =
    let (text, shown, appends) = written in (text, (new, limited, shown), appends)

-- what is printed is what is kept of the answer, or in place of that
pub answer_within : (reading : Reading) (Answer : List (Content × ℕ) → Family → ℕ → Type 0)
    (output : Output) (inputs all : List (Option (List ℕ))) (numbers later : List ℕ)
    (list : Addresses) (before after : Option (List ℕ)) (result : Result Added Stop) → inputs ≡ all
    → AreMade reading inputs numbers later (λ lists. HasJust list (Answer lists))
    → IfOk result (λ added. Writes before after (IsShownWithin output list added))
    → IfOk result (λ added. (files : List (List ℕ)) → AreKnown all files
    → (lists : List (Content × ℕ)) × (list : Addresses) × AreLists reading files lists
    × (later ≡ numbers ++ left_out_of lists) × HasJust list (Answer lists)
    × Writes before after (IsShownWithin output list added))
answer_within reading Answer output inputs all numbers later list before after (Ok added) same made
    printed = λ files known.
    let (lists, said, counted, answer) =
    made files (subst (λ one. AreKnown one files) (sym same) known) in
    (lists, list, said, counted, answer, printed)
answer_within reading Answer output inputs all numbers later list before after (Err stop) same made
    printed = tt
