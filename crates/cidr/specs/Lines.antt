-- Lines of a text that are gone over, and why not to their end.
use Rattle.std.specs.Prelude.{◌≡◌, ℕ, ◌⊎◌, Option, List, String}
use Rattle.std.specs.declared.alloc.Global.{Global}
use Rattle.address_lines.specs.Found.{AreFoundSoFar}
use Rattle.address_lines.specs.Sought.{AreToldUntil}
use Rattle.address_lines.specs.declared.grep.Search.{Search}
use Rattle.address_lines.specs.declared.sought.Halt.{Halt}
use Rattle.address_lines.specs.declared.sought.Halt.TheVariants as Halts
use Rattle.address_lists.specs.Reading.{MayFail}
use Rattle.address_lists.specs.declared.addresses.Addresses.{Addresses}
use Rattle.address_lists.specs.declared.read.ListError.TheVariants as Errors
use Rattle.cidr.specs.declared.serve.Stop.{Stop}
use Rattle.cidr.specs.declared.serve.Stop.TheVariants.{Bad, Memory, Unwritable}

-- the stop says the same, with the name
abbrev pub IsStopOf : String Global → Halt → Stop → Type 0
IsStopOf name (Halts.Bad error) stop = stop ≡ Bad name error
IsStopOf name Halts.Unwritable stop = stop ≡ Unwritable

-- the lines of the text of this name are told of up to a bad one, or one cannot be written
abbrev pub IsHalted : Addresses → List ℕ → String Global → Option (List ℕ) → Option (List ℕ)
    → Stop → Type 0
IsHalted list text name before after (Bad bad error) =
    (bad ≡ name) × AreToldUntil list text before after error
IsHalted list text name before after Memory = ⊥
IsHalted list text name before after Unwritable = MayFail

-- the text of this name cannot be read to its end, and the lines before are written as is sought;
-- or one cannot be written
abbrev pub IsSearchHalted : Addresses → Search → List ℕ → List ℕ → String Global
    → Option (List ℕ) → Option (List ℕ) → Stop → Type 0
IsSearchHalted list search start bytes name before after (Bad bad error) = (bad ≡ name)
    × ((error ≡ Errors.Unread) ⊎ (error ≡ Errors.Memory))
    × AreFoundSoFar list search start bytes before after
IsSearchHalted list search start bytes name before after Memory = ⊥
IsSearchHalted list search start bytes name before after Unwritable = MayFail
