-- Addresses looked up in a list.
use Rattle.std.proofs.Common.{◌≡◌, ℕ, ◌↔◌, Bool, List, [], ◌∷◌, ◌++◌, Option, None, Some, IfSome, Result, Ok, Err, IfOk, OnOk}
use Rattle.std.specs.Prelude.{IsTrue}
use Rattle.std.specs.List.{AllByRecursion}
use Rattle.std.specs.declared.net.ip_addr.IpAddr.{IpAddr}
use Rattle.line_program.specs.Listing.{SpellsEach, Writes}
use Rattle.address_lists.specs.Lookups.{HasIp, IsLookup}
use Rattle.address_lists.specs.declared.addresses.Addresses.{Addresses}
use Rattle.cidr.specs.Commands.{IsList}
use Rattle.cidr.specs.declared.serve.Reading.{Reading}
use Rattle.cidr.proofs.Commands.{IsRead}

module _ (reading : Reading) (addresses : List IpAddr) (numbers later : List ℕ)
    (before after : Option (List ℕ)) where
  -- what is printed of the addresses in the list that is read
  abbrev pub AreLookedUp : Option (List ℕ) → Bool → Type 0
  AreLookedUp input all = IfSome input (λ bytes.
      (list : Addresses × ℕ) × IsList reading bytes list × (later ≡ numbers ++ list.1 ∷ [])
      × (IsTrue all ↔ AllByRecursion (HasIp list.0) addresses)
      × Writes before after (SpellsEach (IsLookup list.0) addresses))

  looked_up : (input : Option (List ℕ)) (new : Addresses) (all : Bool)
      → IsRead reading input numbers later new
      → (IsTrue all ↔ AllByRecursion (HasIp new) addresses)
      → Writes before after (SpellsEach (IsLookup new) addresses) → AreLookedUp input all
  looked_up None new all read told printed = tt
  looked_up (Some bytes) new all (others, said, counted) told printed =
      ((new, others), said, counted, told, printed)

  pub all_looked_up : {E : Type 0} (input : Option (List ℕ)) (new : Addresses)
      (result : Result Bool E) → IsRead reading input numbers later new
      → IfOk result (λ all. IsTrue all ↔ AllByRecursion (HasIp new) addresses)
      → OnOk result (Writes before after (SpellsEach (IsLookup new) addresses))
      → IfOk result (AreLookedUp input)
  all_looked_up input new (Ok all) read told printed = looked_up input new all read told printed
  all_looked_up input new (Err stop) read told printed = tt
