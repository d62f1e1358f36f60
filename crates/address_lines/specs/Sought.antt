-- Lines that are addresses.
use Rattle.std.specs.Prelude.{◌≡◌, ◌≢◌, ℕ, ◌+◌, ◌⊎◌, ◌↔◌, Bool, true, IsTrue, Option, List, [], ◌∷◌, ◌++◌}
use Rattle.std.specs.Io.BufRead.{drop_through, take_through}
use Rattle.std.specs.List.{AllByRecursion}
use Rattle.std.specs.Net.Grammar.{IsIpText}
use Rattle.std.specs.declared.net.ip_addr.IpAddr.{IpAddr}
use Rattle.line_program.specs.Listing.{SpellsEach, Writes}
use Rattle.address_text.specs.Lines.{content}
use Rattle.address_text.specs.declared.fault.Expected.TheVariants.{Address as AnAddress}
use Rattle.address_lists.specs.Lookups.{HasIp, IsTold}
use Rattle.address_lists.specs.Reading.{IsFoundAt}
use Rattle.address_lists.specs.declared.addresses.Addresses.{Addresses}
use Rattle.address_lists.specs.declared.read.ListError.{ListError}
use Rattle.address_lists.specs.declared.read.ListError.TheVariants.{BadLine, Json, Memory, Unread}

-- the line is blank, or a comment alone
abbrev pub IsBlank : List ℕ → Type 0
IsBlank line = content line ≡ []

-- the line is an address, with a comment or without
abbrev pub IsAddressLine : List ℕ → IpAddr → Type 0
IsAddressLine line address = IsIpText (content line) address

-- the addresses that the lines of the input before the rest of it are, in order: the first line has
-- the one number, and the rest begins with that of the other
pub data AreSought : ℕ → List ℕ → List IpAddr → ℕ → List ℕ → Type 0 where
  Ended : (number : ℕ) (input : List ℕ) → AreSought number input [] number input
  Blank : (number : ℕ) (input : List ℕ) (addresses : List IpAddr) (last : ℕ) (rest : List ℕ)
      → input ≢ [] → IsBlank (take_through 10 input)
      → AreSought (number + 1) (drop_through 10 input) addresses last rest
      → AreSought number input addresses last rest
  Address : (number : ℕ) (input : List ℕ) (address : IpAddr) (addresses : List IpAddr)
      (last : ℕ) (rest : List ℕ) → input ≢ []
      → IsAddressLine (take_through 10 input) address
      → AreSought (number + 1) (drop_through 10 input) addresses last rest
      → AreSought number input (address ∷ addresses) last rest

-- what is told of a line, and whether the list has its address: of a blank line nothing
abbrev pub IsToldOf : Addresses → List ℕ → Bool → List ℕ → Type 0
IsToldOf list line has text = (IsBlank line × (has ≡ true) × (text ≡ []))
    ⊎ ((address : IpAddr) × IsAddressLine line address × (IsTrue has ↔ HasIp list address)
    × IsTold list address text)

-- a line of this number is neither blank nor an address, and that stands there
abbrev pub IsNoAddress : ℕ → List ℕ → ListError → Type 0
IsNoAddress number text (BadLine line column expected found) = (line ≡ number) × (column ≡ 1)
    × (expected ≡ AnAddress) × IsFoundAt text 1 found
    × (¬ IsBlank text) × ((address : IpAddr) → ¬ IsAddressLine text address)
IsNoAddress number text Unread = ⊥
IsNoAddress number text Memory = ⊥
IsNoAddress number text (Json fault) = ⊥

-- the rest is not told of: it cannot be read, or its first line, of this number, is no address
abbrev pub IsUntold : ℕ → List ℕ → ListError → Type 0
IsUntold number rest error = ((error ≡ Unread) ⊎ (error ≡ Memory))
    ⊎ ((rest ≢ []) × IsNoAddress number (take_through 10 rest) error)

-- the address that a line is comes behind those before it, where it is one
abbrev pub IsAddedOf : List ℕ → List IpAddr → List IpAddr → Type 0
IsAddedOf line old new = (IsBlank line × (new ≡ old))
    ⊎ ((address : IpAddr) × IsAddressLine line address × (new ≡ old ++ address ∷ []))

-- the lines of the bytes before a rest are addresses, and it is not read for this reason
abbrev pub IsUnreadAt : List ℕ → ListError → Type 0
IsUnreadAt bytes error = (addresses : List IpAddr) × (number : ℕ) × (rest : List ℕ)
    × AreSought 1 bytes addresses number rest × IsUntold number rest error

module _ (list : Addresses) (bytes : List ℕ) (before after : Option (List ℕ)) where
  -- each address in the lines of the bytes is told of, and whether the list has them all
  abbrev pub AreTold : Bool → Type 0
  AreTold all = (addresses : List IpAddr) × (last : ℕ) × AreSought 1 bytes addresses last []
      × (IsTrue all ↔ AllByRecursion (HasIp list) addresses)
      × Writes before after (SpellsEach (IsTold list) addresses)

  -- those before a rest are told of, and no other for this reason
  abbrev pub AreToldUntil : ListError → Type 0
  AreToldUntil error = (addresses : List IpAddr) × (number : ℕ) × (rest : List ℕ)
      × AreSought 1 bytes addresses number rest × IsUntold number rest error
      × Writes before after (SpellsEach (IsTold list) addresses)
