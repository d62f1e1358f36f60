-- What is printed of addresses, in each form.
use Rattle.std.specs.Prelude.{◌≡◌, ℕ, List, [], ◌∷◌, ◌++◌, Option, None, Some}
use Rattle.address_text.specs.declared.family.Family.{Family}
use Rattle.address_text.specs.declared.family.Family.TheVariants.{V4, V6}
use Rattle.address_lists.specs.Counted.{IsCounted}
use Rattle.address_lists.specs.Json.{IsListText}
use Rattle.address_lists.specs.Printed.{IsPrinted}
use Rattle.address_lists.specs.Ranges.{IsPrintedAs}
use Rattle.address_lists.specs.Split.{IsPrintedSplit}
use Rattle.address_lists.specs.declared.ranges.Spelling.TheVariants as Spelled
use Rattle.address_lists.specs.declared.addresses.Addresses.{Addresses}
use Rattle.cidr_arguments.specs.declared.request.Form.{Form}
use Rattle.cidr_arguments.specs.declared.request.Form.TheVariants.{Ipset, Json, Lines as LinesOf, Nft}
use Rattle.cidr_arguments.specs.declared.request.Lines.{Lines}
use Rattle.cidr_arguments.specs.declared.request.Lines.TheVariants.{Count, Prefixes, Ranges, Singles, Split}
use Rattle.cidr.specs.Firewalls.{IsFirewallFile}
use Rattle.cidr.specs.declared.firewall.Firewall.TheVariants as Sets

-- addresses of this family are printed: those of one alone, or of both
abbrev pub IsKept : Option Family → Family → Type 0
IsKept None family = Unit {0}
IsKept (Some V4) V4 = Unit {0}
IsKept (Some V4) V6 = ⊥
IsKept (Some V6) V4 = ⊥
IsKept (Some V6) V6 = Unit {0}

-- such of the addresses as are printed
abbrev pub Kept : Option Family → (Family → ℕ → Type 0) → Family → ℕ → Type 0
Kept only P family n = IsKept only family × P family n

-- the lines of a list, with a text before what is on each and one behind it
abbrev pub AreShown : List ℕ → List ℕ → Lines → Addresses → List ℕ → Type 0
AreShown before after Prefixes list text = IsPrinted before after list text
AreShown before after Ranges list text = IsPrintedAs before after Spelled.Ends list text
AreShown before after Singles list text = IsPrintedAs before after Spelled.Singles list text
AreShown before after Count list text = IsCounted [] list text
AreShown before after (Split lengths) list text =
    IsPrintedSplit before after lengths.items list text

-- the text of a list in this form, of one family or both
abbrev pub IsShown : Form → Option Family → Addresses → List ℕ → Type 0
IsShown (LinesOf lines around) only list text =
    AreShown around.before.now around.after.now lines list text
IsShown Json only list text =
    (json : List ℕ) × IsListText list json × (text ≡ json ++ 10 ∷ [])
IsShown (Ipset name) only list text = IsFirewallFile (Sets.Ipset name) only list text
IsShown (Nft table name) only list text = IsFirewallFile (Sets.Nft table name) only list text
