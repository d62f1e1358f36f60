-- Lists as files that `ipset restore` and `nft -f` read.
use Rattle.std.specs.Prelude.{◌≡◌, ℕ, ◌⊎◌, List, [], ◌∷◌, ◌++◌, Option, None, Some, codes, string_bytes}
use Rattle.btree_range_map.specs.Holding.{box_items}
use Rattle.address_text.specs.declared.family.Family.{Family}
use Rattle.address_text.specs.declared.family.Family.TheVariants.{V4, V6}
use Rattle.address_lists.specs.Split.{IsFamilySplit}
use Rattle.address_lists.specs.declared.addresses.Addresses.{Addresses}
use Rattle.cidr.specs.declared.firewall.Firewall.{Firewall}
use Rattle.cidr.specs.declared.firewall.Firewall.TheVariants.{Ipset, Nft}
use Rattle.cidr.specs.declared.firewall.SetText.{SetText}

-- the name of the set of a family
abbrev pub set_name : List ℕ → Family → List ℕ
set_name name V4 = name ++ codes "_v4"
set_name name V6 = name ++ codes "_v6"

-- what a set takes, each prefix of a family
abbrev pub ipset_kind : Family → List ℕ
ipset_kind V4 = codes "hash:net family inet maxelem 4294967295 -exist"
ipset_kind V6 = codes "hash:net family inet6 maxelem 4294967295 -exist"

-- the lines that make a set of this name, where there is none, and empty it
abbrev pub ipset_head : List ℕ → Family → List ℕ
ipset_head set family = codes "create " ++ (set ++ (codes " " ++ (ipset_kind family
    ++ (codes "\nflush " ++ (set ++ codes "\n")))))

-- how a set is named, with its table
abbrev pub nft_name : List ℕ → List ℕ → List ℕ
nft_name table set = codes "inet " ++ (table ++ (codes " " ++ set))

abbrev pub nft_set : List ℕ → Family → List ℕ
nft_set name V4 = codes "add set " ++ name ++ codes " { type ipv4_addr; flags interval; }\n"
nft_set name V6 = codes "add set " ++ name ++ codes " { type ipv6_addr; flags interval; }\n"

abbrev pub nft_head : List ℕ → List ℕ → Family → List ℕ
nft_head table set family = codes "add table inet " ++ (table ++ (codes "\n"
    ++ (nft_set (nft_name table set) family
    ++ (codes "flush set " ++ (nft_name table set ++ codes "\n")))))

-- what a file has of a set for `ipset`: a line for each prefix, which adds it. It takes none of
-- length 0
pub record IsIpsetText (set : List ℕ) (family : Family) (text : SetText) : Type 0 where
  pub head : string_bytes text.head ≡ ipset_head set family
  pub opening : string_bytes text.opening ≡ []
  pub closing : text.closing.now ≡ []
  pub before : string_bytes text.before ≡ codes "add " ++ set ++ codes " "
  pub after : text.after.now ≡ []
  pub least : text.least ≡ 1

-- and for `nft`: one command that adds all prefixes
pub record IsNftText (table set : List ℕ) (family : Family) (text : SetText) : Type 0 where
  pub head : string_bytes text.head ≡ nft_head table set family
  pub opening : string_bytes text.opening
      ≡ codes "add element inet " ++ table ++ codes " " ++ set ++ codes " {\n"
  pub closing : text.closing.now ≡ codes "}\n"
  pub before : string_bytes text.before ≡ []
  pub after : text.after.now ≡ codes ","
  pub least : text.least ≡ 0

-- the texts of the set of a family
abbrev pub IsSetText : Firewall → Family → SetText → Type 0
IsSetText (Ipset name) family text = IsIpsetText (set_name name.now family) family text
IsSetText (Nft table name) family text =
    IsNftText table.now (set_name name.now family) family text

-- the list has no address of the family
abbrev pub HasNone : Addresses → Family → Type 0
HasNone list V4 = box_items list.v4 ≡ []
HasNone list V6 = box_items list.v6 ≡ []

-- the lines that make a set, and those of the fewest prefixes of its addresses, where it has any
abbrev pub IsFilled : SetText → Family → Addresses → List ℕ → Type 0
IsFilled set family list text = (HasNone list family × (text ≡ string_bytes set.head))
    ⊎ ((¬ HasNone list family) × (lines : List ℕ)
    × IsFamilySplit (string_bytes set.before) set.after.now family (set.least ∷ []) list lines
    × (text ≡ string_bytes set.head ++ string_bytes set.opening ++ lines ++ set.closing.now))

-- the set of one family
abbrev pub IsSetFile : Firewall → Family → Addresses → List ℕ → Type 0
IsSetFile firewall family list text = (set : SetText) × IsSetText firewall family set
    × IsFilled set family list text

-- those of both families, or of one alone
abbrev pub IsFirewallFile : Firewall → Option Family → Addresses → List ℕ → Type 0
IsFirewallFile firewall None list text = (first : List ℕ) × (second : List ℕ)
    × IsSetFile firewall V4 list first × IsSetFile firewall V6 list second
    × (text ≡ first ++ second)
IsFirewallFile firewall (Some family) list text = IsSetFile firewall family list text
