-- Which parts of a line count as addresses.
use Rattle.std.specs.Prelude.{ℕ, ◌⊎◌, ◌==◌, ◌||◌, Bool, not, List}
use Rattle.std.specs.Char.{is_ascii_alphanumeric}
use Rattle.std.specs.Io.BufRead.{strip_last}
use Rattle.std.specs.List.{after_first, before_first}
use Rattle.std.specs.Net.Grammar.{IsIpv4Text, IsIpv6Text}
use Rattle.std.specs.declared.net.ip_addr.IpAddr.TheVariants as Ip
use Rattle.std.specs.declared.net.ipv4_addr.Ipv4Addr.{Ipv4Addr}
use Rattle.std.specs.declared.net.ipv6_addr.Ipv6Addr.{Ipv6Addr}
use Rattle.address_text.specs.Lines.{HasByte}
use Rattle.address_lists.specs.Lookups.{HasIp}
use Rattle.address_lists.specs.declared.addresses.Addresses.{Addresses}

-- a letter, a digit, a dot or a colon
abbrev pub is_word : ℕ → Bool
is_word b = is_ascii_alphanumeric b || ((b == 46) || (b == 58))

abbrev pub ends_word : ℕ → Bool
ends_word b = not (is_word b)

abbrev pub is_colon : ℕ → Bool
is_colon b = b == 58

module _ (cuts : ℕ → Bool) where
  -- the text has this piece between two of the bytes that cut it, or between one and an end
  pub data HasPiece : List ℕ → List ℕ → Type 0 where
    First : (text : List ℕ) → HasPiece text (before_first cuts text)
    Later : (text piece : List ℕ) → HasByte cuts text → HasPiece (after_first cuts text) piece
        → HasPiece text piece

  -- one of the pieces is such
  abbrev pub HasSuch : (List ℕ → Type 0) → List ℕ → Type 0
  HasSuch P text = (piece : List ℕ) × HasPiece text piece × P piece

-- without a dot at the end, and without a colon that stands there then
abbrev pub without_mark : List ℕ → List ℕ
without_mark text = strip_last 58 (strip_last 46 text)

module _ (list : Addresses) where
  -- the text is an address of the list
  abbrev pub HasIpv4 : List ℕ → Type 0
  HasIpv4 text = (address : Ipv4Addr) × IsIpv4Text text address × HasIp list (Ip.V4 address)

  abbrev pub HasIpv6 : List ℕ → Type 0
  HasIpv6 text = (address : Ipv6Addr) × IsIpv6Text text address × HasIp list (Ip.V6 address)

  -- what stands between colons, but for a dot at its end, is an address of IPv4
  abbrev pub HasPart : List ℕ → Type 0
  HasPart word = HasSuch is_colon (λ part. HasIpv4 (strip_last 46 part)) word

  -- a word with a colon is an address of IPv6, but for a dot or a mark at its end, or a part is one
  -- of IPv4
  abbrev pub Counts : List ℕ → Type 0
  Counts word =
      (HasByte is_colon word
      × (HasIpv6 word ⊎ (HasIpv6 (strip_last 46 word) ⊎ HasIpv6 (without_mark word))))
      ⊎ HasPart word

  -- one of the words of the line counts
  abbrev pub HoldsAddress : List ℕ → Type 0
  HoldsAddress line = HasSuch ends_word Counts line
