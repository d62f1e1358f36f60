-- How far lines that are addresses are read.
use Rattle.std.proofs.Common.{◌≡◌, ℕ, ◌+◌, ◌⊎◌, List, [], ◌∷◌, ◌++◌, Option, None, Some, IfSome, append_assoc, refl, subst, sym, inl, inr}
use Rattle.std.proofs.lemmas.List.{append-nil}
use Rattle.std.specs.Io.BufRead.{drop_through}
use Rattle.std.specs.declared.net.ip_addr.IpAddr.{IpAddr}
use Rattle.line_program.specs.Lines.{IsLineRead}
use Rattle.address_lists.specs.declared.read.ListError.{ListError}
use Rattle.address_lists.specs.declared.read.ListError.TheVariants.{Memory, Unread}
use Rattle.address_lines.specs.Sought.{AreSought, IsAddedOf, IsAddressLine, IsBlank, IsNoAddress, IsUnreadAt}
use Rattle.address_lines.specs.Sought.AreSought.{Address, Blank, Ended}

-- the lines of the input before the one of this number are these addresses
pub record IsReadTo (input : List ℕ) (left : Option (List ℕ)) (number : ℕ)
    (addresses : List IpAddr) : Type 0 where
  pub remaining : List ℕ
  pub left_is : left ≡ Some remaining
  pub goes_on : (more : List IpAddr) (last : ℕ) (rest : List ℕ)
      → AreSought number remaining more last rest
      → AreSought 1 input (addresses ++ more) last rest

pub none_read : (input : Option (List ℕ))
    → IfSome input (λ bytes. IsReadTo bytes input 1 [])
none_read None = tt
none_read (Some bytes) = record {
  remaining = bytes;
  left_is = refl;
  goes_on = λ more last rest are. are;
}

blank_read : (input : List ℕ) (left later : Option (List ℕ)) (number : ℕ)
    (old new : List IpAddr) (line : List ℕ) → (to : IsReadTo input left number old)
    → IsLineRead (Some to.remaining) later line → IsBlank line → new ≡ old
    → IsReadTo input later (number + 1) new
blank_read input left later number old new line to (some, later_is, is_line) blank same =
    subst (IsReadTo input later (number + 1)) (sym same) (record {
      remaining = drop_through 10 to.remaining;
      left_is = later_is;
      goes_on =
          λ more last rest are. to.goes_on more last rest
          (Blank number to.remaining more last rest some (subst IsBlank is_line blank) are);
    })

address_read : (input : List ℕ) (left later : Option (List ℕ)) (number : ℕ)
    (old new : List IpAddr) (line : List ℕ) (address : IpAddr)
    → (to : IsReadTo input left number old)
    → IsLineRead (Some to.remaining) later line → IsAddressLine line address
    → new ≡ old ++ address ∷ [] → IsReadTo input later (number + 1) new
address_read input left later number old new line address to (some, later_is, is_line) is added =
    subst (IsReadTo input later (number + 1)) (sym added) (record {
      remaining = drop_through 10 to.remaining;
      left_is = later_is;
      goes_on =
          λ more last rest are. subst (λ each. AreSought 1 input each last rest)
          (sym (append_assoc old (address ∷ []) more))
          (to.goes_on (address ∷ more) last rest
          (Address number to.remaining address more last rest some
          (subst (λ l. IsAddressLine l address) is_line is) are));
    })

pub line_read : (input left later : Option (List ℕ)) (number : ℕ) (old new : List IpAddr)
    (line : List ℕ) → IfSome input (λ bytes. IsReadTo bytes left number old)
    → IsLineRead left later line → IsAddedOf line old new
    → IfSome input (λ bytes. IsReadTo bytes later (number + 1) new)
line_read None left later number old new line to read added = tt
line_read (Some bytes) left later number old new line to read (inl (blank, same)) =
    blank_read bytes left later number old new line to
    (subst (λ o. IsLineRead o later line) to.left_is read) blank same
line_read (Some bytes) left later number old new line to read (inr (address, is, added)) =
    address_read bytes left later number old new line address to
    (subst (λ o. IsLineRead o later line) to.left_is read) is added

read_before : (bytes : List ℕ) (left : Option (List ℕ)) (number : ℕ) (addresses : List IpAddr)
    → (to : IsReadTo bytes left number addresses)
    → AreSought 1 bytes addresses number to.remaining
read_before bytes left number addresses to =
    subst (λ each. AreSought 1 bytes each number to.remaining) (append-nil addresses)
    (to.goes_on [] number to.remaining (Ended number to.remaining))

-- where no line is left, all are read
pub all_read : (input left : Option (List ℕ)) (number : ℕ) (addresses : List IpAddr)
    → IfSome input (λ bytes. IsReadTo bytes left number addresses)
    → IfSome left (λ bytes. bytes ≡ [])
    → IfSome input (λ bytes. (last : ℕ) × AreSought 1 bytes addresses last [])
all_read None left number addresses to ended = tt
all_read (Some bytes) left number addresses to ended =
    let empty : to.remaining ≡ [] =
    subst (λ o. IfSome o (λ bytes. bytes ≡ [])) to.left_is ended in (
      number,
      subst (λ rest. AreSought 1 bytes addresses number rest) empty
          (read_before bytes left number addresses to),
    )

-- a line cannot be read
pub halted : (input left : Option (List ℕ)) (number : ℕ) (addresses : List IpAddr)
    (error : ListError) → IfSome input (λ bytes. IsReadTo bytes left number addresses)
    → (error ≡ Unread) ⊎ (error ≡ Memory) → IfSome input (λ bytes. IsUnreadAt bytes error)
halted None left number addresses error to unread = tt
halted (Some bytes) left number addresses error to unread =
    (addresses, number, to.remaining, read_before bytes left number addresses to, inl unread)

-- and where one is no address, or there is no memory for it
pub line_unread : (input left later : Option (List ℕ)) (number : ℕ) (addresses : List IpAddr)
    (line : List ℕ) (error : ListError)
    → IfSome input (λ bytes. IsReadTo bytes left number addresses)
    → IsLineRead left later line → (error ≡ Memory) ⊎ IsNoAddress number line error
    → IfSome input (λ bytes. IsUnreadAt bytes error)
line_unread None left later number addresses line error to read bad = tt
line_unread (Some bytes) left later number addresses line error to read (inl memory) =
    (addresses, number, to.remaining, read_before bytes left number addresses to, inl (inr memory))
line_unread (Some bytes) left later number addresses line error to read (inr bad) =
    let (some, later_is, is_line) = subst (λ o. IsLineRead o later line) to.left_is read in (
      addresses,
      number,
      to.remaining,
      read_before bytes left number addresses to,
      inr (some, subst (λ l. IsNoAddress number l error) is_line bad),
    )
