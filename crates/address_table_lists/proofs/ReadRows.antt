-- Tables that are read line by line.
use Rattle.std.proofs.Common.{◌≡◌, ◌⊎◌, ℕ, suc, ◌+◌, List, [], ◌∷◌, ◌++◌, Option, None, Some, IfSome, length, append_assoc, inl, inr, refl, sym, subst, arith}
use Rattle.std.specs.Io.BufRead.{drop_through}
use Rattle.std.proofs.lemmas.List.{append-nil, length-append}
use Rattle.address_rows.specs.Rows.{Row}
use Rattle.line_program.specs.Lines.{IsNextLine}
use Rattle.address_lists.specs.declared.read.BadLines.{BadLines}
use Rattle.address_lists.specs.declared.read.BadLines.TheVariants.{Refused, Skipped}
use Rattle.address_table_lists.specs.Reading.{AreRead, HasRowFault, IsBadLine, IsBadRow, IsFound}
use Rattle.address_table_lists.specs.Reading.AreRead.{Ended, Said, Nothing, Other}
use Rattle.address_table_lists.specs.Rows.{Hold, HoldMore}
use Rattle.address_table_lists.specs.declared.read.Found.TheVariants as Founds
use Rattle.address_table_lists.specs.declared.read.TableError.{TableError}
use Rattle.address_table_lists.specs.declared.read.TableError.TheVariants.{Memory, Unread}
use Rattle.address_table_lists.specs.declared.rows.Rows.{Rows}

hold_one : (old mid new : Rows) (said : List Row) (row : Row) → HoldMore old mid said
    → HoldMore mid new (row ∷ []) → HoldMore old new (said ++ row ∷ [])
hold_one old mid new said row held adds = λ before holds.
    subst (Hold new) (append_assoc before said (row ∷ []))
    (adds (before ++ said) (held before holds))

module _ (Says : List ℕ → Row → Type 0) (Alone : List ℕ → Type 0) where
  -- the lines of the input before the one of this number are read
  pub record IsReadTo (input : List ℕ) (left : Option (List ℕ)) (number others : ℕ)
      (old new : Rows) : Type 0 where
    pub remaining : List ℕ
    pub left_is : left ≡ Some remaining
    pub said : List Row
    pub skipped : ℕ
    pub count : number ≡ length said + skipped + others + 1
    pub goes_on : (more : List Row) (blank later : ℕ) (rest : List ℕ)
        → AreRead Says Alone remaining more blank later rest
        → AreRead Says Alone input (said ++ more) (skipped + blank) (others + later) rest
    pub held : HoldMore old new said

  pub read_none : (input : Option (List ℕ)) (old : Rows)
      → IfSome input (λ bytes. IsReadTo bytes input 1 0 old old)
  read_none None old = tt
  read_none (Some bytes) old = record {
    remaining = bytes;
    left_is = refl;
    said = [];
    skipped = 0;
    count = refl;
    goes_on =
        λ more blank later rest read.
        let one : blank ≡ 0 + blank = omega arith in
        let two : later ≡ 0 + later = omega arith in
        subst (λ n. AreRead Says Alone bytes more n (0 + later) rest) one
        (subst (λ n. AreRead Says Alone bytes more blank n rest) two read);
    held = λ before holds. subst (Hold old) (sym (append-nil before)) holds;
  }

  said_next : (input : List ℕ) (left later : Option (List ℕ)) (number others : ℕ)
      (old mid new : Rows) (row : Row) → (read : IsReadTo input left number others old mid)
      → IsNextLine (Some read.remaining) later (λ line. (¬ Alone line) × Says line row)
      → HoldMore mid new (row ∷ []) → IsReadTo input later (number + 1) others old new
  said_next input left later number others old mid new row read (some, later_is, says) adds = record {
    remaining = drop_through 10 read.remaining;
    left_is = later_is;
    said = read.said ++ row ∷ [];
    skipped = read.skipped;
    count =
        let count = read.count in
        omega (arith, count, length-append read.said (row ∷ []));
    goes_on =
        λ more blank after rest next.
        subst (λ all. AreRead Says Alone input all (read.skipped + blank) (others + after) rest)
        (sym (append_assoc read.said (row ∷ []) more))
        (read.goes_on (row ∷ more) blank after rest
        (Said read.remaining row more blank after rest some says.0 says.1 next));
    held = hold_one old mid new read.said row read.held adds;
  }

  nothing_next : (input : List ℕ) (left later : Option (List ℕ)) (number others : ℕ)
      (old mid : Rows) → (read : IsReadTo input left number others old mid)
      → IsNextLine (Some read.remaining) later Alone
      → IsReadTo input later (number + 1) others old mid
  nothing_next input left later number others old mid read (some, later_is, skips) = record {
    remaining = drop_through 10 read.remaining;
    left_is = later_is;
    said = read.said;
    skipped = read.skipped + 1;
    count = let count = read.count in omega (arith, count);
    goes_on =
        λ more blank after rest next.
        let one : read.skipped + suc blank ≡ read.skipped + 1 + blank = omega arith in
        subst (λ n. AreRead Says Alone input (read.said ++ more) n (others + after) rest) one
        (read.goes_on more (suc blank) after rest
        (Nothing read.remaining more blank after rest some skips next));
    held = read.held;
  }

  other_next : (input : List ℕ) (left later : Option (List ℕ)) (number others : ℕ)
      (old mid : Rows) → (read : IsReadTo input left number others old mid)
      → IsNextLine (Some read.remaining) later (IsBadLine Says Alone)
      → IsReadTo input later (number + 1) (others + 1) old mid
  other_next input left later number others old mid read (some, later_is, bad) = record {
    remaining = drop_through 10 read.remaining;
    left_is = later_is;
    said = read.said;
    skipped = read.skipped;
    count = let count = read.count in omega (arith, count);
    goes_on =
        λ more blank after rest next.
        let one : others + suc after ≡ others + 1 + after = omega arith in
        subst (λ n. AreRead Says Alone input (read.said ++ more) (read.skipped + blank) n rest) one
        (read.goes_on more blank (suc after) rest
        (Other read.remaining more blank after rest some bad next));
    held = read.held;
  }

  pub row_read : (input left later : Option (List ℕ)) (number others : ℕ) (old mid new : Rows)
      → IfSome input (λ bytes. IsReadTo bytes left number others old mid)
      → IsFound Says Alone left later mid new Founds.Said
      → IfSome input (λ bytes. IsReadTo bytes later (number + 1) others old new)
  row_read None left later number others old mid new read found = tt
  row_read (Some bytes) left later number others old mid new read (row, next, adds) =
      said_next bytes left later number others old mid new row read
      (subst (λ o. IsNextLine o later (λ line. (¬ Alone line) × Says line row))
      read.left_is next) adds

  pub nothing_read : (input left later : Option (List ℕ)) (number others : ℕ) (old mid new : Rows)
      → IfSome input (λ bytes. IsReadTo bytes left number others old mid)
      → IsFound Says Alone left later mid new Founds.Nothing
      → IfSome input (λ bytes. IsReadTo bytes later (number + 1) others old new)
  nothing_read None left later number others old mid new read found = tt
  nothing_read (Some bytes) left later number others old mid new read (next, same) =
      subst (IsReadTo bytes later (number + 1) others old) (sym same)
      (nothing_next bytes left later number others old mid read
      (subst (λ o. IsNextLine o later Alone) read.left_is next))

  pub other_read : (input left later : Option (List ℕ)) (number others : ℕ) (old mid new : Rows)
      → IfSome input (λ bytes. IsReadTo bytes left number others old mid)
      → IsFound Says Alone left later mid new Founds.Other
      → IfSome input (λ bytes. IsReadTo bytes later (number + 1) (others + 1) old new)
  other_read None left later number others old mid new read found = tt
  other_read (Some bytes) left later number others old mid new read (next, same) =
      subst (IsReadTo bytes later (number + 1) (others + 1) old) (sym same)
      (other_next bytes left later number others old mid read
      (subst (λ o. IsNextLine o later (IsBadLine Says Alone)) read.left_is next))

  -- where no line is left, the whole input is read
  pub all_read : (input left later : Option (List ℕ)) (number others : ℕ) (old mid new : Rows)
      → IfSome input (λ bytes. IsReadTo bytes left number others old mid)
      → IsFound Says Alone left later mid new Founds.End
      → IfSome input (λ bytes. (said : List Row) × (skipped : ℕ)
      × AreRead Says Alone bytes said skipped others [] × HoldMore old new said)
  all_read None left later number others old mid new read ended = tt
  all_read (Some bytes) left later number others old mid new read (ended, same) =
      let empty : read.remaining ≡ [] =
      subst (λ o. IfSome o (λ bytes. bytes ≡ [])) read.left_is ended in
      let none : others + 0 ≡ others = omega arith in
      let blank : read.skipped + 0 ≡ read.skipped = omega arith in (
        read.said,
        read.skipped,
        subst (λ n. AreRead Says Alone bytes read.said n others []) blank
            (subst (λ n. AreRead Says Alone bytes read.said (read.skipped + 0) n []) none
            (subst (λ all. AreRead Says Alone bytes all (read.skipped + 0) (others + 0) [])
            (append-nil read.said) (read.goes_on [] 0 0 []
            (subst (λ rest. AreRead Says Alone rest [] 0 0 []) (sym empty) (Ended []))))),
        subst (λ held. HoldMore old held read.said) (sym same) read.held,
      )

  fault_at : (bytes : List ℕ) (left : Option (List ℕ)) (number : ℕ) (old mid : Rows)
      (error : TableError) → (read : IsReadTo bytes left number 0 old mid)
      → IsBadRow Says Alone read.remaining number error → HasRowFault Says Alone bytes error
  fault_at bytes left number old mid error read bad =
      let count = read.count in
      let place : number ≡ length read.said + read.skipped + 1 = omega (arith, count) in
      let blank : read.skipped + 0 ≡ read.skipped = omega arith in (
        read.said,
        read.skipped,
        read.remaining,
        subst (λ n. AreRead Says Alone bytes read.said n 0 read.remaining) blank
            (subst (λ all. AreRead Says Alone bytes all (read.skipped + 0) 0 read.remaining)
            (append-nil read.said) (read.goes_on [] 0 0 read.remaining (Ended read.remaining))),
        subst (λ k. IsBadRow Says Alone read.remaining k error) place bad,
      )

  -- without a bad line, nothing is said of the input
  pub other_fault : (input : Option (List ℕ)) (error : TableError)
      → (error ≡ Unread) ⊎ (error ≡ Memory)
      → IfSome input (λ bytes. HasRowFault Says Alone bytes error)
  other_fault None error other = tt
  other_fault (Some bytes) error (inl unread) =
      subst (HasRowFault Says Alone bytes) (sym unread) ([], 0, bytes, Ended bytes, tt)
  other_fault (Some bytes) error (inr memory) =
      subst (HasRowFault Says Alone bytes) (sym memory) ([], 0, bytes, Ended bytes, tt)

  fault_read : (input left : Option (List ℕ)) (number others : ℕ) (old mid : Rows)
      (error : TableError) → others ≡ 0
      → IfSome input (λ bytes. IsReadTo bytes left number others old mid)
      → IfSome left (λ bytes. IsBadRow Says Alone bytes number error)
      → IfSome input (λ bytes. HasRowFault Says Alone bytes error)
  fault_read None left number others old mid error none read bad = tt
  fault_read (Some bytes) left number others old mid error none read bad =
      let first = subst (λ n. IsReadTo bytes left number n old mid) none read in
      fault_at bytes left number old mid error first
      (subst (λ o. IfSome o (λ bytes. IsBadRow Says Alone bytes number error)) first.left_is bad)

  -- all lines before a bad one were good, where bad ones are not left out
  pub fault_found : (bad_lines : BadLines) (input left : Option (List ℕ)) (number others : ℕ)
      (old mid : Rows) (error : TableError) → (bad_lines ≡ Refused → others ≡ 0)
      → (bad_lines ≡ Skipped → (error ≡ Unread) ⊎ (error ≡ Memory))
      → IfSome input (λ bytes. IsReadTo bytes left number others old mid)
      → IfSome left (λ bytes. IsBadRow Says Alone bytes number error)
      → IfSome input (λ bytes. HasRowFault Says Alone bytes error)
  fault_found Refused input left number others old mid error none other read bad =
      fault_read input left number others old mid error (none refl) read bad
  fault_found Skipped input left number others old mid error none other read bad =
      other_fault input error (other refl)
