-- Values that are counted, one after the other.
use Rattle.std.proofs.Common.{ℕ, ◌+◌, ◌<◌, ◌≤◌, List, [], ◌++◌, Option, append_assoc, drop, get_or, length, refl, subst, sym}
use Rattle.std.proofs.lemmas.List.{append-nil, drop_all}
use Rattle.std.specs.Io.KnownBytes.{Appends}
use Rattle.line_program.specs.Listing.{Writes}
use Rattle.line_program.proofs.Listing.{appends_none, appends_then}
use Rattle.address_table_lists.specs.Counts.{AreCounted, IsCountOf}
use Rattle.address_table_lists.specs.declared.table.Table.{Table}
use Rattle.line_program.proofs.Told.{item_first}

module _ (table : Table) (all : List (List ℕ)) where
  -- the lines of the values before the one of this number are written
  pub record IsCountedTo (number : ℕ) (before now : Option (List ℕ)) : Type 0 where
    pub written : List ℕ
    pub appended : Appends before now written
    pub goes_on : (lines : List ℕ) → AreCounted table number (drop number all) lines
        → AreCounted table 0 all (written ++ lines)

  pub counted_none : (known : Option (List ℕ)) → IsCountedTo 0 known known
  counted_none known = record {
    written = [];
    appended = appends_none known;
    goes_on = λ lines counted. counted;
  }

  pub counted_more : (number : ℕ) (before now next : Option (List ℕ)) → number < length all
      → IsCountedTo number before now
      → Writes now next (IsCountOf table number (get_or all number []))
      → IsCountedTo (number + 1) before next
  counted_more number before now next within counted (text, is, more) = record {
    written = counted.written ++ text;
    appended = appends_then before now next counted.written text counted.appended more;
    goes_on =
        λ lines rest.
        subst (AreCounted table 0 all) (sym (append_assoc counted.written text lines))
        (counted.goes_on (text ++ lines)
        (subst (λ left. AreCounted table number left (text ++ lines))
        (sym (item_first all number [] within)) (text, lines, is, rest, refl)));
  }

  pub counted_all : (number : ℕ) (before now : Option (List ℕ)) → length all ≤ number
      → IsCountedTo number before now → Writes before now (AreCounted table 0 all)
  counted_all number before now past counted = (
    counted.written,
    subst (AreCounted table 0 all) (append-nil counted.written)
        (counted.goes_on [] (subst (λ left. AreCounted table number left [])
        (sym (drop_all number all past)) refl)),
    counted.appended,
  )
