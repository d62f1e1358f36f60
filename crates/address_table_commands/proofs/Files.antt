-- Tables that are read, one after the other.
use Rattle.std.proofs.Common.{◌≡◌, ℕ, List, [], ◌∷◌, ◌++◌, Option, None, Some, IfSome, Result, Ok, Err, OnOk, ap, inl, inr, refl, sym, subst, ◌∙◌, append_assoc, arith, length}
use Rattle.std.proofs.lemmas.List.{append-nil}
use Rattle.std.specs.Prelude.{String}
use Rattle.std.specs.declared.alloc.Global.{Global}
use Rattle.address_lists.specs.declared.read.BadLines.TheVariants.{Refused}
use Rattle.address_rows.specs.Lines.{IsSkipped}
use Rattle.address_rows.specs.Rows.{Row}
use Rattle.address_table_lists.specs.Reading.{AreRead, SaysIn}
use Rattle.address_table_lists.specs.Rows.{Hold, HoldMore}
use Rattle.address_table_lists.specs.declared.read.Reading.{Reading}
use Rattle.address_table_lists.specs.declared.rows.Rows.{Rows}
use Rattle.address_table_commands.specs.Files.{AreKnown, AreTables, IsStop, IsTable, left_out_of, rows_of}
use Rattle.address_table_commands.specs.declared.source.Stop.{Stop}
use Rattle.address_table_commands.specs.declared.source.Stop.TheVariants.{BadList, BadTable, Memory, Unwritable}

-- a list with no element
pub nothing_left : {X : Type 0} (xs : List X) → length xs ≡ 0 → xs ≡ []
nothing_left [] none = refl
nothing_left (x ∷ xs) none = absurd (omega arith)

more_left_out : (tables : List (List Row × ℕ)) (table : List Row × ℕ)
    → left_out_of (tables ++ table ∷ []) ≡ left_out_of tables ++ table.1 ∷ []
more_left_out [] table = refl
more_left_out (first ∷ tables) table =
    ap (λ numbers. first.1 ∷ numbers) (more_left_out tables table)

more_rows : (tables : List (List Row × ℕ)) (table : List Row × ℕ)
    → rows_of (tables ++ table ∷ []) ≡ rows_of tables ++ table.0
more_rows [] table = append-nil table.0
more_rows (first ∷ tables) table =
    ap (λ rows. first.0 ++ rows) (more_rows tables table)
    ∙ sym (append_assoc first.0 (rows_of tables) table.0)

module _ (reading : Reading) (header : List ℕ) where
  -- what is added of one table, where its bytes are known
  abbrev pub IsRead : Option (List ℕ) → List ℕ → List ℕ → Rows → Rows → Type 0
  IsRead input before now old new = IfSome input (λ bytes. (table : List Row × ℕ)
      × IsTable reading header bytes table × HoldMore old new table.0
      × (now ≡ before ++ table.1 ∷ []))

  pub read_one : {X E : Type 0} (input : Option (List ℕ)) (before now : List ℕ) (old new : Rows)
      (others : ℕ) (result : Result X E)
      → IfSome input (λ bytes. (said : List Row) × (skipped : ℕ)
      × AreRead (SaysIn reading) (IsSkipped header) bytes said skipped others []
      × HoldMore old new said)
      → (reading.bad_lines ≡ Refused → others ≡ 0) → OnOk result (now ≡ before ++ others ∷ [])
      → OnOk result (IsRead input before now old new)
  read_one input before now old new others (Err stop) read all counted = tt
  read_one None before now old new others (Ok done) read all counted = tt
  read_one (Some bytes) before now old new others (Ok done) (said, skipped, are, more) all counted =
      ((said, others), (skipped, are, all), more, counted)

  -- why the one table of this name is not read
  abbrev pub IsUnread : Option (List ℕ) → String Global → Stop → Type 0
  IsUnread input name stop =
      IfSome input (λ bytes. IsStop reading header (name ∷ []) (bytes ∷ []) stop)

  -- why not all tables are read
  abbrev pub AreUnread : List (Option (List ℕ)) → List (String Global) → Stop → Type 0
  AreUnread inputs names stop =
      (files : List (List ℕ)) → AreKnown inputs files → IsStop reading header names files stop

  module _ (name : String Global) (names : List (String Global)) (bytes : List ℕ)
      (files : List (List ℕ)) where
    stops_first : (stop : Stop) → IsStop reading header (name ∷ []) (bytes ∷ []) stop
        → IsStop reading header (name ∷ names) (bytes ∷ files) stop
    stops_first (BadTable bad error) (inl is) = inl is
    stops_first (BadTable bad error) (inr later) = absurd later.2
    stops_first (BadList bad error) is = absurd is
    stops_first Memory is = tt
    stops_first Unwritable is = tt

    stops_later : (table : List Row × ℕ) → IsTable reading header bytes table → (stop : Stop)
        → IsStop reading header names files stop
        → IsStop reading header (name ∷ names) (bytes ∷ files) stop
    stops_later table said (BadTable bad error) is = inr (table, said, is)
    stops_later table said (BadList bad error) is = absurd is
    stops_later table said Memory is = tt
    stops_later table said Unwritable is = tt

  -- the first table is not read
  first_unread : (input : Option (List ℕ)) (inputs : List (Option (List ℕ)))
      (name : String Global) (names : List (String Global)) (stop : Stop)
      → IsUnread input name stop → AreUnread (input ∷ inputs) (name ∷ names) stop
  first_unread input inputs name names stop unread [] known = absurd known
  first_unread input inputs name names stop unread (bytes ∷ files) known =
      stops_first name names bytes files stop
      (subst (λ o. IsUnread o name stop) known.0 unread)

  module _ (before : List ℕ) (names : List (String Global)) (files : List (List ℕ)) where
    -- the tables before those that are left are read
    pub record AreReadTo (left : List (Option (List ℕ))) (left_names : List (String Global))
        (numbers : List ℕ) (rows : Rows) : Type 0 where
      pub rest : List (List ℕ)
      pub known : AreKnown left rest
      pub tables : List (List Row × ℕ)
      pub goes_on : (more : List (List Row × ℕ)) → AreTables reading header rest more
          → AreTables reading header files (tables ++ more)
      pub stops_on : (stop : Stop) → IsStop reading header left_names rest stop
          → IsStop reading header names files stop
      pub counted : numbers ≡ before ++ left_out_of tables
      pub held : Hold rows (rows_of tables)

    pub read_none : (inputs : List (Option (List ℕ))) (rows : Rows) → AreKnown inputs files
        → Hold rows [] → AreReadTo inputs names before rows
    read_none inputs rows known held = record {
      rest = files;
      known = known;
      tables = [];
      goes_on = λ more said. said;
      stops_on = λ stop is. is;
      counted = sym (append-nil before);
      held = held;
    }

    more_read : (input : Option (List ℕ)) (name : String Global) (left : List (Option (List ℕ)))
        (left_names : List (String Global)) (numbers later : List ℕ) (old new : Rows)
        (rest : List (List ℕ)) (tables : List (List Row × ℕ)) → AreKnown (input ∷ left) rest
        → ((more : List (List Row × ℕ)) → AreTables reading header rest more
        → AreTables reading header files (tables ++ more))
        → ((stop : Stop) → IsStop reading header (name ∷ left_names) rest stop
        → IsStop reading header names files stop)
        → numbers ≡ before ++ left_out_of tables → Hold old (rows_of tables)
        → IsRead input numbers later old new → AreReadTo left left_names later new
    more_read input name left left_names numbers later old new [] tables known goes_on stops_on
        counted held read = absurd known
    more_read input name left left_names numbers later old new (bytes ∷ rest) tables known goes_on
        stops_on counted held read =
        let (one, said, more, more_counted) =
        subst (λ o. IsRead o numbers later old new) known.0 read in record {
          rest = rest;
          known = known.1;
          tables = tables ++ one ∷ [];
          goes_on =
              λ next said_next. subst (AreTables reading header files)
              (sym (append_assoc tables (one ∷ []) next)) (goes_on (one ∷ next) (said, said_next));
          stops_on =
              λ stop is. stops_on stop (stops_later name left_names bytes rest one said stop is);
          counted =
              more_counted ∙ ap (λ all. all ++ one.1 ∷ []) counted
              ∙ append_assoc before (left_out_of tables) (one.1 ∷ [])
              ∙ ap (λ all. before ++ all) (sym (more_left_out tables one));
          held = subst (Hold new) (sym (more_rows tables one)) (more (rows_of tables) held);
        }

    -- one table more is read
    pub one_read : (input : Option (List ℕ)) (name : String Global)
        (left : List (Option (List ℕ))) (left_names : List (String Global))
        (numbers later : List ℕ) (old new : Rows)
        → AreReadTo (input ∷ left) (name ∷ left_names) numbers old
        → IsRead input numbers later old new → AreReadTo left left_names later new
    one_read input name left left_names numbers later old new to read =
        more_read input name left left_names numbers later old new to.rest to.tables to.known
        to.goes_on to.stops_on to.counted to.held read

    -- one table more is not read
    pub one_unread : (input : Option (List ℕ)) (name : String Global)
        (left : List (Option (List ℕ))) (left_names : List (String Global)) (numbers : List ℕ)
        (rows : Rows) (stop : Stop)
        → AreReadTo (input ∷ left) (name ∷ left_names) numbers rows
        → IsUnread input name stop → IsStop reading header names files stop
    one_unread input name left left_names numbers rows stop to unread =
        to.stops_on stop (first_unread input left name left_names stop unread to.rest to.known)

    ended : (numbers : List ℕ) (rows : Rows) (rest : List (List ℕ))
        (tables : List (List Row × ℕ)) → AreKnown [] rest
        → ((more : List (List Row × ℕ)) → AreTables reading header rest more
        → AreTables reading header files (tables ++ more))
        → numbers ≡ before ++ left_out_of tables → Hold rows (rows_of tables)
        → (tables : List (List Row × ℕ)) × AreTables reading header files tables
        × (numbers ≡ before ++ left_out_of tables) × Hold rows (rows_of tables)
    ended numbers rows [] tables known goes_on counted held = (
      tables,
      subst (AreTables reading header files) (append-nil tables) (goes_on [] tt),
      counted,
      held,
    )
    ended numbers rows (bytes ∷ rest) tables known goes_on counted held = absurd known

    -- all tables are read
    pub all_read : (left_names : List (String Global)) (numbers : List ℕ) (rows : Rows)
        → AreReadTo [] left_names numbers rows
        → (tables : List (List Row × ℕ)) × AreTables reading header files tables
        × (numbers ≡ before ++ left_out_of tables) × Hold rows (rows_of tables)
    all_read left_names numbers rows to =
        ended numbers rows to.rest to.tables to.known to.goes_on to.counted to.held
