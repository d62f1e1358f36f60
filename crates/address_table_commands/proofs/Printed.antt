-- What is printed of the tables that are read.
use Rattle.std.proofs.Common.{◌≡◌, ◌≢◌, ℕ, ◌⊎◌, ◌↔◌, Bool, List, [], ◌∷◌, ◌++◌, Option, Some, IfSome, Result, Ok, Err, IfErr, IfOk, OnErr, OnOk, ap, inl, inr, sym, subst, ◌∙◌}
use Rattle.std.specs.Prelude.{IsTrue, String, map}
use Rattle.std.specs.List.{AllByRecursion}
use Rattle.std.specs.declared.net.ip_addr.IpAddr.{IpAddr}
use Rattle.std.specs.declared.alloc.Global.{Global}
use Rattle.address_lists.specs.Files.{IsFile}
use Rattle.address_lists.specs.declared.addresses.Addresses.{Addresses}
use Rattle.address_rows.specs.Forms.{value_text}
use Rattle.address_rows.specs.Rows.{Row}
use Rattle.address_rows.specs.declared.forms.Form.TheVariants.{Lines}
use Rattle.address_table_lists.specs.Counts.{AreCounted}
use Rattle.address_table_lists.specs.Lookups.{HasValue, IsValueLine}
use Rattle.address_table_lists.specs.Rows.{Hold}
use Rattle.address_table_lists.specs.declared.read.Reading.{Reading}
use Rattle.address_table_lists.specs.declared.rows.Rows.{Rows}
use Rattle.address_table_lists.specs.declared.table.Table.{Table}
use Rattle.line_program.specs.Listing.{SpellsEach, Writes}
use Rattle.address_table_commands.specs.Files.{AreKnown, AreTables, IsListReason, IsPartStop, IsReadFailure, IsStop, left_out_of, rows_of}
use Rattle.address_table_commands.specs.Results.{ArePrinted, IsMadeFrom, IsPart, IsPartPrinted, IsSelectedIn, IsSelectedOf, IsTableOf, IsTextOf}
use Rattle.address_table_commands.specs.Values.{AreCountsOf, AreTold}
use Rattle.address_table_commands.specs.declared.print.Keeping.{Keeping}
use Rattle.address_table_commands.specs.declared.print.Output.{Output}
use Rattle.address_table_commands.specs.declared.source.Stop.{Stop}
use Rattle.address_table_commands.specs.declared.source.Stop.TheVariants.{BadList, BadTable, Memory, Unwritable}
use Rattle.address_table_commands.specs.declared.table.Asked.{Asked}
use Rattle.address_table_commands.specs.declared.table.Named.{Named}

module _ (asked : Asked) where
  -- the tables of all inputs, how many lines are left out of each, and what is made of their rows
  abbrev pub AreMade : List (Option (List ℕ)) → List ℕ → List ℕ → (List Row → Type 0) → Type 0
  AreMade inputs before now IsMade = (files : List (List ℕ)) → AreKnown inputs files
      → (said : List (List Row × ℕ)) × AreTables asked.reading asked.header.now files said
      × (now ≡ before ++ left_out_of said) × IsMade (rows_of said)

  -- the table of the rows that are held
  pub tables_made : (inputs all : List (Option (List ℕ))) (numbers later : List ℕ) (rows : Rows)
      (result : Result Named Stop) → inputs ≡ all → AreMade inputs numbers later (Hold rows)
      → IfOk result
      (λ named. IsMadeFrom asked.precedence asked.only rows named.texts named.table)
      → IfOk result (λ named. AreMade all numbers later
      (λ said. IsTableOf asked said named.texts named.table))
  tables_made inputs all numbers later rows (Err stop) same read made = tt
  tables_made inputs all numbers later rows (Ok named) same read made = λ files known.
      let (said, are, counted, held) =
      read files (subst (λ some. AreKnown some files) (sym same) known) in
      (said, are, counted, (rows, held, made))

  -- what is printed is the text of their table
  pub tables_printed : {X E : Type 0} (output : Output) (inputs : List (Option (List ℕ)))
      (numbers later : List ℕ) (texts : List (List ℕ)) (table : Table)
      (before after : Option (List ℕ)) (result : Result X E)
      → AreMade inputs numbers later (λ rows. IsTableOf asked rows texts table)
      → OnOk result (Writes before after (IsTextOf output asked.only texts table))
      → OnOk result
      (AreMade inputs numbers later (λ rows. Writes before after (ArePrinted asked output rows)))
  tables_printed output inputs numbers later texts table before after (Err stop) made printed = tt
  tables_printed output inputs numbers later texts table before after (Ok done) made
      (text, is, appended) = λ files known.
      let (said, read, counted, of_rows) = made files known in
      (said, read, counted, (text, (texts, table, of_rows, is), appended))

  -- the addresses that are selected are those of their table
  pub tables_selected : (inputs : List (Option (List ℕ))) (numbers later : List ℕ)
      (texts : List (List ℕ)) (table : Table) (values : List (List ℕ))
      (result : Result Addresses Stop)
      → AreMade inputs numbers later (λ rows. IsTableOf asked rows texts table)
      → IfOk result (IsSelectedIn texts table values)
      → IfOk result
      (λ list. AreMade inputs numbers later (λ rows. IsSelectedOf asked values rows list))
  tables_selected inputs numbers later texts table values (Err stop) made selected = tt
  tables_selected inputs numbers later texts table values (Ok list) made selected = λ files known.
      let (said, are, counted, of_rows) = made files known in
      (said, are, counted, (texts, table, of_rows, selected))

  -- the values that are told are those of their table
  pub values_told : (inputs : List (Option (List ℕ))) (numbers later : List ℕ)
      (texts : List (List ℕ)) (table : Table) (addresses : List IpAddr)
      (before after : Option (List ℕ)) (result : Result Bool Stop)
      → AreMade inputs numbers later (λ rows. IsTableOf asked rows texts table)
      → IfOk result (λ all. IsTrue all ↔ AllByRecursion (HasValue table) addresses)
      → OnOk result (Writes before after
      (SpellsEach (IsValueLine (map (value_text Lines) texts) table) addresses))
      → IfOk result
      (λ all. AreMade inputs numbers later (λ rows. AreTold asked rows addresses all before after))
  values_told inputs numbers later texts table addresses before after (Err stop) made told written =
      tt
  values_told inputs numbers later texts table addresses before after (Ok all) made told written =
      λ files known. let (said, are, counted, of_rows) = made files known in
      (said, are, counted, (texts, table, of_rows, told, written))

  -- the addresses that are counted are those of their table
  pub values_counted : {X E : Type 0} (inputs : List (Option (List ℕ))) (numbers later : List ℕ)
      (texts : List (List ℕ)) (table : Table) (before after : Option (List ℕ))
      (result : Result X E)
      → AreMade inputs numbers later (λ rows. IsTableOf asked rows texts table)
      → OnOk result (Writes before after (AreCounted table 0 texts))
      → OnOk result
      (AreMade inputs numbers later (λ rows. Writes before after (AreCountsOf asked rows)))
  values_counted inputs numbers later texts table before after (Err stop) made counts = tt
  values_counted inputs numbers later texts table before after (Ok done) made
      (text, is, appended) = λ files known.
      let (said, are, counted, of_rows) = made files known in
      (said, are, counted, (text, (texts, table, of_rows, is), appended))

  -- what is printed of a part is the text of that part
  abbrev pub IsPartMade : Output → Keeping → List (Option (List ℕ)) → Option (List ℕ) → List ℕ
      → List ℕ → Option (List ℕ) → Option (List ℕ) → Type 0
  IsPartMade output keeping inputs input numbers now before after =
      (files : List (List ℕ)) → (bytes : List ℕ) → AreKnown inputs files → input ≡ Some bytes
      → (said : List (List Row × ℕ)) × (kept : Addresses × ℕ)
      × AreTables asked.reading asked.header.now files said
      × IsFile asked.reading.strict asked.reading.bad_lines bytes kept.0 kept.1
      × (now ≡ numbers ++ left_out_of said ++ kept.1 ∷ [])
      × Writes before after (IsPartPrinted asked output keeping (rows_of said) kept.0)

  pub part_printed : {X E : Type 0} (output : Output) (keeping : Keeping)
      (inputs : List (Option (List ℕ))) (input : Option (List ℕ)) (numbers later now : List ℕ)
      (texts : List (List ℕ)) (table part : Table) (list : Addresses)
      (before after : Option (List ℕ)) (result : Result X E)
      → AreMade inputs numbers later (λ rows. IsTableOf asked rows texts table)
      → IfSome input (λ bytes. (others : ℕ)
      × IsFile asked.reading.strict asked.reading.bad_lines bytes list others
      × (now ≡ later ++ others ∷ []))
      → IsPart keeping table list part
      → OnOk result (Writes before after (IsTextOf output asked.only texts part))
      → OnOk result (IsPartMade output keeping inputs input numbers now before after)
  part_printed output keeping inputs input numbers later now texts table part list before after
      (Err stop) made read kept printed = tt
  part_printed output keeping inputs input numbers later now texts table part list before after
      (Ok done) made read kept (text, is, appended) = λ files bytes known same.
      let (said, are, counted, of_rows) = made files known in
      let (others, listed, more) = subst (λ o. IfSome o (λ bytes. (others : ℕ)
      × IsFile asked.reading.strict asked.reading.bad_lines bytes list others
      × (now ≡ later ++ others ∷ []))) same read in (
        said,
        (list, others),
        are,
        listed,
        more ∙ ap (λ all. all ++ others ∷ []) counted,
        (text, (texts, table, part, of_rows, kept, is), appended),
      )

-- printing fails where memory does not suffice or nothing can be written
abbrev pub IsUnprinted : Stop → Type 0
IsUnprinted stop = (stop ≡ Memory) ⊎ (stop ≡ Unwritable)

module _ (reading : Reading) (header : List ℕ) (names : List (String Global)) where
  pub stops_unprinted : (files : List (List ℕ)) (stop : Stop) → IsUnprinted stop
      → IsStop reading header names files stop
  stops_unprinted files stop (inl memory) =
      subst (IsStop reading header names files) (sym memory) tt
  stops_unprinted files stop (inr unwritable) =
      subst (IsStop reading header names files) (sym unwritable) tt

  pub unprinted : {X : Type 0} (inputs : List (Option (List ℕ))) (result : Result X Stop)
      → IfErr result IsUnprinted
      → IfErr result (λ stop. (files : List (List ℕ)) → AreKnown inputs files
      → IsStop reading header names files stop)
  unprinted inputs (Ok done) failed = tt
  unprinted inputs (Err stop) failed = λ files known. stops_unprinted files stop failed

  module _ (name : String Global) (inputs : List (Option (List ℕ))) (input : Option (List ℕ)) where
    -- why nothing is printed of a part
    abbrev pub IsPartUnread : Stop → Type 0
    IsPartUnread stop = (files : List (List ℕ)) → (bytes : List ℕ) → AreKnown inputs files
        → input ≡ Some bytes → IsPartStop reading header names files name bytes stop

    pub part_unprinted : {X : Type 0} (result : Result X Stop) → IfErr result IsUnprinted
        → IfErr result IsPartUnread
    part_unprinted (Ok done) failed = tt
    part_unprinted (Err stop) failed =
        λ files bytes known same. inl (stops_unprinted files stop failed)

    pub memory_unread : (stop : Stop) → stop ≡ Memory → IsPartUnread stop
    memory_unread stop memory =
        λ files bytes known same. inl (stops_unprinted files stop (inl memory))

    pub tables_unread : (stop : Stop)
        → ((files : List (List ℕ)) → AreKnown inputs files
        → IsStop reading header names files stop)
        → IsPartUnread stop
    tables_unread stop unread = λ files bytes known same. inl (unread files known)

    pub list_unread : (stop : Stop) (before now : List ℕ) (IsMade : List Row → Type 0)
        → ((files : List (List ℕ)) → AreKnown inputs files
        → (said : List (List Row × ℕ)) × AreTables reading header files said
        × (now ≡ before ++ left_out_of said) × IsMade (rows_of said))
        → IfSome input (λ bytes. IsListReason reading name bytes stop) → IsPartUnread stop
    list_unread stop before now IsMade made reason = λ files bytes known same.
        let (said, are, counted, rest) = made files known in
        inr (
          said,
          are,
          subst (λ o. IfSome o (λ bytes. IsListReason reading name bytes stop)) same reason,
        )

-- printing reads nothing
not_read : (Fails : Type 0) (stop : Stop) → IsUnprinted stop → IsReadFailure stop → Fails
not_read Fails (BadTable name error) (inl memory) = cc
not_read Fails (BadTable name error) (inr unwritable) = cc
not_read Fails (BadList name error) (inl memory) = cc
not_read Fails (BadList name error) (inr unwritable) = cc
not_read Fails Memory is = λ failure. absurd failure
not_read Fails Unwritable is = λ failure. absurd failure

pub nothing_unread : {X : Type 0} (Fails : Type 0) (result : Result X Stop)
    → IfErr result IsUnprinted → IfErr result (λ stop. IsReadFailure stop → Fails)
nothing_unread Fails (Ok done) failed = tt
nothing_unread Fails (Err stop) failed = not_read Fails stop failed

-- where nothing can be written, that is why nothing is printed
pub unwritable_unprinted : {X : Type 0} (result : Result X Stop)
    → IfErr result (λ stop. stop ≡ Unwritable) → IfErr result IsUnprinted
unwritable_unprinted (Ok done) failed = tt
unwritable_unprinted (Err stop) failed = inr failed

-- and nothing is said of what was written
pub unwritable_silent : {X : Type 0} (Same : Type 0) (result : Result X Stop)
    → IfErr result (λ stop. stop ≡ Unwritable) → result ≢ Err Unwritable → OnErr result Same
unwritable_silent Same (Ok done) failed other = tt
unwritable_silent Same (Err stop) failed other = absurd (other (ap Err failed))
