-- Two tables compared.
use Rattle.std.proofs.Common.{◌≡◌, ℕ, ◌⊎◌, List, [], ◌∷◌, ◌++◌, Option, None, Some, Result, Ok, Err, IfErr, IfOk, OnOk, ap, inl, inr, refl, sym, subst, ◌∙◌, arith}
use Rattle.std.specs.Prelude.{Bool, String}
use Rattle.std.specs.declared.alloc.Global.{Global}
use Rattle.btree_range_map.specs.AnyRange.{AnyRange}
use Rattle.btree_range_map.specs.Combining.{AreCombined}
use Rattle.btree_range_map.specs.Item.{Item}
use Rattle.btree_range_map.specs.Order.{KeyOrder}
use Rattle.address_prefixes.specs.Runs.{IsSpan}
use Rattle.address_rows.specs.Rows.{Row}
use Rattle.address_table_lists.specs.declared.table.Table.{Table}
use Rattle.line_program.proofs.Listing.{appends_then, on_ok_as}
use Rattle.line_program.specs.Listing.{Writes}
use Rattle.address_table_commands.specs.Differences.{AreCompared, AreTableChanges, IsListed, IsPairStop, has_no_change}
use Rattle.address_table_commands.specs.Files.{AreKnown, AreTables, IsStop, left_out_of, rows_of}
use Rattle.address_table_commands.specs.Results.{IsTableOf}
use Rattle.address_table_commands.specs.declared.differences.Changes.{Changes}
use Rattle.address_table_commands.specs.declared.differences.Extent.{Extent}
use Rattle.address_table_commands.specs.declared.source.Stop.{Stop}
use Rattle.address_table_commands.specs.declared.table.Asked.{Asked}
use Rattle.address_table_commands.proofs.Printed.{AreMade, IsUnprinted, stops_unprinted}

-- two texts are written, one after the other
pub both_written : {X E : Type 0} (r : Result X E) (start now next : Option (List ℕ))
    (P Q : List ℕ → Type 0) → Writes start now P → OnOk r (Writes now next Q)
    → OnOk r (Writes start next (λ text. (first : List ℕ) × (second : List ℕ) × P first × Q second
    × (text ≡ first ++ second)))
both_written r start now next P Q (first, is, appended) =
    on_ok_as r _ _
    (λ (second, also, more). (
      first ++ second,
      (first, second, is, also, refl),
      appends_then start now next first second appended more,
    ))

-- the first number of a span alone
pub first_alone : (width : ℕ) (ends : ℕ × ℕ) → IsSpan width ends → IsSpan width (ends.0, ends.0)
first_alone width ends is = let low = is.0 in let high = is.1 in (omega arith, omega (arith, low, high))

module _ {K V W X E : Type 0} (order : KeyOrder K) (same_left : V → V → Bool)
    (same_right : W → W → Bool) (same : X → X → Bool)
    (may kept : Option V → Option W → Result (Option X) E → Type 0)
    (keeps : (left : Option V) (right : Option W) (made : Result (Option X) E)
    → may left right made → kept left right made)
    (items : List (Item (AnyRange K) V)) (others : List (Item (AnyRange K) W)) where
  -- what a closure makes of two tables, by a relation that its answers keep
  pub combined_as : (new : List (Item (AnyRange K) X))
      → AreCombined order same_left same_right same may items others new
      → AreCombined order same_left same_right same kept items others new
  combined_as new combined = grind (arith, keeps)

module _ (asked : Asked) (extent : Extent) (inputs other_inputs : List (Option (List ℕ)))
    (numbers later now : List ℕ) where
  -- whether the tables of all inputs are alike, and what is printed of them
  abbrev pub ArePairMade : Option (List ℕ) → Option (List ℕ) → Bool → Type 0
  ArePairMade before after alike = (files : List (List ℕ)) → (others : List (List ℕ))
      → AreKnown inputs files → AreKnown other_inputs others
      → (said : List (List Row × ℕ)) × (other_said : List (List Row × ℕ))
      × AreTables asked.reading asked.header.now files said
      × AreTables asked.reading asked.header.now others other_said
      × (now ≡ numbers ++ left_out_of said ++ left_out_of other_said)
      × Writes before after (AreCompared asked extent (rows_of said) (rows_of other_said) alike)

  pub pair_compared : (texts others : List (List ℕ)) (first second : Table)
      (before after : Option (List ℕ)) (result : Result Bool Stop)
      → AreMade asked inputs numbers later (λ rows. IsTableOf asked rows texts first)
      → AreMade asked other_inputs later now (λ rows. IsTableOf asked rows others second)
      → IfOk result (λ alike. (changes : Changes)
      × AreTableChanges texts first others second changes × (alike ≡ has_no_change changes)
      × Writes before after (IsListed extent texts others changes))
      → IfOk result (ArePairMade before after)
  pair_compared texts others first second before after (Err stop) made other_made printed = tt
  pair_compared texts others first second before after (Ok alike) made other_made
      (changes, differ, told, (text, listed, appended)) =
      λ files other_files known other_known.
      let (said, are, counted, of_rows) = made files known in
      let (other_said, other_are, other_counted, of_other_rows) =
      other_made other_files other_known in (
        said,
        other_said,
        are,
        other_are,
        other_counted ∙ ap (λ all. all ++ left_out_of other_said) counted,
        (
          text,
          record {
            texts = texts;
            others = others;
            before = first;
            after = second;
            changes = changes;
            first = of_rows;
            second = of_other_rows;
            differ = differ;
            told = told;
            listed = listed;
          },
          appended,
        ),
      )

module _ (asked : Asked) (names other_names : List (String Global))
    (inputs other_inputs : List (Option (List ℕ))) where
  -- why two tables are not compared
  abbrev pub IsPairUnread : Stop → Type 0
  IsPairUnread stop = (files : List (List ℕ)) → (others : List (List ℕ))
      → AreKnown inputs files → AreKnown other_inputs others
      → IsPairStop asked.reading asked.header.now names files other_names others stop

  pub pair_unprinted : {X : Type 0} (result : Result X Stop) → IfErr result IsUnprinted
      → IfErr result IsPairUnread
  pair_unprinted (Ok done) failed = tt
  pair_unprinted (Err stop) failed = λ files others known other_known.
      inl (stops_unprinted asked.reading asked.header.now names files stop failed)

  pub first_unread : (stop : Stop)
      → ((files : List (List ℕ)) → AreKnown inputs files
      → IsStop asked.reading asked.header.now names files stop)
      → IsPairUnread stop
  first_unread stop unread = λ files others known other_known. inl (unread files known)

  pub second_unread : (stop : Stop) (numbers later : List ℕ) (IsMade : List Row → Type 0)
      → AreMade asked inputs numbers later IsMade
      → ((others : List (List ℕ)) → AreKnown other_inputs others
      → IsStop asked.reading asked.header.now other_names others stop)
      → IsPairUnread stop
  second_unread stop numbers later IsMade made unread = λ files others known other_known.
      let (said, are, counted, rest) = made files known in inr (said, are, unread others other_known)
