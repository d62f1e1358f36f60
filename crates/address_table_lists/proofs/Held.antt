-- Rows that are held by their numbers.
use Rattle.std.proofs.Common.{◌≡◌, ℕ, ◌<◌, List, [], ◌∷◌, ◌++◌, length, append_assoc, refl, ap, sym, subst, ◌∙◌, arith}
use Rattle.std.proofs.lemmas.List.{append-nil, get_or_append_left, length-append, map-append}
use Rattle.address_keys.specs.Addresses.{ipv4_number, ipv6_number}
use Rattle.address_rows.specs.Rows.{IsAt, Row}
use Rattle.address_rows.specs.Texts.{AreDifferent}
use Rattle.address_text.specs.declared.family.Family.{Family}
use Rattle.address_text.specs.declared.family.Family.TheVariants.{V4, V6}
use Rattle.address_text.specs.declared.line.Line.TheVariants.{Addresses, Nothing}
use Rattle.address_table_lists.specs.Rows.{AreKnown, Hold, Said, said_by, said_of, spelled, spelled_one}
use Rattle.address_table_lists.specs.declared.rows.Binding.{Binding}
use Rattle.address_table_lists.specs.declared.rows.Rows.{Rows}

said_more : (family : Family) (rows : List Row) (row : Row) → said_of family (rows ++ row ∷ [])
    ≡ said_of family rows ++ said_by family row.addresses row.value
said_more family [] row = append-nil (said_by family row.addresses row.value)
said_more family (first ∷ rows) row =
    ap (λ all. said_by family first.addresses first.value ++ all) (said_more family rows row)
    ∙ sym (append_assoc (said_by family first.addresses first.value) (said_of family rows)
    (said_by family row.addresses row.value))

module _ {A : Type 0} (number : A → ℕ) where
  -- a text that comes last changes none before it
  spelled_more : (texts more : List (List ℕ)) (bs : List (Binding A)) → AreKnown number texts bs
      → spelled number (texts ++ more) bs ≡ spelled number texts bs
  spelled_more texts more [] known = refl
  spelled_more texts more (b ∷ bs) known =
      let here = get_or_append_left texts more [] b.value known.0 in
      let later = spelled_more texts more bs known.1 in
      rw (here, later) refl

  known_more : (texts more : List (List ℕ)) (bs : List (Binding A)) → AreKnown number texts bs
      → AreKnown number (texts ++ more) bs
  known_more texts more [] known = tt
  known_more texts more (b ∷ bs) known =
      (let h = known.0 in omega (arith, length-append texts more), known_more texts more bs known.1)

  known_push : (texts : List (List ℕ)) (bs : List (Binding A)) (b : Binding A)
      → AreKnown number texts bs → b.value < length texts → AreKnown number texts (bs ++ b ∷ [])
  known_push texts [] b known below = (below, tt)
  known_push texts (c ∷ bs) b known below = (known.0, known_push texts bs b known.1 below)

  -- bindings stay as they are where texts are added
  pub kept : (texts later more : List (List ℕ)) (bs again : List (Binding A)) (said : List Said)
      → later ≡ texts ++ more → again ≡ bs → AreKnown number texts bs
      → spelled number texts bs ≡ said
      → (spelled number later again ≡ said) × AreKnown number later again
  kept texts later more bs again said grown same known is =
      rw (grown, same) (spelled_more texts more bs known ∙ is, known_more texts more bs known)

  -- one binding more, to a text that stands there
  pub pushed : (texts later more : List (List ℕ)) (bs again : List (Binding A)) (said : List Said)
      (b : Binding A) (value : List ℕ) → later ≡ texts ++ more → again ≡ bs ++ b ∷ []
      → IsAt later b.value value → AreKnown number texts bs → spelled number texts bs ≡ said
      → (spelled number later again
      ≡ said ++ record { first = number b.first; last = number b.last; value = value } ∷ [])
      × AreKnown number later again
  pushed texts later more bs again said b value grown same there known is =
      let before = kept texts later more bs bs said grown refl known is in
      rw same (
        map-append (spelled_one number later) bs (b ∷ [])
            ∙ ap (λ front. front ++ spelled_one number later b ∷ []) before.0
            ∙ ap (λ v. said ++ record { first = number b.first; last = number b.last; value = v } ∷ [])
            there.1,
        known_push later bs b before.1 there.0,
      )

-- nothing is held
pub hold_none : (held : Rows) → AreDifferent held.texts → held.v4.items ≡ [] → held.v6.items ≡ []
    → Hold held []
hold_none held different v4 v6 = record {
  different = different;
  v4 = ap (spelled ipv4_number held.texts) v4;
  v6 = ap (spelled ipv6_number held.texts) v6;
  known_v4 = subst (AreKnown ipv4_number held.texts) (sym v4) tt;
  known_v6 = subst (AreKnown ipv6_number held.texts) (sym v6) tt;
}

-- what is held, with a line more that says nothing
pub hold_nothing : (old new : Rows) (more : List (List ℕ)) (value : List ℕ) (rows : List Row)
    → AreDifferent new.texts → new.texts ≡ old.texts ++ more → new.v4.items ≡ old.v4.items
    → new.v6.items ≡ old.v6.items
    → Hold old rows → Hold new (rows ++ record { addresses = Nothing; value = value } ∷ [])
hold_nothing old new more value rows different grown v4 v6 held =
    let row : Row = record { addresses = Nothing; value = value } in
    let first = kept ipv4_number old.texts new.texts more old.v4.items new.v4.items
    (said_of V4 rows) grown v4 held.known_v4 held.v4 in
    let second = kept ipv6_number old.texts new.texts more old.v6.items new.v6.items
    (said_of V6 rows) grown v6 held.known_v6 held.v6 in
    record {
      different = different;
      v4 = first.0 ∙ sym (said_more V4 rows row ∙ append-nil (said_of V4 rows));
      v6 = second.0 ∙ sym (said_more V6 rows row ∙ append-nil (said_of V6 rows));
      known_v4 = first.1;
      known_v6 = second.1;
    }

-- with one of IPv4
pub hold_v4 : (old new : Rows) (more : List (List ℕ)) (first last number : ℕ) (value : List ℕ)
    (rows : List Row) → AreDifferent new.texts → new.texts ≡ old.texts ++ more
    → IsAt new.texts number value → new.v4.items ≡ old.v4.items
    ++ record { first = record { 0 = first }; last = record { 0 = last }; value = number } ∷ []
    → new.v6.items ≡ old.v6.items → Hold old rows
    → Hold new (rows ++ record { addresses = Addresses V4 first last; value = value } ∷ [])
hold_v4 old new more first last number value rows different grown there v4 v6 held =
    let row : Row = record { addresses = Addresses V4 first last; value = value } in
    let one = pushed ipv4_number old.texts new.texts more old.v4.items new.v4.items
    (said_of V4 rows)
    (record { first = record { 0 = first }; last = record { 0 = last }; value = number }) value
    grown v4 there held.known_v4 held.v4 in
    let other = kept ipv6_number old.texts new.texts more old.v6.items new.v6.items
    (said_of V6 rows) grown v6 held.known_v6 held.v6 in
    record {
      different = different;
      v4 = one.0 ∙ sym (said_more V4 rows row);
      v6 = other.0 ∙ sym (said_more V6 rows row ∙ append-nil (said_of V6 rows));
      known_v4 = one.1;
      known_v6 = other.1;
    }

-- with one of IPv6
pub hold_v6 : (old new : Rows) (more : List (List ℕ)) (first last number : ℕ) (value : List ℕ)
    (rows : List Row) → AreDifferent new.texts → new.texts ≡ old.texts ++ more
    → IsAt new.texts number value → new.v6.items ≡ old.v6.items
    ++ record { first = record { 0 = first }; last = record { 0 = last }; value = number } ∷ []
    → new.v4.items ≡ old.v4.items → Hold old rows
    → Hold new (rows ++ record { addresses = Addresses V6 first last; value = value } ∷ [])
hold_v6 old new more first last number value rows different grown there v6 v4 held =
    let row : Row = record { addresses = Addresses V6 first last; value = value } in
    let one = pushed ipv6_number old.texts new.texts more old.v6.items new.v6.items
    (said_of V6 rows)
    (record { first = record { 0 = first }; last = record { 0 = last }; value = number }) value
    grown v6 there held.known_v6 held.v6 in
    let other = kept ipv4_number old.texts new.texts more old.v4.items new.v4.items
    (said_of V4 rows) grown v4 held.known_v4 held.v4 in
    record {
      different = different;
      v4 = other.0 ∙ sym (said_more V4 rows row ∙ append-nil (said_of V4 rows));
      v6 = one.0 ∙ sym (said_more V6 rows row);
      known_v4 = other.1;
      known_v6 = one.1;
    }
