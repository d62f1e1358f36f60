-- The entries that are left of a list, with their values.
use Rattle.std.proofs.Common.{◌≡◌, ◌≢◌, ℕ, ◌+◌, ◌<◌, ◌≤◌, List, [], ◌∷◌, length, drop, get_or, map, refl, ap, sym, ◌∙◌, arith}
use Rattle.std.proofs.lemmas.List.{drop_all}
use Rattle.std.specs.Borrow.{Bor}
use Rattle.line_program.proofs.Told.{item_first}
use Rattle.address_tables.specs.Tables.{shown}
use Rattle.address_tables.specs.declared.entries.Entry.{Entry}

module _ {A V : Type 0} where
  pub entry_first : (es : List (Entry A (Bor V))) (i : ℕ) (e : Entry A (Bor V)) → i < length es
      → e ≡ get_or es i e → map shown (drop i es) ≡ shown e ∷ map shown (drop (i + 1) es)
  entry_first es i e within is =
      ap (λ l. map shown l) (item_first es i e within)
      ∙ ap (λ x. shown x ∷ map shown (drop (i + 1) es)) (sym is)

  pub drop_all_shown : (es : List (Entry A (Bor V))) (i : ℕ) → length es ≤ i
      → map shown (drop i es) ≡ []
  drop_all_shown es i past = ap (λ l. map shown l) (drop_all i es past)

  pub none_shown : (es : List (Entry A (Bor V))) → length es ≡ 0 → map shown es ≡ []
  none_shown [] none = refl
  none_shown (e ∷ es) none = absurd (omega (arith, none))

  pub some_shown : (es : List (Entry A (Bor V))) → length es ≢ 0 → map shown es ≢ []
  some_shown [] some is = absurd (some refl)
  some_shown (e ∷ es) some is = cc
