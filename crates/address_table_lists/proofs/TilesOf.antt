-- The prefixes of bindings, one after the other.
use Rattle.std.proofs.Common.{◌≡◌, ℕ, ◌+◌, ◌-◌, ◌<◌, List, [], ◌∷◌, ◌++◌, append_assoc, refl, ap, sym, subst, ◌∙◌, arith}
use Rattle.std.proofs.lemmas.List.{append-nil}
use Rattle.address_prefixes.specs.Tiles.{all_tiles, tiles}
use Rattle.address_prefixes.specs.declared.prefix.Prefix.{Prefix}
use Rattle.address_tables.specs.Tiled.{valued}
use Rattle.address_tables.specs.declared.entries.Entry.{Entry}
use Rattle.address_table_lists.specs.Tables.{tiles_of}
use Rattle.address_table_lists.specs.declared.rows.Binding.{Binding}

-- one prefix more with the value, of those that are left
pub one_more : {A : Type 0} (v : ℕ) (p : Prefix A) (entries more : List (Entry A ℕ))
    (left rest all : List (Prefix A)) → left ≡ p ∷ rest
    → more ≡ entries ++ record { prefix = p; value = v } ∷ []
    → (before : List (Entry A ℕ)) → entries ++ valued v left ≡ before ++ valued v all
    → more ++ valued v rest ≡ before ++ valued v all
one_more v p entries more left rest all first pushed before is =
    ap (λ es. es ++ valued v rest) pushed
    ∙ append_assoc entries (record { prefix = p; value = v } ∷ []) (valued v rest)
    ∙ ap (λ ps. entries ++ valued v ps) (sym first) ∙ is

module _ {A : Type 0} (number : A → ℕ) (at : ℕ → A) (width : ℕ) where
  no_tiles : (from past : ℕ) → past - from ≡ 0 → all_tiles at width from past ≡ []
  unfolding tiles
  no_tiles from past none = subst (λ n. tiles at width n from past ≡ []) (sym none) refl

  -- those of one binding
  pub one_binding : (b : Binding A) (entries more : List (Entry A ℕ))
      → more ≡ entries ++ valued b.value (all_tiles at width (number b.first) (number b.last + 1))
      → more ≡ entries ++ tiles_of number at width (b ∷ [])
  one_binding b entries more is =
      is ∙ ap (λ es. entries ++ es)
      (sym (append-nil (valued b.value (all_tiles at width (number b.first) (number b.last + 1)))))

  -- a binding whose last address is before the first has none
  pub no_binding : (b : Binding A) (entries : List (Entry A ℕ)) → number b.last < number b.first
      → entries ≡ entries ++ tiles_of number at width (b ∷ [])
  no_binding b entries below =
      let none : number b.last + 1 - number b.first ≡ 0 = omega arith in
      sym (append-nil entries) ∙ ap (λ ps. entries ++ (valued b.value ps ++ []))
      (sym (no_tiles (number b.first) (number b.last + 1) none))

  pub tiles_more : (bs : List (Binding A)) (b : Binding A)
      → tiles_of number at width (bs ++ b ∷ [])
      ≡ tiles_of number at width bs ++ tiles_of number at width (b ∷ [])
  tiles_more [] b = refl
  tiles_more (c ∷ bs) b =
      ap (λ es. valued c.value (all_tiles at width (number c.first) (number c.last + 1)) ++ es)
      (tiles_more bs b)
      ∙ sym (append_assoc (valued c.value (all_tiles at width (number c.first) (number c.last + 1)))
      (tiles_of number at width bs) (tiles_of number at width (b ∷ [])))
