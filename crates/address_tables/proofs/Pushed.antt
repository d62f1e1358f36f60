-- Lists made range by range: of prefixes with values, and of spans.
use Rattle.std.proofs.Common.{◌≡◌, ℕ, ◌+◌, ◌-◌, ◌^◌, ◌≤◌, ◌<◌, Bool, List, [], ◌∷◌, ◌++◌, append_assoc, map, refl, ap, sym, subst, ◌∙◌, arith}
use Rattle.std.proofs.lemmas.List.{append-nil, map-append}
use Rattle.std.specs.Borrow.{Bor}
use Rattle.std.specs.List.{AllByRecursion}
use Rattle.btree_range_map.specs.AnyRange.{AnyRange}
use Rattle.btree_range_map.specs.Item.{Item}
use Rattle.address_prefixes.specs.Runs.{IsSpan}
use Rattle.address_prefixes.specs.Spans.{HasSpan, span}
use Rattle.address_prefixes.specs.Tiles.{all_tiles}
use Rattle.address_prefixes.specs.declared.prefix.Prefix.{Prefix}
use Rattle.shortest_tables.specs.declared.spans.Span.{Span}
use Rattle.address_tables.specs.Numbers.{numbered}
use Rattle.address_tables.specs.Tables.{shown}
use Rattle.address_tables.specs.Tiled.{range_tiles, tiled, valued}
use Rattle.address_tables.specs.declared.entries.Entry.{Entry}

-- one prefix more with the value, of those that are left
pub one_more : {A V : Type 0} (v : Bor V) (p : Prefix A) (entries more : List (Entry A (Bor V)))
    (left rest all : List (Prefix A)) → left ≡ p ∷ rest
    → more ≡ entries ++ record { prefix = p; value = v } ∷ []
    → (before : List (Entry A V)) → map shown entries ++ valued v.now left ≡ before ++ valued v.now all
    → map shown more ++ valued v.now rest ≡ before ++ valued v.now all
one_more v p entries more left rest all first pushed before is =
    ap (λ es. map shown es ++ valued v.now rest) pushed
    ∙ ap (λ es. es ++ valued v.now rest)
    (map-append shown entries (record { prefix = p; value = v } ∷ []))
    ∙ append_assoc (map shown entries) (record { prefix = p; value = v.now } ∷ []) (valued v.now rest)
    ∙ ap (λ ps. map shown entries ++ valued v.now ps) (sym first) ∙ is

module _ {A : Type 0} (number : A → ℕ) (at : ℕ → A) (width : ℕ) where
  -- the numbers of the addresses of a range
  pub is_span : (r : AnyRange A) → HasSpan number width r → IsSpan width (span number width r)
  is_span r has =
      let some = has.0 in
      let top = has.1 in
      (omega arith, omega arith)

  module _ {V : Type 0} where
    abbrev pub HaveSpans : List (Item (AnyRange A) V) → Type 0
    HaveSpans items = AllByRecursion (λ i. HasSpan number width i.key) items

    -- the prefixes of one range more
    pub one_tiled : (v : V) (r : AnyRange A) (entries more : List (Entry A (Bor V)))
        (left items : List (Item (AnyRange A) V)) (all : List (Entry A V))
        → left ≡ record { key = r; value = v } ∷ items
        → map shown more ≡ map shown entries ++ valued v (range_tiles number at width r)
        → map shown entries ++ tiled number at width left ≡ all
        → map shown more ++ tiled number at width items ≡ all
    one_tiled v r entries more left items all first pushed is =
        ap (λ es. es ++ tiled number at width items) pushed
        ∙ append_assoc (map shown entries) (valued v (range_tiles number at width r))
        (tiled number at width items)
        ∙ ap (λ l. map shown entries ++ tiled number at width l) (sym first)
        ∙ is

    module _ (same_value : V → V → Bool) (values : List V) where
      abbrev pub Spans : List (Item (AnyRange A) V) → List (Span ℕ)
      Spans items = map (numbered same_value number width values) items

      -- the span of one range more
      pub one_spanned : (i : Item (AnyRange A) V) (s : Span ℕ) (spans more : List (Span ℕ))
          (left items : List (Item (AnyRange A) V)) (all : List (Span ℕ)) → left ≡ i ∷ items
          → more ≡ spans ++ s ∷ [] → s ≡ numbered same_value number width values i
          → spans ++ Spans left ≡ all → more ++ Spans items ≡ all
      one_spanned i s spans more left items all first pushed same is =
          ap (λ l. l ++ Spans items) pushed
          ∙ append_assoc spans (s ∷ []) (Spans items)
          ∙ ap (λ x. spans ++ x ∷ Spans items) same
          ∙ ap (λ l. spans ++ Spans l) (sym first)
          ∙ is

-- where nothing is left, that is all
pub all_made : {X Y : Type 0} (f : List X → List Y) (made : List Y) (left : List X) (all : List Y)
    → left ≡ [] → f [] ≡ [] → made ++ f left ≡ all → made ≡ all
all_made f made left all none empty is =
    sym (append-nil made) ∙ ap (λ l. made ++ l) (sym empty) ∙ ap (λ l. made ++ f l) (sym none) ∙ is
