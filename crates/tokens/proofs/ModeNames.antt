-- The modes of lines, one line after the other.
use Rattle.std.proofs.Common.{◌≡◌, ◌≢◌, refl, sym, ap, ◌∙◌, inl, inr, ℕ, ◌+◌, ◌<◌, List, [], ◌∷◌, ◌++◌, length, get_or, Some, Bor, arith}
use Rattle.std.specs.List.{slice_get, Contains}
use Rattle.std.specs.Str.{trim}
use Rattle.std.proofs.lemmas.List.{length-map, map-append}
use Rattle.std.proofs.lemmas.Option.{slice_get-get_or, slice_get_read, slice_get_within}
use borrow.Author.Tests.{ne_eqb}
use Rattle.lexing_modes.proofs.StateSteps.{slice_get-push}
use Rattle.tokens.specs.Heads.{AddsOnly, AreHeadsOf, HasNumbers, HasRuleIn, KeepsNames, behind_modes, first_mode, mode_names, named_modes, texts_of}
use Rattle.tokens.proofs.Lists.{contains_at, map_at, zip_as, zip_beside, zip_more}

-- a line that begins with no `<`
pub no_modes : (line : List ℕ) → ((rest : List ℕ) → line ≢ 60 ∷ rest)
    → (named_modes line ≡ first_mode) × (behind_modes line ≡ Some line)
no_modes [] none = (refl, refl)
no_modes (first ∷ rest) none =
    rw (ne_eqb first 60 (λ is. none rest (ap (λ c. c ∷ rest) is))) (refl, refl)

-- a name more
module _ (before after : List (Bor (List ℕ))) (name : Bor (List ℕ))
    (pushed : after ≡ before ++ name ∷ []) where
  texts_more : texts_of after ≡ texts_of before ++ name.now ∷ []
  texts_more = ap texts_of pushed ∙ map-append (λ text. text.now) before (name ∷ [])

  pub name_kept : KeepsNames (texts_of before) (texts_of after)
  name_kept i other at =
      rw texts_more ((slice_get-push (texts_of before) name.now i other).1 (inl at))

  pub name_added : AddsOnly (λ other. other ≡ name.now) (texts_of before) (texts_of after)
  name_added i other at =
      elim ((slice_get-push (texts_of before) name.now i other).0 (rw texts_more at at)) [
        | inl old ↦ inl old
        | inr (last, is) ↦ inr (sym is)
      ]

  pub name_last : slice_get (texts_of after) (length before) ≡ Some name.now
  name_last =
      rw texts_more
      ((slice_get-push (texts_of before) name.now (length before) name.now).1
      (inr (sym (length-map before (λ text. text.now)), refl)))

-- a name of the list that is new or was there
module _ (called names : List (List ℕ)) (at : ℕ) (name : List ℕ) (same : called ≡ names)
    (there : slice_get called at ≡ Some name) (before now after : List (List ℕ)) where
  pub added_more : AddsOnly (Contains names) before now → AddsOnly (λ other. other ≡ name) now after
      → AddsOnly (Contains names) before after
  added_more was new i other stands = elim (new i other stands) [
    | inl old ↦ was i other old
    | inr is ↦ inr (rw (is, ← same) (contains_at called at name there))
  ]

-- the line of a text at a place, without the spaces around it
pub line_at : (lines : List (Bor (List ℕ))) (at : ℕ) (other : Bor (List ℕ)) (trimmed : List ℕ)
    → at < length lines → trimmed ≡ trim (get_or lines at other).now
    → (line : List ℕ) × (slice_get (texts_of lines) at ≡ Some line) × (trimmed ≡ trim line)
line_at lines at other trimmed within is = (
  (get_or lines at other).now,
  map_at (λ text. text.now) lines at (get_or lines at other) (slice_get-get_or lines at other within),
  is,
)

-- the name is not the one at this place
pub not_here : (names : List (Bor (List ℕ))) (at : ℕ) (other : Bor (List ℕ)) (name : List ℕ)
    → slice_get names at ≡ Some other → other.now ≢ name
    → slice_get (texts_of names) at ≢ Some name
not_here names at other name there apart is =
    let stands = map_at (λ text. text.now) names at other there in
    apart cc

-- the modes of the first lines
module _ (all names : List (List ℕ)) where
  pub record HasHeads (front : List (List ℕ)) (modes : List (List ℕ)) : Type 0 where
    pub first : slice_get names 0 ≡ Some first_mode
    pub others : (i : ℕ) (name : List ℕ) → slice_get names (i + 1) ≡ Some name → HasRuleIn all name
    pub heads : AreHeadsOf front names modes

  -- each mode in which the rule of a line holds has a name
  pub each_named : (modes : List (List ℕ)) → AreHeadsOf all names modes → (name : List ℕ)
      → HasRuleIn all name → Contains names name
  each_named modes heads name (line, (at, inside, stands), (k, within, there)) =
      let line_at : slice_get all at ≡ Some line = slice_get_read all (length all) at line refl inside (sym stands) in
      let (numbers, beside, has) = zip_beside _ all modes at line heads line_at in
      let name_at : slice_get (mode_names (trim line)) k ≡ Some name =
      slice_get_read (mode_names (trim line)) (length (mode_names (trim line))) k name refl within (sym there)
      in
      let (number, one, is) = zip_beside _ (mode_names (trim line)) numbers k name has name_at in
      contains_at names number name is

-- the modes before the first line
pub first_named : (all : List (List ℕ)) (names : List (List ℕ)) → names ≡ first_mode ∷ []
    → HasHeads all names [] []
first_named all names is = record {
  first = rw is refl;
  others = λ i name at.
      let within = slice_get_within (first_mode ∷ []) (i + 1) name (rw is at at) in
      absurd (omega (arith, within));
  heads = tt;
}

numbers_kept : (before after : List (List ℕ)) (line : List ℕ) (numbers : List ℕ)
    → KeepsNames before after → HasNumbers before line numbers → HasNumbers after line numbers
numbers_kept before after line numbers kept has =
    zip_as _ _ (mode_names line) numbers (λ name number at. kept number name at) has

-- the modes of a line more
pub heads_more : (all before after front modes : List (List ℕ)) (line : List ℕ) (numbers : List ℕ)
    → HasHeads all before front modes → KeepsNames before after
    → AddsOnly (Contains (mode_names (trim line))) before after → Contains all line
    → HasNumbers after (trim line) numbers
    → HasHeads all after (front ++ line ∷ []) (modes ++ numbers ∷ [])
heads_more all before after front modes line numbers was kept added here has = record {
  first = kept 0 first_mode was.first;
  others = λ i name at. elim (added (i + 1) name at) [
    | inl old ↦ was.others i name old
    | inr new ↦ (line, here, new)
  ];
  heads = zip_more _ front modes line numbers
      (zip_as _ _ front modes
      (λ other found is. numbers_kept before after (trim other) found kept is) was.heads) has;
}
