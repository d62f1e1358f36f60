-- Modes with one more, and with one of which a rule does something else.
use Rattle.std.proofs.Common.{◌≡◌, ◌↔◌, ◌⊎◌, inl, inr, refl, sym, ap, ◌∙◌, ℕ, zero, suc, ◌<◌, List, [], ◌∷◌, ◌++◌, length, get_or, slice_set, length-set, Some, arith}
use Rattle.std.specs.Prelude.{Bool, true, false, cond, Option, Result, Ok, Err, IsTrue, OnOk, OnErr, unwrap_or}
use Rattle.std.specs.BTreeMap.{BTreeMap, IsUnchanged, Updates, get, is_at}
use Rattle.std.specs.List.{slice_get}
use Rattle.std.specs.Ordering.{nat_cmp}
use Rattle.std.proofs.lemmas.Bool.{cases_eq}
use Rattle.std.proofs.lemmas.Bool.Decides.{nat_tests}
use Rattle.std.proofs.lemmas.Option.{slice_get_read}
use Rattle.lexing.specs.declared.lexer.Lexer.{Lexer}
use Rattle.lexing.specs.Lexers.{IsSkipped}
use Rattle.lexing_modes.specs.declared.change.ModeChange.{ModeChange}
use Rattle.lexing_modes.specs.declared.change.ModeChange.TheVariants.{Stay}
use Rattle.lexing_modes.specs.declared.modes.Mode.{Mode}
use Rattle.lexing_modes.specs.declared.modes.Modes.{Modes}
use Rattle.lexing_modes.specs.declared.token.ModeToken.{ModeToken}
use Rattle.lexing_modes.specs.Changes.{Names, change_in, change_of}
use Rattle.lexing_modes.specs.Given.{IsLeftOut}
use Rattle.lexing_modes.specs.Modes.{IsScannerOf}
use Rattle.lexing_modes.proofs.StateSteps.{slice_get-push}

get_set_same : {X : Type 0} (xs : List X) (i : ℕ) (y z : X) → slice_get xs i ≡ Some z
    → slice_get (slice_set xs i y) i ≡ Some y
get_set_same [] i y z at = let no : ⊥ = cc in absurd no
get_set_same (x ∷ xs) zero y z at = refl
get_set_same (x ∷ xs) (suc i) y z at = get_set_same xs i y z at

get_set_other : {X : Type 0} (xs : List X) (i j : ℕ) (y : X) → ¬ (j ≡ i)
    → slice_get (slice_set xs i y) j ≡ slice_get xs j
get_set_other [] i j y apart = refl
get_set_other (x ∷ xs) zero zero y apart = absurd (apart refl)
get_set_other (x ∷ xs) zero (suc j) y apart = refl
get_set_other (x ∷ xs) (suc i) zero y apart = refl
get_set_other (x ∷ xs) (suc i) (suc j) y apart =
    get_set_other xs i j y (λ same. apart (ap suc same))

either_of : (b : Bool) (x y z : Option ModeChange) → z ≡ cond b x y → (z ≡ y) ⊎ (z ≡ x)
either_of true x y z is = inr is
either_of false x y z is = inl is

test_apart : (k q : ℕ) → ¬ (q ≡ k) → is_at (nat_cmp k) q ≡ false
test_apart k q apart = grind (arith, nat_tests)

-- after an insertion each key has what it had, or the value; also where that failed
pub insert_either : {V W : Type 0} (outcome : Result V W) (before after : BTreeMap ℕ ModeChange)
    (rule : ℕ) (change : ModeChange) → OnOk outcome (Updates nat_cmp before after rule (Some change))
    → OnErr outcome (IsUnchanged before after) → (q : ℕ)
    → (get nat_cmp after q ≡ get nat_cmp before q) ⊎ (get nat_cmp after q ≡ Some change)
insert_either (Ok v) before after rule change updates same q =
    either_of (is_at (nat_cmp rule) q) (Some change) (get nat_cmp before q) (get nat_cmp after q)
    (updates.0 q)
insert_either (Err w) before after rule change updates same q = inl (rw same refl)

pub on_any_err : {V W : Type 0} (outcome : Result V W) (P : Type 0) → P → OnErr outcome P
on_any_err (Ok v) P p = tt
on_any_err (Err w) P p = p

module _ {S : Type 0} where
  -- the scanner of the mode, in a list of modes
  abbrev pub HasScanner : List (Mode S) → ℕ → S → Type 0
  HasScanner modes mode scanner =
      (entry : Mode S) × (slice_get modes mode ≡ Some entry) × (entry.scanner ≡ scanner)

  pub scanner_at : (modes : List (Mode S)) (mode : ℕ) (entry : Mode S) → mode < length modes
      → entry ≡ get_or modes mode entry → HasScanner modes mode entry.scanner
  scanner_at modes mode entry within is =
      (entry, slice_get_read modes (length modes) mode entry refl within is, refl)

  pub same_scanner : (modes : List (Mode S)) (mode : ℕ) (one other : S)
      → HasScanner modes mode one → HasScanner modes mode other → other ≡ one
  same_scanner modes mode one other (entry, at, is) (entry2, at2, is2) =
      let same : entry2 ≡ entry = cc in
      sym is2 ∙ (ap (λ (m : Mode S). m.scanner) same ∙ is)

  -- whether a token is skipped is asked of the scanner of its mode
  pub left_out_of : (lexer : S → Lexer) (modes : Modes S) (found : ModeToken) (scanner : S)
      (skipped : Bool) → IsScannerOf modes found.mode scanner
      → (IsTrue skipped ↔ IsSkipped (lexer scanner) found.token.rule)
      → IsTrue skipped ↔ IsLeftOut lexer modes found
  left_out_of lexer modes found scanner skipped of told = (
    λ yes. (scanner, of, told.0 yes),
    λ (other, is, left).
        told.1 (rw (same_scanner modes.modes.items found.mode scanner other of is) at left),
  )

  pub last_scanner : (modes after : List (Mode S)) (entry : Mode S) (n : ℕ)
      → after ≡ modes ++ entry ∷ [] → n ≡ length modes → HasScanner after n entry.scanner
  last_scanner modes after entry n more is =
      (entry, rw more ((slice_get-push modes entry n entry).1 (inr (is, refl))), refl)

  pub scanners_pushed : (modes after : List (Mode S)) (entry : Mode S)
      → after ≡ modes ++ entry ∷ [] → (mode : ℕ) (scanner : S) → HasScanner modes mode scanner
      → HasScanner after mode scanner
  scanners_pushed modes after entry more mode scanner (x, at, is) =
      (x, rw more ((slice_get-push modes entry mode x).1 (inl at)), is)

  changes_more : (modes : List (Mode S)) (entry : Mode S) → entry.changes.entries ≡ []
      → (m r : ℕ) → change_in (modes ++ entry ∷ []) m r ≡ change_in modes m r
  changes_more [] entry none zero r = rw none refl
  changes_more [] entry none (suc m) r = refl
  changes_more (x ∷ xs) entry none zero r = refl
  changes_more (x ∷ xs) entry none (suc m) r = changes_more xs entry none m r

  pub changes_pushed : (modes after : List (Mode S)) (entry : Mode S)
      → after ≡ modes ++ entry ∷ [] → entry.changes.entries ≡ []
      → (m r : ℕ) → change_in after m r ≡ change_in modes m r
  changes_pushed modes after entry more none m r = rw more (changes_more modes entry none m r)

  -- the mode's entry is another
  module _ (modes : List (Mode S)) (at : ℕ) (entry after : Mode S)
      (stands : slice_get modes at ≡ Some entry) where
    abbrev now : List (Mode S)
    now = slice_set modes at after

    does_now : (r : ℕ) → change_in now at r ≡ unwrap_or (get nat_cmp after.changes r) Stay
    does_now r = ap (λ o. change_of o r) (get_set_same modes at after entry stands)

    did : (r : ℕ) → change_in modes at r ≡ unwrap_or (get nat_cmp entry.changes r) Stay
    did r = ap (λ o. change_of o r) stands

    does_else : (m r : ℕ) → ¬ (m ≡ at) → change_in now m r ≡ change_in modes m r
    does_else m r apart = ap (λ o. change_of o r) (get_set_other modes at m after apart)

    -- where the entry's rule has what it had, the rule does what it did
    does_same : (m r : ℕ) → (m ≡ at → get nat_cmp after.changes r ≡ get nat_cmp entry.changes r)
        → change_in now m r ≡ change_in modes m r
    does_same m r same = elim (cases_eq m at) [
      | inl here ↦
          rw here
          (does_now r ∙ (ap (λ (o : Option ModeChange). unwrap_or o Stay) (same here) ∙ sym (did r)))
      | inr apart ↦ does_else m r apart
    ]

    pub all_same : after.changes.entries ≡ entry.changes.entries
        → (m r : ℕ) → change_in now m r ≡ change_in modes m r
    all_same same m r = does_same m r (λ here. rw same refl)

    pub set_here : (rule : ℕ) (change : ModeChange)
        → Updates nat_cmp entry.changes after.changes rule (Some change)
        → change_in now at rule ≡ change
    set_here rule change updates =
        does_now rule ∙ ap (λ (o : Option ModeChange). unwrap_or o Stay) updates.1

    pub kept_else : (rule : ℕ) (change : ModeChange)
        → Updates nat_cmp entry.changes after.changes rule (Some change)
        → (m r : ℕ) → ¬ ((m ≡ at) × (r ≡ rule)) → change_in now m r ≡ change_in modes m r
    kept_else rule change updates m r apart =
        does_same m r
        (λ here. updates.2 r (test_apart rule r (λ same. apart (here, same))))

    -- the modes that changes lead to are still known
    pub still_known : (change : ModeChange)
        → ((r : ℕ) → (get nat_cmp after.changes r ≡ get nat_cmp entry.changes r)
        ⊎ (get nat_cmp after.changes r ≡ Some change))
        → ((m r next : ℕ) → Names (change_in modes m r) next → next < length modes)
        → ((next : ℕ) → Names change next → next < length modes)
        → (m r next : ℕ) → Names (change_in now m r) next → next < length now
    still_known change either known target m r next names =
        rw length-set
        (elim (cases_eq m at) [
          | inl here ↦
              elim (either r) [
                | inl same ↦ known m r next (rw (does_same m r (λ _. same)) at names)
                | inr is ↦
                    target next
                    (rw (does_now r ∙ ap (λ (o : Option ModeChange). unwrap_or o Stay) is) at
                    (rw here at names))
              ]
          | inr apart ↦ known m r next (rw (does_else m r apart) at names)
        ])

    pub scanners_kept : after.scanner ≡ entry.scanner → (m : ℕ) (scanner : S)
        → HasScanner modes m scanner → HasScanner now m scanner
    scanners_kept same m scanner (x, is, has) = elim (cases_eq m at) [
      | inl here ↦
          let there : slice_get modes at ≡ Some x = rw here at is in
          let one : entry ≡ x = cc in (
            after,
            rw here (get_set_same modes at after entry stands),
            same ∙ (ap (λ (m : Mode S). m.scanner) one ∙ has),
          )
      | inr apart ↦ (x, get_set_other modes at m after apart ∙ is, has)
    ]
