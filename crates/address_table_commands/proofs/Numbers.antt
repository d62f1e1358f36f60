-- The numbers of values, found one after the other.
use Rattle.std.proofs.Common.{◌≡◌, ℕ, ◌+◌, ◌<◌, ◌≤◌, List, [], ◌∷◌, ◌++◌, length, drop, get_or, map, ap, sym, subst, ◌∙◌, append_assoc, arith}
use Rattle.std.proofs.lemmas.List.{append-nil, drop_all, get_or_append_left, length-append}
use Rattle.std.specs.Borrow.{Bor}
use Rattle.line_program.proofs.Told.{item_first}
use Rattle.address_rows.specs.Rows.{IsAt}
use Rattle.address_rows.specs.Texts.{AreDifferent}
use Rattle.address_table_commands.specs.Results.{AreMoreTexts, AreNumbers}

-- a text stands where it stood, where others come
at_more : (texts more : List (List ℕ)) (number : ℕ) (text : List ℕ) → IsAt texts number text
    → IsAt (texts ++ more) number text
at_more texts more number text (within, is) = (
  omega (arith, within, length-append texts more),
  get_or_append_left texts more [] number within ∙ is,
)

-- the numbers of the values before those that are left are found
pub record AreNumberedTo (values left before now : List (List ℕ)) (numbers : List ℕ) : Type 0 where
  pub more : AreMoreTexts before now
  pub goes_on : (all next : List (List ℕ)) (rest : List ℕ) → all ≡ now ++ next
      → AreNumbers all left rest → AreNumbers all values (numbers ++ rest)

pub numbered_none : (values texts : List (List ℕ)) → AreNumberedTo values values texts texts []
numbered_none values texts = record {
  more = ([], sym (append-nil texts), λ different. different);
  goes_on = λ all next rest grown are. are;
}

pub numbered_more : (values left before now after : List (List ℕ)) (value : List ℕ)
    (numbers : List ℕ) (number : ℕ) → AreNumberedTo values (value ∷ left) before now numbers
    → IsAt after number value → (more : List (List ℕ)) × (after ≡ now ++ more)
    → AreDifferent after
    → AreNumberedTo values left before after (numbers ++ number ∷ [])
numbered_more values left before now after value numbers number to there (added, grown) different =
    let (earlier, was, kept) = to.more in record {
      more = (
        earlier ++ added,
        grown ∙ ap (λ texts. texts ++ added) was ∙ append_assoc before earlier added,
        λ before_different. different,
      );
      goes_on = λ all next rest larger are.
          subst (AreNumbers all values) (sym (append_assoc numbers (number ∷ []) rest))
          (to.goes_on all (added ++ next) (number ∷ rest)
          (larger ∙ ap (λ texts. texts ++ next) grown ∙ append_assoc now added next) (
            subst (λ texts. IsAt texts number value) (sym larger)
                (at_more after next number value there),
            are,
          ));
    }

pub numbered_all : (values before now : List (List ℕ)) (numbers : List ℕ)
    → AreNumberedTo values [] before now numbers → AreNumbers now values numbers
numbered_all values before now numbers to =
    subst (AreNumbers now values) (append-nil numbers)
    (to.goes_on now [] [] (sym (append-nil now)) tt)

-- the values that are left
pub value_first : (values : List (Bor (List ℕ))) (i : ℕ) (v : Bor (List ℕ)) → i < length values
    → map (λ (x : Bor (List ℕ)). x.now) (drop i values)
    ≡ (get_or values i v).now ∷ map (λ (x : Bor (List ℕ)). x.now) (drop (i + 1) values)
value_first values i v within =
    ap (λ l. map (λ (x : Bor (List ℕ)). x.now) l) (item_first values i v within)

pub no_value : (values : List (Bor (List ℕ))) (i : ℕ) → length values ≤ i
    → map (λ (x : Bor (List ℕ)). x.now) (drop i values) ≡ []
no_value values i past = ap (λ l. map (λ (x : Bor (List ℕ)). x.now) l) (drop_all i values past)
