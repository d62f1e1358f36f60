-- The longest prefix, looked for one length after the other.
use Rattle.std.proofs.Common.{◌≡◌, ℕ, zero, ◌+◌, ◌≤◌, ◌<◌, Bool, true, false, ◌&&◌, ◌==◌, if◌then◌else◌, nat_lt, List, [], ◌∷◌, ◌++◌, Option, Some, None, IfSome, inl, inr, refl, ap, sym, ◌∙◌, arith}
use Rattle.std.specs.List.{AllByRecursion}
use Rattle.std.specs.Option.{option_map}
use Rattle.std.proofs.lemmas.Bool.{cases_lt}
use Rattle.std.proofs.lemmas.Bool.Decides.{nat_tests}
use Rattle.address_tables.specs.Lengths.{last_of, over, own}
use Rattle.address_tables.specs.Tables.{holds, longer, longest, route}
use Rattle.address_tables.specs.declared.entries.Entry.{Entry}

module _ {V : Type 0} where
  over_none : (x : Option V) → over None x ≡ x
  over_none None = refl
  over_none (Some v) = refl

  pub over_assoc : (x y z : Option V) → over (over x y) z ≡ over x (over y z)
  over_assoc x y None = refl
  over_assoc x y (Some v) = refl

module _ {A V : Type 0} (number : A → ℕ) where
  -- of the prefixes shorter than that
  abbrev pub longest_below : ℕ → List (Entry A V) → A → Option (Entry A V)
  longest_below length [] a = None
  longest_below length (e ∷ t) a =
      if nat_lt e.prefix.length length && holds number e.prefix a
      then longer number e (longest_below length t a) else longest_below length t a

  abbrev pub value_below : ℕ → List (Entry A V) → A → Option V
  value_below length t a = option_map (λ e. e.value) (longest_below length t a)

  pub below_none : (t : List (Entry A V)) (a : A) → value_below 0 t a ≡ None
  below_none [] a = refl
  below_none (e ∷ t) a =
      let not : nat_lt e.prefix.length 0 ≡ false = grind (arith, nat_tests) in
      rw not (below_none t a)

  pub below_all : (length : ℕ) (t : List (Entry A V))
      → AllByRecursion (λ e. e.prefix.length < length) t → (a : A)
      → longest_below length t a ≡ longest number t a
  below_all length [] all a = refl
  below_all length (e ∷ t) all a =
      let h = all.0 in
      let less : nat_lt e.prefix.length length ≡ true = grind (arith, nat_tests) in
      rw (less, below_all length t all.1 a) refl

  pub of_append : (length : ℕ) (s t : List (Entry A V)) (a : A)
      → last_of number length (s ++ t) a
      ≡ over (last_of number length s a) (last_of number length t a)
  of_append length [] t a = sym (over_none (last_of number length t a))
  of_append length (e ∷ s) t a =
      ap (λ x. over (own number length e a) x) (of_append length s t a)
      ∙ sym (over_assoc (own number length e a) (last_of number length s a)
      (last_of number length t a))

  module _ (length : ℕ) where
    -- the last entry of that length
    abbrev last_entry : List (Entry A V) → A → Option (Entry A V)
    last_entry [] a = None
    last_entry (e ∷ t) a = over (if (e.prefix.length == length) && holds number e.prefix a
        then Some e else None) (last_entry t a)

    -- one length more
    record IsStep (t : List (Entry A V)) (a : A) : Type 0 where
      step : longest_below (length + 1) t a ≡ over (longest_below length t a) (last_entry t a)
      lower : IfSome (longest_below length t a) (λ e. e.prefix.length < length)
      equal : IfSome (last_entry t a) (λ e. e.prefix.length ≡ length)

    abbrev IsLower : Option (Entry A V) → Type 0
    IsLower found = IfSome found (λ d. d.prefix.length < length)

    abbrev IsEqual : Option (Entry A V) → Type 0
    IsEqual found = IfSome found (λ d. d.prefix.length ≡ length)

    one_of : (e d : Entry A V) → e.prefix.length < length → d.prefix.length < length → (h : Bool)
        → IsLower (if h then Some e else Some d)
    one_of e d is are true = is
    one_of e d is are false = are

    lower_is : (e : Entry A V) → e.prefix.length < length → (h : Bool) (low : Option (Entry A V))
        → IsLower low → IsLower (if h then longer number e low else low)
    lower_is e is true None lower = is
    lower_is e is true (Some d) lower =
        one_of e d is lower (nat_lt d.prefix.length e.prefix.length)
    lower_is e is false low lower = lower

    equal_none : (last : Option (Entry A V)) → IsEqual last → IsEqual (over None last)
    equal_none None equal = tt
    equal_none (Some d) equal = equal

    equal_is : (e : Entry A V) → e.prefix.length ≡ length → (h : Bool)
        → (last : Option (Entry A V)) → IsEqual last
        → IsEqual (over (if h then Some e else None) last)
    equal_is e is true None equal = is
    equal_is e is false None equal = tt
    equal_is e is h (Some d) equal = equal

    not_longer : (e d : Entry A V) → e.prefix.length ≤ d.prefix.length
        → longer number e (Some d) ≡ Some d
    not_longer e d h =
        let not : nat_lt d.prefix.length e.prefix.length ≡ false = grind (arith, nat_tests) in
        rw not refl

    is_longer : (e d : Entry A V) → d.prefix.length < e.prefix.length
        → longer number e (Some d) ≡ Some e
    is_longer e d h =
        let more : nat_lt d.prefix.length e.prefix.length ≡ true = grind (arith, nat_tests) in
        rw more refl

    below_step : (e : Entry A V) → e.prefix.length < length → (h : Bool)
        → (low last : Option (Entry A V)) → IsEqual last
        → (if h then longer number e (over low last) else over low last)
        ≡ over (if h then longer number e low else low) (over None last)
    below_step e is h low None equal = refl
    below_step e is true low (Some d) equal = not_longer e d (omega arith)
    below_step e is false low (Some d) equal = refl

    equal_step : (e : Entry A V) → e.prefix.length ≡ length → (h : Bool)
        → (low last : Option (Entry A V)) → IsLower low → IsEqual last
        → (if h then longer number e (over low last) else over low last)
        ≡ over low (over (if h then Some e else None) last)
    equal_step e is true None None lower equal = refl
    equal_step e is true (Some c) None lower equal = is_longer e c (omega arith)
    equal_step e is false low None lower equal = refl
    equal_step e is true low (Some d) lower equal = not_longer e d (omega arith)
    equal_step e is false low (Some d) lower equal = refl

    step_below : (e : Entry A V) (t : List (Entry A V)) (a : A) → e.prefix.length < length
        → IsStep t a → IsStep (e ∷ t) a
    step_below e t a is again =
        let p : nat_lt e.prefix.length (length + 1) ≡ true = grind (arith, nat_tests) in
        let q : nat_lt e.prefix.length length ≡ true = grind (arith, nat_tests) in
        let r : (e.prefix.length == length) ≡ false = grind (arith, nat_tests) in
        let low : Option (Entry A V) = longest_below length t a in
        let last : Option (Entry A V) = last_entry t a in
        record {
          step = rw (p, q, r, again.step) (below_step e is (holds number e.prefix a) low last again.equal);
          lower = rw q (lower_is e is (holds number e.prefix a) low again.lower);
          equal = rw r (equal_none last again.equal);
        }

    step_equal : (e : Entry A V) (t : List (Entry A V)) (a : A) → e.prefix.length ≡ length
        → IsStep t a → IsStep (e ∷ t) a
    step_equal e t a is again =
        let p : nat_lt e.prefix.length (length + 1) ≡ true = grind (arith, nat_tests) in
        let q : nat_lt e.prefix.length length ≡ false = grind (arith, nat_tests) in
        let r : (e.prefix.length == length) ≡ true = grind (arith, nat_tests) in
        let low : Option (Entry A V) = longest_below length t a in
        let last : Option (Entry A V) = last_entry t a in
        record {
          step = rw (p, q, r, again.step)
              (equal_step e is (holds number e.prefix a) low last again.lower again.equal);
          lower = rw q again.lower;
          equal = rw r (equal_is e is (holds number e.prefix a) last again.equal);
        }

    step_above : (e : Entry A V) (t : List (Entry A V)) (a : A) → length < e.prefix.length
        → IsStep t a → IsStep (e ∷ t) a
    step_above e t a is again =
        let p : nat_lt e.prefix.length (length + 1) ≡ false = grind (arith, nat_tests) in
        let q : nat_lt e.prefix.length length ≡ false = grind (arith, nat_tests) in
        let r : (e.prefix.length == length) ≡ false = grind (arith, nat_tests) in
        let low : Option (Entry A V) = longest_below length t a in
        let last : Option (Entry A V) = last_entry t a in
        record {
          step = rw (p, q, r, again.step, over_none last) refl;
          lower = rw q again.lower;
          equal = rw r (equal_none last again.equal);
        }

    is_step : (t : List (Entry A V)) (a : A) → IsStep t a
    is_step [] a = record { step = refl; lower = tt; equal = tt }
    is_step (e ∷ t) a = elim (cases_lt e.prefix.length length) [
      | inl less ↦ step_below e t a less (is_step t a)
      | inr not ↦ elim (cases_lt length e.prefix.length) [
        | inl more ↦ step_above e t a more (is_step t a)
        | inr most ↦ step_equal e t a (omega arith) (is_step t a)
      ]
    ]

    value_over : (x y : Option (Entry A V))
        → option_map (λ e. e.value) (over x y)
        ≡ over (option_map (λ e. e.value) x) (option_map (λ e. e.value) y)
    value_over x None = refl
    value_over x (Some e) = refl

    own_value : (e : Entry A V) (h : Bool)
        → option_map (λ e. e.value) (if h then Some e else None)
        ≡ (if h then Some e.value else None)
    own_value e true = refl
    own_value e false = refl

    last_value : (t : List (Entry A V)) (a : A)
        → option_map (λ e. e.value) (last_entry t a) ≡ last_of number length t a
    last_value [] a = refl
    last_value (e ∷ t) a =
        let h : Bool = (e.prefix.length == length) && holds number e.prefix a in
        value_over (if h then Some e else None) (last_entry t a)
        ∙ ap (λ x. over x (option_map (λ e. e.value) (last_entry t a))) (own_value e h)
        ∙ ap (λ x. over (own number length e a) x) (last_value t a)

    -- with the prefixes of one length more
    pub below_next : (t : List (Entry A V)) (a : A)
        → value_below (length + 1) t a ≡ over (value_below length t a) (last_of number length t a)
    below_next t a =
        ap (λ x. option_map (λ e. e.value) x) (is_step t a).step
        ∙ value_over (longest_below length t a) (last_entry t a)
        ∙ ap (λ x. over (value_below length t a) x) (last_value t a)
