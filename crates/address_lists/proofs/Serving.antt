-- The least of some lengths that serves a prefix.
use Rattle.std.proofs.Common.{◌≡◌, ℕ, ◌≤◌, ◌<◌, List, [], ◌∷◌, ◌++◌, Option, None, Some, inl, inr, sym, subst, arith}
use Rattle.std.proofs.lemmas.List.Elements.{Contains-append_left, Contains-push, Contains-push_cases}
use Rattle.address_prefixes.specs.declared.prefix.Prefix.{Prefix}
use Rattle.address_text.specs.Texts.{width}
use Rattle.address_text.specs.declared.family.Family.{Family}
use Rattle.address_lists.specs.Split.{IsLeastServing, IsServing, IsSplit, IsSplitLength, IsSplitText}

module _ (family : Family) (own : ℕ) where
  pub none_serves : (found : Option ℕ) → found ≡ None → IsLeastServing [] family own found
  none_serves found none =
      subst (IsLeastServing [] family own) (sym none)
      (λ other (held, high, low). absurd (omega (arith, held.1)))

  -- one that does not serve changes nothing
  pub passes_by : (lengths : List ℕ) (length : ℕ) (found : Option ℕ)
      → ¬ ((own ≤ length) × (length ≤ width family)) → IsLeastServing lengths family own found
      → IsLeastServing (lengths ++ length ∷ []) family own found
  passes_by lengths length None other none = λ one (held, high, low).
      elim (Contains-push_cases lengths length one held) [
        | inl before ↦ none one (before, high, low)
        | inr same ↦ other
            (subst (λ l. (own ≤ l) × (l ≤ width family)) (sym same) (high, low))
      ]
  passes_by lengths length (Some found) other (serves, least) = (
    (Contains-append_left lengths (length ∷ []) found serves.0, serves.1, serves.2),
    λ one (held, high, low). elim (Contains-push_cases lengths length one held) [
      | inl before ↦ least one (before, high, low)
      | inr same ↦ absurd (other
          (subst (λ l. (own ≤ l) × (l ≤ width family)) (sym same) (high, low)))
    ],
  )

  -- one that is not less changes nothing
  pub stays_least : (lengths : List ℕ) (length found : ℕ) → found ≤ length
      → IsLeastServing lengths family own (Some found)
      → IsLeastServing (lengths ++ length ∷ []) family own (Some found)
  stays_least lengths length found less (serves, least) = (
    (Contains-append_left lengths (length ∷ []) found serves.0, serves.1, serves.2),
    λ one (held, high, low). elim (Contains-push_cases lengths length one held) [
      | inl before ↦ least one (before, high, low)
      | inr same ↦ omega (arith, less, same)
    ],
  )

  -- one that serves is the least where all others are greater
  is_new : (lengths : List ℕ) (length : ℕ) → own ≤ length → length ≤ width family
      → ((other : ℕ) → IsServing lengths family own other → length ≤ other)
      → IsLeastServing (lengths ++ length ∷ []) family own (Some length)
  is_new lengths length above within least = (
    (Contains-push lengths length, above, within),
    λ one (held, high, low). elim (Contains-push_cases lengths length one held) [
      | inl before ↦ least one (before, high, low)
      | inr same ↦ omega (arith, same)
    ],
  )

  pub is_first : (lengths : List ℕ) (length : ℕ) → own ≤ length → length ≤ width family
      → IsLeastServing lengths family own None
      → IsLeastServing (lengths ++ length ∷ []) family own (Some length)
  is_first lengths length above within none =
      is_new lengths length above within (λ other serves. absurd (none other serves))

  pub is_lesser : (lengths : List ℕ) (length found : ℕ) → own ≤ length → length ≤ width family
      → length < found → IsLeastServing lengths family own (Some found)
      → IsLeastServing (lengths ++ length ∷ []) family own (Some length)
  is_lesser lengths length found above within less (serves, least) =
      is_new lengths length above within
      (λ other it. let beyond = least other it in omega (arith, less, beyond))

-- a prefix that is divided at the length that serves it
pub is_split : {A : Type 0} (before after : List ℕ) (first second its : Family) (number : A → ℕ)
    (lengths : List ℕ) (prefix : Prefix A) (length network : ℕ) (text : List ℕ) → first ≡ its
    → second ≡ its → network ≡ number prefix.network
    → IsSplitLength lengths first prefix.length length
    → IsSplitText before after second length prefix.length network text
    → IsSplit before after its number lengths prefix text
is_split before after first second its number lengths prefix length network text one two same chosen
    split = (
      length,
      subst (λ f. IsSplitLength lengths f prefix.length length) one chosen,
      subst (λ n. IsSplitText before after its length prefix.length n text) same
          (subst (λ f. IsSplitText before after f length prefix.length network text) two split),
    )
