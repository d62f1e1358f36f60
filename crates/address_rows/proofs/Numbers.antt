-- Texts by their numbers.
use Rattle.std.proofs.Common.{◌≡◌, ◌≢◌, ℕ, Bool, true, false, cond, List, [], ◌∷◌, ◌++◌, Some, map, sym, ap, ◌∙◌}
use Rattle.std.specs.List.{AllByRecursion, IsDistinct, list_any, slice_get}
use Rattle.std.specs.Option.{option_map}
use Rattle.std.proofs.lemmas.Bool.{false≢true}
use Rattle.std.proofs.lemmas.List.{append-nil, map_push}
use Rattle.std.proofs.lemmas.Option.{get_or_from_slice_get, slice_get-map, slice_get_within}
use Rattle.indexmap.specs.IndexSet.{insert_key}
use Rattle.address_rows.specs.Rows.{IsAt}
use Rattle.address_rows.specs.Texts.{AreDifferent}

module _ {K : Type 0} (text : K → List ℕ) where
  -- a key stands at its place
  pub found : (keys : List K) (n : ℕ) (key : K) (value : List ℕ) → slice_get keys n ≡ Some key
      → text key ≡ value → IsAt (map text keys) n value
  found keys n key value at is =
      let there = slice_get-map text keys n ∙ ap (option_map text) at in (
        slice_get_within (map text keys) n (text key) there,
        get_or_from_slice_get (map text keys) n (text key) [] there ∙ is,
      )

  -- and the keys before it stay
  pub kept : (same : K → K → Bool) (keys later : List K) (key : K)
      → later ≡ insert_key same keys key
      → (more : List (List ℕ)) × (map text later ≡ map text keys ++ more)
  kept same keys later key is =
      let added : (b : Bool) → (more : List (List ℕ))
      × (map text (cond b keys (keys ++ key ∷ [])) ≡ map text keys ++ more) =
      λ b. elim b as (λ b. (more : List (List ℕ))
      × (map text (cond b keys (keys ++ key ∷ [])) ≡ map text keys ++ more)) [
        | true ↦ ([], sym (append-nil (map text keys)))
        | false ↦ (text key ∷ [], map_push text keys key)
      ] in
      let some = added (list_any (same key) keys) in (some.0, ap (map text) is ∙ some.1)

  different_from : (same : K → K → Bool) → ((a b : K) → text a ≡ text b → same a b ≡ true)
      → (key : K) (keys : List K) → AllByRecursion (λ k. same key k ≡ false) keys
      → AllByRecursion (λ other. text key ≢ other) (map text keys)
  different_from same tells key [] others = tt
  different_from same tells key (k ∷ keys) others = (
    λ is. absurd (false≢true (sym others.0 ∙ tells key k is)),
    different_from same tells key keys others.1,
  )

  -- keys that differ have texts that differ
  pub different : (same : K → K → Bool) → ((a b : K) → text a ≡ text b → same a b ≡ true)
      → (keys : List K) → IsDistinct same keys → AreDifferent (map text keys)
  unfolding IsDistinct
  different same tells [] distinct = tt
  different same tells (key ∷ keys) distinct = (
    different_from same tells key keys distinct.0,
    different same tells keys distinct.1,
  )
