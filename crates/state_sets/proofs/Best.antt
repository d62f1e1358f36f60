-- The longest match of what has been read, and of a whole text by its bytes.
use Rattle.std.proofs.Common.{◌≡◌, ℕ, ◌<◌, ◌≤◌, IsTrue, List, [], ◌∷◌, ◌++◌, take, Option, Some, None, BTreeSet, arith}
use Rattle.std.specs.Prelude.{IfSome, MatchOption}
use Rattle.std.specs.Ordering.{nat_cmp}
use Rattle.std.specs.BTreeSet.{contains}
use Rattle.std.specs.Str.{chars, IsUtf8}
use Rattle.std.proofs.Math.Seq.{take-nil}
use Rattle.std.proofs.lemmas.Grind.{common_steps, not_there}
use Rattle.std.proofs.lemmas.Option.{IfSome_then}
use Rattle.std.proofs.lemmas.Str.{length-le-encodes}
use Rattle.state_sets.specs.declared.longest.Match.{Match}
use Rattle.state_sets.specs.Steps.{AreAfter}
use Rattle.state_sets.specs.Tokens.{IsAcceptedBy, IsFirstAmong, IsToken, BeginsWithNone}
use Rattle.state_sets.proofs.Leading.{path_in_parts}
use Rattle.state_sets.proofs.Reading.{bytes_of}
use Rattle.state_sets.proofs.Fronts.{IsAcceptedFront, front_fits, whole_front, front_stays, front_in_parts, front_of_bytes, bytes_of_chars}

module _ (HasStep : ℕ → ℕ → ℕ → Type 0) (IsStart : ℕ → Type 0) (EndsAt : ℕ → ℕ → Type 0) where
  abbrev Accepts : ℕ → List ℕ → Type 0
  Accepts = IsAcceptedBy HasStep IsStart EndsAt

  -- the rule is the first that accepts the characters
  abbrev IsFirstFor : ℕ → List ℕ → Type 0
  IsFirstFor rule cs = Accepts rule cs × ((other : ℕ) → Accepts other cs → rule ≤ other)

  -- no token with which the characters begin is longer, and no earlier rule accepts this one
  pub record IsBest (cs : List ℕ) (longest : Option Match) : Type 0 where
    pub most : (rule n : ℕ) → 0 < n → IsAcceptedFront (Accepts rule) cs n
        → MatchOption longest ⊥ (λ m. n ≤ m.len)
    pub has : IfSome longest (λ m. (0 < m.len) × IsAcceptedFront (IsFirstFor m.rule) cs m.len)

  pub best_none : IsBest [] None
  best_none = grind arith

  module _ (read : List ℕ) (states : BTreeSet ℕ) (after : AreAfter HasStep IsStart read states)
    where
      -- the rules that accept what is read are those of the states that are reached
      first_for : (found : Option ℕ) (rule : ℕ) → IsFirstAmong EndsAt states found
          → found ≡ Some rule → IsFirstFor rule read
      first_for None rule told is = absurd cc
      first_for (Some first) rule told is =
          (∣ grind (arith, after told.0.0) ∣₁, λ other by. grind (arith, not_there, after))

      none_for : (found : Option ℕ) → IsFirstAmong EndsAt states found
          → ((rule : ℕ) → ¬ (found ≡ Some rule)) → (rule : ℕ) → ¬ Accepts rule read
      none_for found told never rule by = grind (arith, not_there, after)

      -- where nothing leads on by the next character, nothing that goes on with it is accepted
      never_through : (c : ℕ) → ((p q : ℕ) → IsTrue (contains nat_cmp states p) → ¬ HasStep p c q)
          → (more : List ℕ) (rule : ℕ) → ¬ Accepts rule (read ++ c ∷ more)
      never_through c none more rule by =
          grind (arith, common_steps, not_there, path_in_parts) steps 2000000

  -- a character more, with which the whole is a token
  pub best_grows : (read : List ℕ) (c : ℕ) (states : BTreeSet ℕ) (found : Option ℕ) (rule len : ℕ)
      → AreAfter HasStep IsStart (read ++ c ∷ []) states → IsFirstAmong EndsAt states found
      → found ≡ Some rule → len ≡ bytes_of (read ++ c ∷ [])
      → IsBest (read ++ c ∷ []) (Some (record { rule = rule; len = len }))
  best_grows read c states found rule len after told is bytes =
      let whole = read ++ c ∷ [] in
      let first = first_for whole states after found rule told is in
      let some = length-le-encodes whole in
      record {
        most = λ other n some h. grind (arith, front_fits (Accepts other) whole n h);
        has = grind (arith, common_steps, whole_front (IsFirstFor rule) whole first);
      }

  -- or characters more, with which nothing is accepted
  best_unless : (read rest : List ℕ) (c : ℕ) (longest : Option Match)
      → ((k rule : ℕ) → ¬ Accepts rule (read ++ c ∷ take k rest)) → IsBest read longest
      → IsBest (read ++ c ∷ rest) longest
  best_unless read rest c longest never was = record {
    most = λ rule n some h.
        let parts = front_in_parts (Accepts rule) read rest c n h in
        grind (arith, was.most rule n some, never);
    has = IfSome_then longest was.has
        (λ m (some, at). (some, front_stays (IsFirstFor m.rule) read (c ∷ rest) m.len at));
  }

  pub best_stays : (read : List ℕ) (c : ℕ) (states : BTreeSet ℕ) (found : Option ℕ)
      (longest : Option Match) → AreAfter HasStep IsStart (read ++ c ∷ []) states
      → IsFirstAmong EndsAt states found → ((rule : ℕ) → ¬ (found ≡ Some rule))
      → IsBest read longest → IsBest (read ++ c ∷ []) longest
  best_stays read c states found longest after told never =
      let none = none_for (read ++ c ∷ []) states after found told never in
      best_unless read [] c longest (λ k. rw take-nil none)

  pub best_when_stuck : (read rest : List ℕ) (c : ℕ) (states : BTreeSet ℕ)
      (longest : Option Match) → AreAfter HasStep IsStart read states
      → ((p q : ℕ) → IsTrue (contains nat_cmp states p) → ¬ HasStep p c q)
      → IsBest read longest → IsBest (read ++ c ∷ rest) longest
  best_when_stuck read rest c states longest after none =
      best_unless read rest c longest (λ k. never_through read states after c none (take k rest))

  pub token_of_best : (text : List ℕ) → IsUtf8 text → (longest : Option Match)
      → IsBest (chars text) longest
      → MatchOption longest (BeginsWithNone Accepts text) (λ m. IsToken Accepts text m.rule m.len)
  token_of_best text utf8 None best =
      λ rule n by. grind (arith, best.most rule n, front_of_bytes (Accepts rule) text utf8 n by)
  token_of_best text utf8 (Some m) best =
      let (some, at) = best.has in
      let (cut, (by, least)) = bytes_of_chars (IsFirstFor m.rule) text utf8 m.len at in
      record {
        nonempty = some;
        accepted = (cut, by);
        longest = λ other n by.
            grind (arith, best.most other n, front_of_bytes (Accepts other) text utf8 n by);
        first = λ other by. least other by.1;
      }
