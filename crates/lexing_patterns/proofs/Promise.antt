-- A token of the lexer is a longest match of its patterns.
use Rattle.std.proofs.Common.{◌≡◌, refl, sym, ap, subst, ◌∙◌, ◌↔◌, inl, inr, ℕ, ◌≤◌, true, List, [], ◌∷◌, ◌++◌, length, take, Some, slice_get, arith, append-nil, length-append}
use Rattle.std.proofs.Math.Logic.{∥∥₁_elim}
use Rattle.std.proofs.lemmas.Grind.{common_steps, not_there}
use Rattle.std.proofs.lemmas.Bool.{and_parts, cases_lt}
use Rattle.std.proofs.lemmas.Bool.Decides.{nat_tests}
use Rattle.std.proofs.lemmas.Str.{encodes-chars, scalars-chars, encodes-append, length-le-encodes, IsUtf8-take}
use Rattle.std.specs.Char.{IsScalar}
use Rattle.std.specs.Str.{encode_utf8_all, all_scalars, chars, IsUtf8}
use Rattle.btree_range_map.specs.Characters.{IsCharacter}
use Rattle.charmoves.specs.Automata.{LeadsTo}
use Rattle.state_sets.specs.Beginnings.{AcceptsFirst}
use Rattle.state_sets.proofs.Lists.{some_at}
use Rattle.lexing.specs.declared.lexer.Lexer.{Lexer}
use Rattle.lexing.specs.Lexers.{rules_in, PathOf, IsAcceptedBy}
use Rattle.lexing.specs.Tokens.{IsToken}
use Rattle.regex_hir.specs.Re.{Re}
use Rattle.regex_hir.specs.Matches.{Matches}
use Rattle.lexing_patterns.specs.declared.draft.Draft.{Draft}
use Rattle.lexing_patterns.specs.Languages.{IsLanguage}
use Rattle.lexing_patterns.specs.Parts.{HasEdge, Path}
use Rattle.lexing_patterns.specs.Drafts.{AreDrafted, DraftReads}
use Rattle.lexing_patterns.specs.Patterns.{MatchesAll, MatchesFirst, IsLongestMatch, IsPoured}

nothing_left : (cs : List ℕ) → length (encode_utf8_all cs) ≡ 0 → cs ≡ []
nothing_left cs e = grind (arith, common_steps, length-le-encodes cs)

-- the pattern matches a whole text where the text's characters are in its language
pub whole_text : (re : Re) (L : List ℕ → Type 0) → IsLanguage re L → (text : List ℕ) → IsUtf8 text
    → Matches text re 0 (length text) ↔ L (chars text)
whole_text re L is text utf8 =
    let cs = chars text in
    let coded : encode_utf8_all (chars text) ≡ text = encodes-chars text utf8 in
    let by = is.matches [] cs refl (scalars-chars text utf8) (length text) in (
      grind (arith, encodes-append, length-append, nothing_left, append-nil),
      grind (arith, append-nil cs),
    )

is_character : (c : ℕ) → IsScalar c → IsCharacter c
is_character c s = grind (arith, nat_tests)

module _ (draft : Draft) (lexer : Lexer) (patterns : List Re) (is : AreDrafted draft.edges.items
    draft.starts.items draft.ends.items draft.builder.next patterns) (poured : IsPoured draft lexer) where
  leads : (p : ℕ) (w : List ℕ) (q : ℕ) → all_scalars w ≡ true
      → LeadsTo (rules_in lexer) p w q ↔ Path (HasEdge draft.edges.items) p w q
  leads p [] q s = (λ h. h, λ h. h)
  leads p (c ∷ w) q s =
      let (scalar, later) = and_parts _ _ s in
      let key = is_character c scalar in (
        λ (t, step, path). (t, (poured.edges p c t key).0 step, (leads t w q later).0 path),
        λ (t, step, path). (t, (poured.edges p c t key).1 step, (leads t w q later).1 path),
      )

  paths : (rule : ℕ) (w : List ℕ) → all_scalars w ≡ true → PathOf lexer rule w
      ↔ DraftReads draft.edges.items draft.starts.items draft.ends.items rule w
  paths rule w s =
      let ends = λ (q : ℕ). poured.ends is.ends_at_one q rule in (
        grind (arith, leads),
        λ (p, q, starts, path, stops).
            (p, q, (poured.starts p).1 starts, (leads p w q s).1 path, (ends q).1 stops),
      )

  accepted : (rule : ℕ) (re : Re) → slice_get patterns rule ≡ Some re → (text : List ℕ)
      → IsUtf8 text → IsAcceptedBy lexer rule (chars text) ↔ MatchesAll re text
  accepted rule re at text utf8 =
      let whole = whole_text re _ (is.languages rule re at) text utf8 in
      let path = paths rule (chars text) (scalars-chars text utf8) in (
        λ h. ∥∥₁_elim h squash₁ (λ p. ∣ whole.1 (path.0 p) ∣₁),
        λ h. ∥∥₁_elim h squash₁ (λ m. ∣ path.1 (whole.0 m) ∣₁),
      )

  never_past : (rule : ℕ) → length patterns ≤ rule → (text : List ℕ) → IsUtf8 text
      → ¬ IsAcceptedBy lexer rule (chars text)
  never_past rule past text utf8 h =
      not_there h
      (λ p.
      let path = (paths rule (chars text) (scalars-chars text utf8)).0 p in
      absurd (omega (arith, past, (is.ends_below path.1 rule path.4).1)))

  module _ (text : List ℕ) (utf8 : IsUtf8 text) where
    first : (rule n : ℕ) → AcceptsFirst (IsAcceptedBy lexer rule) text n
        ↔ MatchesFirst patterns text rule n
    first rule n =
        grind (
          arith,
          IsUtf8-take text n utf8,
          cases_lt rule (length patterns),
          some_at patterns rule,
          accepted rule,
          never_past rule,
        )

    pub token_is_match : (rule len : ℕ) → IsToken lexer text rule len
        ↔ IsLongestMatch patterns text rule len
    token_is_match rule len = (
      λ token. record {
        nonempty = token.nonempty;
        matched = (first rule len).0 token.accepted;
        longest = λ other n h. token.longest other n ((first other n).1 h);
        first = λ other h. token.first other ((first other len).1 h);
      },
      λ match_of. record {
        nonempty = match_of.nonempty;
        accepted = (first rule len).1 match_of.matched;
        longest = λ other n h. match_of.longest other n ((first other n).0 h);
        first = λ other h. match_of.first other ((first other len).0 h);
      },
    )
