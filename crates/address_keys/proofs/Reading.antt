-- A JSON value is read as an address just where its text is one.
use Rattle.std.proofs.Common.{◌≡◌, ℕ, false, List, [], ◌∷◌, ◌++◌, None, Some, refl, sym, ap, subst, ◌∙◌, append-nil, arith, length, lit≤, ne_eqb}
use Rattle.std.specs.Prelude.{IsTrue, is_some}
use Rattle.std.specs.Net.Grammar.{IsColonHex, IsDotted}
use Rattle.std.specs.Net.Reader.{Read, read_ipv4, read_ipv6, whole_value}
use Rattle.std.proofs.NetLemmas.Ipv4.{read_ipv4_complete}
use Rattle.std.proofs.NetLemmas.Ipv6.{read_ipv6_complete, EndsGroups-nil}
use Rattle.serde_json.specs.Data.{Data}
use Rattle.serde_json.specs.Find.{as_str}
use Rattle.address_keys.specs.Json.{reads_whole}

module _ (read : List ℕ → Read (List ℕ)) (Spells : List ℕ → List ℕ → Type 0)
    (complete : (text numbers rest : List ℕ) → rest ≡ [] → Spells text numbers
    → read (text ++ rest) ≡ Some (numbers, rest))
    (sound : (text numbers rest : List ℕ) → read text ≡ Some (numbers, rest)
    → (front : List ℕ) × (text ≡ front ++ rest) × Spells front numbers) where
  abbrev IsNone : List ℕ → Type 0
  IsNone text = (numbers : List ℕ) → ¬ Spells text numbers

  pub reads_some : (d : Data) (text numbers : List ℕ) → as_str d ≡ Some text
      → Spells text numbers → IsTrue (reads_whole read d)
  reads_some d text numbers is spelled =
      let whole : read text ≡ Some (numbers, []) =
      ap read (sym (append-nil text)) ∙ complete text numbers [] refl spelled in
      rw (is, whole) refl

  not_whole : (text : List ℕ) (r : Read (List ℕ)) → read text ≡ r → IsNone text
      → is_some (whole_value r) ≡ false
  not_whole text None e none = refl
  not_whole text (Some (numbers, [])) e none =
      let (front, split, spelled) = sound text numbers [] e in
      absurd (none numbers (subst (λ t. Spells t numbers) (sym (split ∙ append-nil front)) spelled))
  not_whole text (Some (numbers, b ∷ rest)) e none =
      rw (ne_eqb (length (b ∷ rest)) 0 (omega arith)) refl

  pub reads_none : (d : Data) (text : List ℕ) → as_str d ≡ Some text → IsNone text
      → reads_whole read d ≡ false
  reads_none d text is none = rw is (not_whole text (read text) refl none)

pub ipv4_complete : (text numbers rest : List ℕ) → rest ≡ [] → IsDotted text numbers
    → read_ipv4 (text ++ rest) ≡ Some (numbers, rest)
ipv4_complete text numbers [] none spelled = read_ipv4_complete text numbers [] spelled (lit≤ tt)
ipv4_complete text numbers (b ∷ rest) none spelled = cc

pub ipv6_complete : (text numbers rest : List ℕ) → rest ≡ [] → IsColonHex text numbers
    → read_ipv6 (text ++ rest) ≡ Some (numbers, rest)
ipv6_complete text numbers [] none spelled = read_ipv6_complete text numbers [] spelled EndsGroups-nil
ipv6_complete text numbers (b ∷ rest) none spelled = cc
