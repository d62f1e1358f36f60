-- What lists of lines say, and lines that are put together.
use Rattle.std.proofs.Common.{◌≡◌, ℕ, zero, suc, ◌<◌, ◌^◌, ◌↔◌, ◌⊎◌, List, [], ◌∷◌, ◌++◌, length, get_or, map, Result, Ok, Err, OnOk, inl, inr, refl, sym, subst, arith}
use Rattle.std.proofs.lemmas.List.{map_push}
use Rattle.std.proofs.lemmas.List.Sorted.{Contains-permutation, IsPermutation-sym}
use Rattle.std.specs.List.{Contains}
use Rattle.std.specs.List.Sorted.{IsPermutation}
use Rattle.btree_range_map.specs.Intervals.{Any}
use Rattle.address_text.specs.Lines.{SaysAddress}
use Rattle.address_text.specs.Texts.{width}
use Rattle.address_text.specs.declared.family.Family.{Family}
use Rattle.address_text.specs.declared.family.Family.TheVariants.{V4, V6}
use Rattle.address_text.specs.declared.line.Line.{Line}
use Rattle.address_text.specs.declared.line.Line.TheVariants.{Addresses, Nothing}
use Rattle.address_lists.specs.Lists.{Has, HasJust}
use Rattle.address_lists.specs.Waiting.{HasOrSays, IsTogether, Spans}
use Rattle.address_lists.specs.declared.addresses.Addresses.{Addresses as Held}

pub any_append : {X : Type 0} (P : X → Type 0) (xs ys : List X)
    → Any P (xs ++ ys) ↔ (Any P xs ⊎ Any P ys)
any_append P [] ys = (λ h. inr h, λ h. elim h [ inl none ↦ absurd none | inr some ↦ some ])
any_append P (x ∷ xs) ys = grind (arith, any_append P xs ys)

-- an element that is such stands in the list
element_of : {X : Type 0} (P : X → Type 0) (xs : List X) → Any P xs
    → (x : X) × Contains xs x × P x
element_of P [] none = absurd none
element_of P (x ∷ xs) (inl here) = (x, (0, omega arith, refl), here)
element_of P (x ∷ xs) (inr later) =
    let found = element_of P xs later in
    let place = found.1 in (found.0, (suc place.0, omega (arith, place.1), place.2), found.2)

any_of : {X : Type 0} (P : X → Type 0) (xs : List X) (k : ℕ) (x : X) → k < length xs
    → get_or xs k x ≡ x → P x → Any P xs
any_of P [] k x below at such = absurd (omega (arith, below))
any_of P (y ∷ ys) zero x below at such = inl (subst P (sym at) such)
any_of P (y ∷ ys) (suc k) x below at such = inr (any_of P ys k x (omega (arith, below)) at such)

-- the order of a list does not matter
any_moved : {X : Type 0} (P : X → Type 0) (xs ys : List X) → IsPermutation xs ys → Any P xs
    → Any P ys
any_moved P xs ys moved some =
    let found = element_of P xs some in
    let place = Contains-permutation xs ys found.0 moved found.1 in
    any_of P ys place.0 found.0 place.1 place.2 found.2

neither : ⊥ ↔ (⊥ ⊎ ⊥)
neither = (λ never. absurd never, λ e. elim e [ inl never ↦ never | inr never ↦ never ])

-- the lines of two spans of a family
pub spans_together : (family : Family) (start end from to first last : ℕ)
    → Spans start end from to first last
    → IsTogether (Addresses family start end) (Addresses family from to)
    (Addresses family first last)
spans_together V4 start end from to first last spans V4 n = spans.numbers n
spans_together V4 start end from to first last spans V6 n = neither
spans_together V6 start end from to first last spans V4 n = neither
spans_together V6 start end from to first last spans V6 n = spans.numbers n

-- a line more waits
pub put_more : (list : Held) (lines : List Line) (line : Line) (family : Family) (n : ℕ)
    → HasOrSays list (lines ++ line ∷ []) family n
    ↔ (HasOrSays list lines family n ⊎ SaysAddress family n line)
put_more list lines line family n =
    let split = any_append (SaysAddress family n) lines (line ∷ []) in (
      λ e. elim e [
        | inl has ↦ inl (inl has)
        | inr said ↦ elim (split.0 said) [
          | inl earlier ↦ inl (inr earlier)
          | inr last ↦ elim last [ inl says ↦ inr says | inr never ↦ absurd never ]
        ]
      ],
      λ e. elim e [
        | inl so_far ↦ elim so_far [
          | inl has ↦ inl has
          | inr said ↦ inr (split.1 (inl said))
        ]
        | inr says ↦ inr (split.1 (inr (inl says)))
      ],
    )

-- the list has the address, or the line that waits says it
abbrev pub HasWith : Held → Line → Family → ℕ → Type 0
HasWith list line family n = Has list family n ⊎ SaysAddress family n line

-- those that spans say are added, or the last line says them
abbrev pub AreFollowed : Held → Held → Line → List Line → Type 0
AreFollowed old now last lines = (family : Family) (n : ℕ) → n < 2 ^ width family
    → HasWith now last family n ↔ HasOrSays old lines family n

pub none_followed : (old : Held) → AreFollowed old old Nothing []
none_followed old family n h = (λ has. has, λ has. has)

-- one line more is added, or waits
abbrev pub IsFollowed : Held → Held → Line → Line → Line → Type 0
IsFollowed now next last line said = (family : Family) (n : ℕ) → n < 2 ^ width family
    → HasWith next line family n ↔ (HasWith now last family n ⊎ SaysAddress family n said)

pub followed : (old now next : Held) (last line said : Line) (lines : List Line)
    → AreFollowed old now last lines → IsFollowed now next last line said
    → AreFollowed old next line (lines ++ said ∷ [])
followed old now next last line said lines before more family n h =
    let one = before family n h in
    let all = more family n h in
    let split = put_more old lines said family n in (
      λ has. split.1 (elim (all.0 has) [
        | inl was ↦ inl (one.0 was)
        | inr says ↦ inr says
      ]),
      λ is. all.1 (elim (split.0 is) [
        | inl was ↦ inl (one.1 was)
        | inr says ↦ inr says
      ]),
    )

-- at the end the last line is added
pub last_added : {X E : Type 0} (old now next : Held) (last : Line) (lines : List Line)
    (result : Result X E) → AreFollowed old now last lines
    → OnOk result (HasJust next (HasWith now last))
    → OnOk result (HasJust next (HasOrSays old lines))
last_added old now next last lines (Ok done) before added = λ family n h.
    let one = before family n h in
    let all = added family n h in (λ has. one.0 (all.0 has), λ is. all.1 (one.1 is))
last_added old now next last lines (Err error) before added = tt

-- two lines that are one: of an address, H, the list has it; L, both say it; A, the first does; N,
-- the second does
pub follows_together : (H L A N : Type 0) → (L ↔ (A ⊎ N)) → (H ⊎ L) ↔ ((H ⊎ A) ⊎ N)
follows_together H L A N one = grind arith

-- in another order
pub added_moved : (old now : Held) (lines moved : List Line) → IsPermutation lines moved
    → HasJust now (HasOrSays old moved) → HasJust now (HasOrSays old lines)
added_moved old now lines moved there added family n h =
    let one = added family n h in
    let back = IsPermutation-sym lines moved there in (
      λ has. elim (one.0 has) [
        | inl had ↦ inl had
        | inr said ↦ inr (any_moved (SaysAddress family n) moved lines back said)
      ],
      λ e. elim e [
        | inl had ↦ one.1 (inl had)
        | inr said ↦ one.1 (inr (any_moved (SaysAddress family n) lines moved there said))
      ],
    )

-- those before it are added first
pub put_first : (old now : Held) (lines : List Line) (line : Line)
    → HasJust now (HasOrSays old lines) → (family : Family) (n : ℕ) → n < 2 ^ width family
    → HasOrSays now (line ∷ []) family n
    ↔ (HasOrSays old lines family n ⊎ SaysAddress family n line)
put_first old now lines line added family n h = grind arith

-- the last line and the next are one: of an address, H, the list has it; L, both say it; A, the
-- last one does; N, the next one does; B and C, spans do
pub taken_together : (H L A N B C : Type 0) → (L ↔ (A ⊎ N))
    → (H ⊎ (L ⊎ (B ⊎ C))) ↔ ((H ⊎ (A ⊎ (B ⊎ C))) ⊎ N)
taken_together H L A N B C one = grind arith

-- a span more waits, behind those before it or in their place
pub put_then : {S : Type 0} (line : S → Line) (old mid : Held) (before kept after : List S)
    (span : S) → after ≡ kept ++ span ∷ []
    → ((mid ≡ old) × (kept ≡ before))
    ⊎ (HasJust mid (HasOrSays old (map line before)) × (kept ≡ []))
    → (family : Family) (n : ℕ) → n < 2 ^ width family
    → HasOrSays mid (map line after) family n
    ↔ (HasOrSays old (map line before) family n ⊎ SaysAddress family n (line span))
put_then line old mid before kept after span appended (inl (same, is)) family n h =
    grind (arith, map_push, put_more)
put_then line old mid before kept after span appended (inr (added, none)) family n h =
    grind (arith, put_first)
