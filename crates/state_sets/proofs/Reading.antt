-- A loop over the characters of a text: those that are read, and how many bytes they have.
use Rattle.std.proofs.Common.{◌≡◌, sym, ◌∙◌, ℕ, ◌≤◌, ◌+◌, List, [], ◌∷◌, ◌++◌, length, drop, Option, Some, None, arith}
use Rattle.std.proofs.Math.Seq.{drop-cons}
use Rattle.std.proofs.Math.Utf8.{encodes, encode}
use Rattle.std.proofs.lemmas.Grind.{common_steps}
use Rattle.std.proofs.lemmas.Iterator.{YieldsList}
use Rattle.std.proofs.lemmas.Iterator.Consumers.{YieldsList-so_far, YieldsList-turn, YieldsList-end}
use Rattle.std.proofs.lemmas.List.{map-id, take-append-drop}
use Rattle.std.proofs.lemmas.Str.{encodes-append, encodes-chars}
use Rattle.std.specs.Iterator.{Yields}
use Rattle.std.specs.Str.{chars, IsUtf8}

-- how many bytes the characters have
abbrev pub bytes_of : List ℕ → ℕ
bytes_of cs = length (encodes cs)

pub bytes_of-append : (xs ys : List ℕ) → bytes_of (xs ++ ys) ≡ bytes_of xs + bytes_of ys
bytes_of-append xs ys = grind (arith, common_steps, encodes-append xs ys)

pub bytes_of-push : (cs : List ℕ) (c : ℕ)
    → bytes_of (cs ++ c ∷ []) ≡ bytes_of cs + length (encode c)
bytes_of-push cs c = grind (arith, common_steps, bytes_of-append cs (c ∷ []))

module _ {S : Type 0} {steps : S → Option ℕ → S → Type 0} {s : S} {all : List ℕ}
    (yields : YieldsList steps (λ c. c) s all) (read : List ℕ) (t : S)
    (so_far : Yields steps s read t) (next : Option ℕ) (u : S) where
  -- the next one, and those behind it
  pub read_more : (c : ℕ) → next ≡ Some c → steps t next u
      → (rest : List ℕ) × (all ≡ read ++ c ∷ rest)
  read_more c is step =
      let front = YieldsList-so_far yields read t so_far in
      let turn = YieldsList-turn yields read t so_far next u c is step in
      let split = take-append-drop (length read) all in
      let back = drop-cons all (length read) c turn.0 in
      (drop (length read + 1) all, grind (arith, map-id read))

  pub read_all : next ≡ None → steps t next u → read ≡ all
  read_all is step = sym (map-id read) ∙ (YieldsList-end yields read t so_far next u is step).0

  -- the bytes of what is read and of the next one are within the text
  pub read_fits : (text : List ℕ) → IsUtf8 text → all ≡ chars text → (c : ℕ) → next ≡ Some c
      → steps t next u → bytes_of read + length (encode c) ≤ length text
  read_fits text utf8 whole c is step =
      let (rest, split) = read_more c is step in
      let parts = bytes_of-append read (c ∷ rest) in
      grind (arith, common_steps, encodes-chars text utf8)
