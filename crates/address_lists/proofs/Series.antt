-- Lines of numbers at equal distances, written one after the other.
use Rattle.std.proofs.Common.{◌≡◌, ℕ, zero, suc, ◌+◌, ◌-◌, ◌*◌, ◌^◌, ◌≤◌, ◌<◌, List, ◌∷◌, ◌++◌, Option, ap, sym, subst, ◌∙◌, append_assoc, arith}
use Rattle.std.proofs.Math.Pow.{pow-add}
use Rattle.std.proofs.lemmas.Bool.{cases_lt}
use Rattle.std.specs.Io.KnownBytes.{Appends}
use Rattle.address_lists.specs.Series.{series}
use Rattle.std.specs.List.{AllByRecursion}
use Rattle.line_program.proofs.Listing.{HasShown, append_nil, appends_none, appends_then, shown_more}
use Rattle.line_program.specs.Listing.{Writes}
use Rattle.std.proofs.Common.{rules}

-- a block of a shorter length has so many blocks of a longer one
pub blocks_are : (bits shorter longer first last : ℕ) → shorter < longer → longer ≤ bits
    → last + 1 ≡ first + 2 ^ (bits - shorter)
    → last + 1 ≡ first + 2 ^ (longer - shorter) * 2 ^ (bits - longer)
blocks_are bits shorter longer first last less le whole =
    let split : bits - shorter ≡ (longer - shorter) + (bits - longer) = omega arith in
    let size : 2 ^ (bits - shorter) ≡ 2 ^ (longer - shorter) * 2 ^ (bits - longer) =
    ap (λ k. 2 ^ k) split ∙ pow-add 2 (longer - shorter) (bits - longer) in
    whole ∙ ap (λ n. first + n) size

-- more than one block is left where the last is not in the first
two_left : (left size network last : ℕ) → last + 1 ≡ network + left * size → 0 < size
    → size ≤ last - network → 1 < left
two_left left size network last ends some more = grind (arith, cases_lt)

-- one block is left where the last is in the first
one_left : (left size network last : ℕ) → 0 < left → last + 1 ≡ network + left * size
    → last - network < size → left ≡ 1
one_left left size network last some ends within = grind (arith, cases_lt, within)

next_block : (left size network last : ℕ) → 1 < left → last + 1 ≡ network + left * size
    → last + 1 ≡ (network + size) + (left - 1) * size
next_block left size network last two ends = search rules

module _ (line : ℕ → List ℕ) (step : ℕ) where
  first_line : (left n : ℕ) → 0 < left
      → series line step left n ≡ line n ++ series line step (left - 1) (n + step)
  first_line zero n none = absurd (omega arith)
  first_line (suc k) n some = grind arith

  -- the lines of the numbers before this one are written
  pub record AreWritten (count first last n : ℕ) (before now : Option (List ℕ)) : Type 0 where
    pub left : ℕ
    pub some : 0 < left
    pub ends : last + 1 ≡ n + left * step
    pub written : List ℕ
    pub appended : Appends before now written
    pub goes_on : written ++ series line step left n ≡ series line step count first

  pub none_written : (count first last n : ℕ) (known : Option (List ℕ)) → n ≡ first → 0 < count
      → last + 1 ≡ first + count * step → AreWritten count first last n known known
  none_written count first last n known same some ends = grind (arith, appends_none)

  pub within : 0 < step → (count first last n : ℕ) (before now : Option (List ℕ))
      → AreWritten count first last n before now → n ≤ last
  within far count first last n before now so_far = grind (arith, cases_lt)

  pub one_written : 0 < step → (count first last n others : ℕ) (before now next : Option (List ℕ))
      → AreWritten count first last n before now → others + 1 ≡ step → others < last - n
      → Appends now next (line n) → AreWritten count first last (n + (others + 1)) before next
  one_written far count first last n others before now next so_far is more one =
      let two = two_left so_far.left step n last so_far.ends far (omega (arith, is, more)) in
      subst (λ by. AreWritten count first last (n + by) before next) (sym is)
      (record {
        left = so_far.left - 1;
        some = omega (arith, two);
        ends = next_block so_far.left step n last two so_far.ends;
        written = so_far.written ++ line n;
        appended =
            appends_then before now next so_far.written (line n) so_far.appended one;
        goes_on =
            append_assoc so_far.written (line n) (series line step (so_far.left - 1) (n + step))
            ∙ ap (λ text. so_far.written ++ text) (sym (first_line so_far.left n so_far.some))
            ∙ so_far.goes_on;
      })

  pub all_written : (count first last n others : ℕ) (before now next : Option (List ℕ))
      → AreWritten count first last n before now → others + 1 ≡ step → last - n ≤ others
      → Appends now next (line n)
      → Writes before next (λ text. text ≡ series line step count first)
  all_written count first last n others before now next so_far is few one =
      grind (arith, one_left, first_line, append_nil, appends_then)

-- one range more is written
pub one_range : (T : ℕ × ℕ → List ℕ → Type 0) (P : ℕ × ℕ → Type 0) (all left rest : List (ℕ × ℕ))
    (range : ℕ × ℕ) (before now next : Option (List ℕ)) → left ≡ range ∷ rest
    → HasShown T all left before now × AllByRecursion P left → Writes now next (T range)
    → HasShown T all rest before next × AllByRecursion P rest
one_range T P all left rest range before now next steps (shown, fit) written = (
  shown_more T all rest range before now next
      (subst (λ ranges. HasShown T all ranges before now) steps shown) written,
  (subst (AllByRecursion P) steps fit).1,
)
