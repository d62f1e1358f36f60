-- Lists of either form.
use Rattle.std.proofs.Common.{◌≡◌, ◌≢◌, ◌↔◌, ◌⊎◌, ◌==◌, ℕ, suc, ◌+◌, Bool, true, false, List, [], ◌∷◌, ◌++◌, length, Option, None, Some, IfSome, Result, Ok, Err, IfErr, IfOk, inl, inr, refl, ap, subst, sym, ◌∙◌, append_assoc, arith}
use Rattle.std.specs.Io.BufRead.{drop_through, take_through}
use Rattle.btree_range_map.specs.Holding.{box_items}
use Rattle.btree_range_map.specs.KeySets.{HoldsKey}
use Rattle.address_keys.specs.Addresses.{ipv4_at, ipv4_order, ipv6_at, ipv6_order}
use Rattle.address_text.specs.Lines.{SaysAddress}
use Rattle.address_text.specs.declared.family.Family.{Family}
use Rattle.address_text.specs.declared.family.Family.TheVariants.{V4, V6}
use Rattle.address_text.specs.declared.line.Line.{Line}
use Rattle.address_lists.specs.Files.{AreBlank, Content, IsAdded, IsAddedAs, IsContentAs, IsFile, IsFileReason, IsFirstLine, IsReadAs, IsReasonAs, IsSaidIn, IsStart, is_json, mark, opens_object}
use Rattle.address_lists.specs.Files.Content.{InJson, InLines}
use Rattle.address_lists.specs.Json.{IsDocument, IsJsonReason}
use Rattle.address_lists.specs.Lists.{AreAdded, AreGood, Has, HasJust, IsListed}
use Rattle.address_lists.specs.Lists.AreGood.{Ended, Other, Said}
use Rattle.address_lists.specs.Waiting.{HasSoFar}
use Rattle.address_lists.specs.Reading.{HasFaultFrom, IsBad, IsBadLine, IsShown, IsTakenIn}
use Rattle.address_lists.specs.declared.addresses.Addresses.{Addresses}
use Rattle.address_lists.specs.declared.file.Start.{Start}
use Rattle.address_lists.specs.declared.read.BadLines.{BadLines}
use Rattle.address_lists.specs.declared.read.BadLines.TheVariants.{Refused, Skipped}
use Rattle.address_lists.specs.declared.read.ListError.{ListError}
use Rattle.address_lists.specs.declared.read.ListError.TheVariants.{Memory, Unread}
use Rattle.address_lists.specs.declared.spans.Waiting.{Waiting}
use Rattle.address_lists.proofs.Blanks.{blanks_before, fault_after, fault_behind, good_behind, mark_of_first, mark_of_rest, through_line}
use Rattle.address_lists.proofs.Reading.{bad_line, other_fault}
use Rattle.address_lists.proofs.Shown.{shown_bad, shown_mark, shown_nothing, shown_object, shown_says}

has_not : (list : Addresses) → box_items list.v4 ≡ [] → box_items list.v6 ≡ [] → (family : Family)
    (n : ℕ) → ¬ Has list family n
has_not list v4 v6 V4 n has = subst (λ items. HoldsKey ipv4_order items (ipv4_at n)) v4 has
has_not list v4 v6 V6 n has = subst (λ items. HoldsKey ipv6_order items (ipv6_at n)) v6 has

abbrev pub IsJoined : Addresses → Addresses → List ℕ → Type 0
IsJoined old new text = (other : Addresses) × IsDocument text other
    × HasJust new (λ family n. Has old family n ⊎ Has other family n)

pub json_joined : (input : Option (List ℕ)) (text : List ℕ) (other old new : Addresses)
    → IfSome input (λ more. IsDocument (text ++ more) other)
    → HasJust new (λ family n. Has old family n ⊎ Has other family n)
    → IfSome input (λ more. IsJoined old new (text ++ more))
json_joined None text other old new read joined = tt
json_joined (Some more) text other old new read joined = (other, read, joined)

module _ (strict : Bool) where
  file_as : (bad_lines : BadLines) (bytes : List ℕ) (told : Bool) (list : Addresses) (others : ℕ)
      → is_json bytes ≡ told → IsReadAs strict told bad_lines bytes list others
      → IsFile strict bad_lines bytes list others
  file_as bad_lines bytes told list others is read =
      subst (λ t. IsReadAs strict t bad_lines bytes list others) (sym is) read

  reason_as : (bad_lines : BadLines) (bytes : List ℕ) (told : Bool) (error : ListError)
      → is_json bytes ≡ told → IsReasonAs strict told bad_lines bytes error
      → IsFileReason strict bad_lines bytes error
  reason_as bad_lines bytes told error is why =
      subst (λ t. IsReasonAs strict t bad_lines bytes error) (sym is) why

  -- what is read where all lines are blank: nothing is added
  none_said : (bad_lines : BadLines) (bytes blanks : List ℕ) (count : ℕ)
      → AreBlank bytes blanks count [] → (content : Content)
      × IsContentAs strict false bad_lines bytes content 0
      × ((family : Family) (n : ℕ) → ¬ IsSaidIn content family n)
  none_said bad_lines bytes blanks count before =
      let (all, good, same) = good_behind strict bytes blanks [] count [] 0 before (Ended []) in
      (InLines all, (good, λ refused. refl), λ family n said. (same family n).1 said)

  none_told : (bytes blanks : List ℕ) (count : ℕ) → AreBlank bytes blanks count []
      → is_json bytes ≡ false
  none_told bytes blanks count before =
      ap opens_object (mark_of_rest bytes blanks [] count before)

  pub none_added : (bad_lines : BadLines) (input later : Option (List ℕ))
      (Had : Family → ℕ → Type 0) → IfSome input (λ bytes. IsStart bytes None later)
      → IfSome input (λ bytes. IsAdded strict bad_lines bytes Had Had 0)
  none_added bad_lines None later Had start = tt
  none_added bad_lines (Some bytes) later Had (blanks, count, before) =
      let (content, said, none) = none_said bad_lines bytes blanks count before in
      subst (λ t. IsAddedAs strict t bad_lines bytes Had Had 0)
      (sym (none_told bytes blanks count before)) (
        content,
        said,
        λ family n h. (
          λ had. inl had,
          λ e. elim e [ inl had ↦ had | inr is ↦ absurd (none family n is) ],
        ),
      )

  pub none_read : (bad_lines : BadLines) (input later : Option (List ℕ)) (list : Addresses)
      → box_items list.v4 ≡ [] → box_items list.v6 ≡ []
      → IfSome input (λ bytes. IsStart bytes None later)
      → IfSome input (λ bytes. IsFile strict bad_lines bytes list 0)
  none_read bad_lines None later list v4 v6 start = tt
  none_read bad_lines (Some bytes) later list v4 v6 (blanks, count, before) =
      let (all, good, same) = good_behind strict bytes blanks [] count [] 0 before (Ended []) in
      file_as bad_lines bytes false list 0 (none_told bytes blanks count before) (
        all,
        good,
        λ family n h. (λ has. absurd (has_not list v4 v6 family n has), λ said. absurd ((same family n).1 said)),
        λ refused. refl,
      )

  told_as : (bytes blanks rest line : List ℕ) (count byte : ℕ) → AreBlank bytes blanks count rest
      → IsShown line (take_through 10 rest) → mark line ≡ Some byte
      → is_json bytes ≡ (byte == 123)
  told_as bytes blanks rest line count byte before is marked =
      ap opens_object (mark_of_rest bytes blanks rest count before
      ∙ mark_of_first rest byte (shown_mark line (take_through 10 rest) is ∙ marked))

  whole_text : (bytes blanks rest line text : List ℕ) (count : ℕ)
      → AreBlank bytes blanks count rest → line ≡ take_through 10 rest → text ≡ blanks ++ line
      → text ++ drop_through 10 rest ≡ bytes
  whole_text bytes blanks rest line text count before is joined =
      ap (λ t. t ++ drop_through 10 rest) joined
      ∙ ap (λ l. (blanks ++ l) ++ drop_through 10 rest) is
      ∙ append_assoc blanks (take_through 10 rest) (drop_through 10 rest)
      ∙ ap (λ r. blanks ++ r) (through_line rest)
      ∙ blanks_before bytes blanks rest count before

  -- what is read of JSON, and why it is not
  pub json_read : (bad_lines : BadLines) (input later : Option (List ℕ)) (start : Start)
      (text : List ℕ) (list : Addresses)
      → IfSome input (λ bytes. IsStart bytes (Some start) later) → (start.mark == 123) ≡ true
      → text ≡ start.blanks.items ++ start.line.items
      → IfSome later (λ more. IsDocument (text ++ more) list)
      → IfSome input (λ bytes. IsFile strict bad_lines bytes list 0)
  json_read bad_lines None later start text list begins opens is read = tt
  json_read bad_lines (Some bytes) later start text list
      (rest, count, before, number, (some, line, later_is), marked) opens is read =
      file_as bad_lines bytes true list 0
      (told_as bytes start.blanks.items rest start.line.items count start.mark before line marked
      ∙ opens) (
        subst (λ t. IsDocument t list)
            (whole_text bytes start.blanks.items rest start.line.items text count before
            (shown_object start.line.items (take_through 10 rest) start.mark line marked opens) is)
            (subst (λ o. IfSome o (λ more. IsDocument (text ++ more) list)) later_is read),
        refl,
      )

  pub json_unread : (bad_lines : BadLines) (input later : Option (List ℕ)) (start : Start)
      (text : List ℕ) (error : ListError)
      → IfSome input (λ bytes. IsStart bytes (Some start) later) → (start.mark == 123) ≡ true
      → text ≡ start.blanks.items ++ start.line.items
      → IfSome later (λ more. IsJsonReason (text ++ more) error)
      → IfSome input (λ bytes. IsFileReason strict bad_lines bytes error)
  json_unread bad_lines None later start text error begins opens is why = tt
  json_unread bad_lines (Some bytes) later start text error
      (rest, count, before, number, (some, line, later_is), marked) opens is why =
      reason_as bad_lines bytes true error
      (told_as bytes start.blanks.items rest start.line.items count start.mark before line marked
      ∙ opens)
      (subst (λ t. IsJsonReason t error)
      (whole_text bytes start.blanks.items rest start.line.items text count before
      (shown_object start.line.items (take_through 10 rest) start.mark line marked opens) is)
      (subst (λ o. IfSome o (λ more. IsJsonReason (text ++ more) error)) later_is why))

  -- what is read of lines, and why they are not
  pub lines_read : (bad_lines : BadLines) (input later : Option (List ℕ)) (start : Start)
      (result : Result (Addresses × ℕ) ListError)
      → IfSome input (λ bytes. IsStart bytes (Some start) later) → (start.mark == 123) ≡ false
      → ((bytes : List ℕ) → IsFirstLine bytes start.line.items later
      → IfOk result (λ found. IsReadAs strict false bad_lines bytes found.0 found.1))
      → IfOk result (λ found. IfSome input (λ bytes. IsFile strict bad_lines bytes found.0 found.1))
  lines_read bad_lines input later start (Err error) begins other read = tt
  lines_read bad_lines None later start (Ok found) begins other read = tt
  lines_read bad_lines (Some bytes) later start (Ok found)
      (rest, count, before, number, first, marked) other read =
      let (lines, good, just, none) = read rest first in
      let (all, all_good, same) =
      good_behind strict bytes start.blanks.items rest count lines found.1 before good in
      file_as bad_lines bytes false found.0 found.1
      (told_as bytes start.blanks.items rest start.line.items count start.mark before first.1 marked
      ∙ other) (
        all,
        all_good,
        λ family n h. let one = just family n h in
            let alike = same family n in (λ has. alike.0 (one.0 has), λ said. one.1 (alike.1 said)),
        none,
      )

  -- and what lines say is added
  content_behind : (bad_lines : BadLines) (bytes blanks rest : List ℕ) (count others : ℕ)
      (Before After : Family → ℕ → Type 0) → AreBlank bytes blanks count rest
      → IsAddedAs strict false bad_lines rest Before After others
      → IsAddedAs strict false bad_lines bytes Before After others
  content_behind bad_lines bytes blanks rest count others Before After before
      (InJson list, never, added) = absurd never
  content_behind bad_lines bytes blanks rest count others Before After before
      (InLines lines, (good, none), added) =
      let (all, all_good, same) =
      good_behind strict bytes blanks rest count lines others before good in (
        InLines all,
        (all_good, none),
        λ family n h. let one = added family n h in
            let alike = same family n in (
              λ after. elim (one.0 after) [
                | inl had ↦ inl had
                | inr said ↦ inr (alike.0 said)
              ],
              λ e. elim e [
                | inl had ↦ one.1 (inl had)
                | inr said ↦ one.1 (inr (alike.1 said))
              ],
            ),
      )

  pub lines_added : (bad_lines : BadLines) (input later : Option (List ℕ)) (start : Start)
      (Before After : Family → ℕ → Type 0) (result : Result ℕ ListError)
      → IfSome input (λ bytes. IsStart bytes (Some start) later) → (start.mark == 123) ≡ false
      → ((bytes : List ℕ) → IsFirstLine bytes start.line.items later
      → IfOk result (IsAddedAs strict false bad_lines bytes Before After))
      → IfOk result (λ others. IfSome input (λ bytes.
      IsAdded strict bad_lines bytes Before After others))
  lines_added bad_lines input later start Before After (Err error) begins other read = tt
  lines_added bad_lines None later start Before After (Ok others) begins other read = tt
  lines_added bad_lines (Some bytes) later start Before After (Ok others)
      (rest, count, before, number, first, marked) other read =
      subst (λ t. IsAddedAs strict t bad_lines bytes Before After others)
      (sym (told_as bytes start.blanks.items rest start.line.items count start.mark before first.1
      marked ∙ other))
      (content_behind bad_lines bytes start.blanks.items rest count others Before After before
      (read rest first))

  -- what JSON says is added, beside what waits
  still_waiting : (waiting : Waiting) (old new other : Addresses)
      → HasJust new (λ family n. Has old family n ⊎ Has other family n)
      → AreAdded (HasSoFar old waiting) (HasSoFar new waiting) (Has other)
  still_waiting waiting old new other joined family n h =
      let one = joined family n h in (
        λ has. elim has [
          | inl now ↦ elim (one.0 now) [ inl had ↦ inl (inl had) | inr more ↦ inr more ]
          | inr waits ↦ inl (inr waits)
        ],
        λ e. elim e [
          | inl before ↦ elim before [
            | inl had ↦ inl (one.1 (inl had))
            | inr waits ↦ inr waits
          ]
          | inr more ↦ inl (one.1 (inr more))
        ],
      )

  pub json_added : (bad_lines : BadLines) (input later : Option (List ℕ)) (start : Start)
      (text : List ℕ) (waiting : Waiting) (old new : Addresses)
      → IfSome input (λ bytes. IsStart bytes (Some start) later) → (start.mark == 123) ≡ true
      → text ≡ start.blanks.items ++ start.line.items
      → IfSome later (λ more. IsJoined old new (text ++ more))
      → IfSome input (λ bytes.
      IsAdded strict bad_lines bytes (HasSoFar old waiting) (HasSoFar new waiting) 0)
  json_added bad_lines None later start text waiting old new begins opens is read = tt
  json_added bad_lines (Some bytes) later start text waiting old new
      (rest, count, before, number, (some, line, later_is), marked) opens is read =
      let (other, document, joined) =
      subst (λ o. IfSome o (λ more. IsJoined old new (text ++ more))) later_is read in
      subst (λ t. IsAddedAs strict t bad_lines bytes (HasSoFar old waiting) (HasSoFar new waiting) 0)
      (sym (told_as bytes start.blanks.items rest start.line.items count start.mark before line marked
      ∙ opens)) (
        InJson other,
        (
          subst (λ t. IsDocument t other)
              (whole_text bytes start.blanks.items rest start.line.items text count before
              (shown_object start.line.items (take_through 10 rest) start.mark line marked opens) is)
              document,
          refl,
        ),
        still_waiting waiting old new other joined,
      )

  pub lines_unread : {A : Type 0} (bad_lines : BadLines) (input later : Option (List ℕ))
      (start : Start) (result : Result A ListError)
      → IfSome input (λ bytes. IsStart bytes (Some start) later) → (start.mark == 123) ≡ false
      → ((bytes : List ℕ) → IsFirstLine bytes start.line.items later
      → IfErr result (HasFaultFrom strict start.number bytes))
      → (bad_lines ≡ Skipped → IfErr result (λ error. (error ≡ Unread) ⊎ (error ≡ Memory)))
      → IfErr result (λ error. IfSome input (λ bytes. IsFileReason strict bad_lines bytes error))
  lines_unread bad_lines input later start (Ok found) begins other why skipped = tt
  lines_unread bad_lines None later start (Err error) begins other why skipped = tt
  lines_unread bad_lines (Some bytes) later start (Err error)
      (rest, count, before, number, first, marked) other why skipped =
      reason_as bad_lines bytes false error
      (told_as bytes start.blanks.items rest start.line.items count start.mark before first.1 marked
      ∙ other) (
        fault_behind strict bytes start.blanks.items rest count error before
            (subst (λ n. HasFaultFrom strict n rest error) number (why rest first)),
        skipped,
      )

  -- a first line that is taken in, and then all others
  first_added : (Before Now After : Family → ℕ → Type 0) (said : Line) (lines : List Line)
      → AreAdded Before Now (λ family n. SaysAddress family n said)
      → AreAdded Now After (λ family n. IsListed family n lines)
      → AreAdded Before After (λ family n. IsListed family n (said ∷ lines))
  first_added Before Now After said lines first more family n h =
      let one = first family n h in
      let all = more family n h in (
        λ after. elim (all.0 after) [
          | inl now ↦ elim (one.0 now) [ inl had ↦ inl had | inr says ↦ inr (inl says) ]
          | inr listed ↦ inr (inr listed)
        ],
        λ e. elim e [
          | inl had ↦ all.1 (inl (one.1 (inl had)))
          | inr listed ↦ elim listed [
            | inl says ↦ all.1 (inl (one.1 (inr says)))
            | inr others ↦ all.1 (inr others)
          ]
        ],
      )

  others_added : (Before Now After : Family → ℕ → Type 0) (lines : List Line)
      → AreAdded Before Now (λ family n. ⊥)
      → AreAdded Now After (λ family n. IsListed family n lines)
      → AreAdded Before After (λ family n. IsListed family n lines)
  others_added Before Now After lines first more family n h =
      let one = first family n h in
      let all = more family n h in (
        λ after. elim (all.0 after) [
          | inl now ↦ elim (one.0 now) [ inl had ↦ inl had | inr never ↦ absurd never ]
          | inr listed ↦ inr listed
        ],
        λ e. elim e [
          | inl had ↦ all.1 (inl (one.1 (inl had)))
          | inr listed ↦ all.1 (inr listed)
        ],
      )

  first_taken : (bad_lines : BadLines) (bytes line more : List ℕ)
      (Before Now After : Family → ℕ → Type 0) (left_out others : ℕ) → bytes ≢ []
      → IsShown line (take_through 10 bytes) → more ≡ drop_through 10 bytes
      → IsTakenIn strict line Before Now left_out
      → (lines : List Line) × AreGood strict more lines others []
      × AreAdded Now After (λ family n. IsListed family n lines)
      → (bad_lines ≡ Refused → left_out ≡ 0) → (bad_lines ≡ Refused → others ≡ 0)
      → IsAddedAs strict false bad_lines bytes Before After (left_out + others)
  first_taken bad_lines bytes line more Before Now After left_out others some is rest
      (inl (said, says, added, zero)) (lines, good, read) one all =
      let same : others ≡ left_out + others = omega (arith, zero) in (
        InLines (said ∷ lines),
        (
          subst (λ n. AreGood strict bytes (said ∷ lines) n []) same
              (Said bytes said lines others [] some
              (shown_says strict line (take_through 10 bytes) said is says)
              (subst (λ r. AreGood strict r lines others []) rest good)),
          λ refused. omega (arith, zero, all refused),
        ),
        first_added Before Now After said lines added read,
      )
  first_taken bad_lines bytes line more Before Now After left_out others some is rest
      (inr (nothing, same, out)) (lines, good, read) one all =
      let next : suc others ≡ left_out + others = omega (arith, out) in (
        InLines lines,
        (
          subst (λ n. AreGood strict bytes lines n []) next
              (Other bytes lines others [] some
              (shown_nothing strict line (take_through 10 bytes) is nothing)
              (subst (λ r. AreGood strict r lines others []) rest good)),
          λ refused. omega (arith, one refused, all refused),
        ),
        others_added Before Now After lines same read,
      )

  pub all_taken : (bad_lines : BadLines) (line : List ℕ) (later : Option (List ℕ))
      (Before Now After : Family → ℕ → Type 0) (left_out others : ℕ)
      → IsTakenIn strict line Before Now left_out
      → IfSome later (λ more. (lines : List Line) × AreGood strict more lines others []
      × AreAdded Now After (λ family n. IsListed family n lines))
      → (bad_lines ≡ Refused → left_out ≡ 0) → (bad_lines ≡ Refused → others ≡ 0)
      → (bytes : List ℕ) → IsFirstLine bytes line later
      → IsAddedAs strict false bad_lines bytes Before After (left_out + others)
  all_taken bad_lines line None Before Now After left_out others taken read one all bytes
      (some, is, never) = cc
  all_taken bad_lines line (Some more) Before Now After left_out others taken read one all bytes
      (some, is, later_is) =
      first_taken bad_lines bytes line more Before Now After left_out others some is (cc) taken
      read one all

  -- the list has what is taken in, and had nothing before
  pub all_read : (bad_lines : BadLines) (bytes : List ℕ) (none list : Addresses)
      (Before After : Family → ℕ → Type 0) (others : ℕ) → box_items none.v4 ≡ []
      → box_items none.v6 ≡ [] → ((family : Family) (n : ℕ) → Before family n ↔ Has none family n)
      → IsAddedAs strict false bad_lines bytes Before After others → HasJust list After
      → IsReadAs strict false bad_lines bytes list others
  all_read bad_lines bytes none list Before After others v4 v6 was (InJson other, never, added)
      just = absurd never
  all_read bad_lines bytes none list Before After others v4 v6 was
      (InLines lines, (good, all), added) just = (
        lines,
        good,
        λ family n h. let one = added family n h in
            let has = just family n h in (
              λ is. elim (one.0 (has.0 is)) [
                | inl before ↦ absurd (has_not none v4 v6 family n ((was family n).0 before))
                | inr listed ↦ listed
              ],
              λ listed. has.1 (one.1 (inr listed)),
            ),
        all,
      )

  -- a first line that is bad, or is not taken in
  pub first_bad : (line bytes : List ℕ) (number : ℕ) (later : Option (List ℕ)) (error : ListError)
      → (error ≡ Memory) ⊎ IsBadLine strict line number error → IsFirstLine bytes line later
      → HasFaultFrom strict number bytes error
  first_bad line bytes number later error (inl memory) first =
      subst (HasFaultFrom strict number bytes) (sym memory) ([], bytes, Ended bytes, tt)
  first_bad line bytes number later error (inr bad) (some, is, later_is) =
      let place : number ≡ length {A = Line} [] + number = omega arith in (
        [],
        bytes,
        Ended bytes,
        subst (λ k. IsBad strict bytes k error) place
            (bad_line strict number bytes (take_through 10 bytes) number error some refl
            (shown_bad strict line (take_through 10 bytes) number error is bad)),
      )

  pub other_from : (number : ℕ) (bytes : List ℕ) (error : ListError)
      → (error ≡ Unread) ⊎ (error ≡ Memory) → HasFaultFrom strict number bytes error
  other_from number bytes error other = other_fault strict number (Some bytes) error other

  -- one of the others that is bad
  later_bad : (bad_lines : BadLines) (line bytes more : List ℕ) (number left_out : ℕ)
      (Before Now : Family → ℕ → Type 0) (error : ListError) → bytes ≢ []
      → IsShown line (take_through 10 bytes)
      → more ≡ drop_through 10 bytes → IsTakenIn strict line Before Now left_out
      → (bad_lines ≡ Refused → left_out ≡ 0)
      → (bad_lines ≡ Skipped → (error ≡ Unread) ⊎ (error ≡ Memory))
      → HasFaultFrom strict (number + 1) more error → HasFaultFrom strict number bytes error
  later_bad Skipped line bytes more number left_out Before Now error some is rest taken one skipped
      bad = other_from number bytes error (skipped refl)
  later_bad Refused line bytes more number left_out Before Now error some is rest
      (inl (said, says, added, zero)) one skipped bad =
      fault_after strict number bytes said error some
      (shown_says strict line (take_through 10 bytes) said is says)
      (subst (λ r. HasFaultFrom strict (number + 1) r error) rest bad)
  later_bad Refused line bytes more number left_out Before Now error some is rest
      (inr (nothing, same, out)) one skipped bad = absurd (omega (arith, one refl, out))

  pub others_bad : (bad_lines : BadLines) (line : List ℕ) (number left_out : ℕ)
      (later : Option (List ℕ)) (Before Now : Family → ℕ → Type 0) (error : ListError)
      → IsTakenIn strict line Before Now left_out → (bad_lines ≡ Refused → left_out ≡ 0)
      → (bad_lines ≡ Skipped → (error ≡ Unread) ⊎ (error ≡ Memory))
      → IfSome later (λ more. HasFaultFrom strict (number + 1) more error) → (bytes : List ℕ)
      → IsFirstLine bytes line later → HasFaultFrom strict number bytes error
  others_bad bad_lines line number left_out None Before Now error taken one skipped bad bytes
      (some, is, never) = cc
  others_bad bad_lines line number left_out (Some more) Before Now error taken one skipped bad bytes
      (some, is, later_is) =
      later_bad bad_lines line bytes more number left_out Before Now error some is (cc) taken one
      skipped bad

  any_reason : (told : Bool) (bad_lines : BadLines) (bytes : List ℕ) (error : ListError)
      → (error ≡ Unread) ⊎ (error ≡ Memory) → IsReasonAs strict told bad_lines bytes error
  any_reason true bad_lines bytes error (inl unread) = subst (IsJsonReason bytes) (sym unread) tt
  any_reason true bad_lines bytes error (inr memory) = subst (IsJsonReason bytes) (sym memory) tt
  any_reason false bad_lines bytes error other = (
    other_fault strict 1 (Some bytes) error other,
    λ skipped. other,
  )

  -- an input that cannot be read, or not be kept
  pub none_seen : (bad_lines : BadLines) (input : Option (List ℕ)) (error : ListError)
      → (error ≡ Unread) ⊎ (error ≡ Memory)
      → IfSome input (λ bytes. IsFileReason strict bad_lines bytes error)
  none_seen bad_lines None error other = tt
  none_seen bad_lines (Some bytes) error other =
      any_reason (is_json bytes) bad_lines bytes error other
