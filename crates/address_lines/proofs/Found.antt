-- How far a text is searched.
use Rattle.std.proofs.Common.{◌≡◌, ◌≢◌, ℕ, ◌+◌, ◌≤◌, ◌↔◌, Bool, true, false, List, [], ◌∷◌, ◌++◌, length, Option, None, Some, IfSome, append_assoc, ap, refl, subst, sym, ◌∙◌, length-append, arith}
use Rattle.std.proofs.lemmas.Bool.{false≢true}
use Rattle.std.proofs.lemmas.List.{append-nil}
use Rattle.std.specs.Prelude.{IsTrue, if◌then◌else◌}
use Rattle.std.specs.Int.{from_bool}
use Rattle.std.specs.Io.BufRead.{drop_through}
use Rattle.std.specs.Io.KnownBytes.{Appends}
use Rattle.line_program.specs.Lines.{IsLineRead}
use Rattle.line_program.proofs.Listing.{appends_then}
use Rattle.address_lines.specs.Found.{AreFound, line_text, lines_text}
use Rattle.address_lines.specs.Found.AreFound.{Ended, Found, Other}
use Rattle.address_lines.specs.declared.grep.Showing.{Showing}

lines_more : (showing : Showing) (start : List ℕ) (found : List (ℕ × List ℕ)) (one : ℕ × List ℕ)
    → lines_text showing start (found ++ one ∷ [])
    ≡ lines_text showing start found ++ line_text showing start one
lines_more showing start [] one = append-nil (line_text showing start one)
lines_more showing start (first ∷ found) one =
    ap (λ text. line_text showing start first ++ text) (lines_more showing start found one)
    ∙ sym (append_assoc (line_text showing start first) (lines_text showing start found)
    (line_text showing start one))

-- one line more is found at most
pub one_at_most : (is_found : Bool) → from_bool is_found ≤ 1
one_at_most true = omega arith
one_at_most false = omega arith

module _ (IsSuch : List ℕ → Type 0) (showing : Showing) (start : List ℕ) where
  -- the lines of the input before the one of this number are searched
  pub record IsSearchedTo (input : List ℕ) (left before now : Option (List ℕ)) (number count : ℕ)
      : Type 0 where
    pub remaining : List ℕ
    pub left_is : left ≡ Some remaining
    pub found : List (ℕ × List ℕ)
    pub count_is : count ≡ length found
    pub goes_on : (more : List (ℕ × List ℕ)) (rest : List ℕ)
        → AreFound IsSuch number remaining more rest
        → AreFound IsSuch 1 input (found ++ more) rest
    pub appended : Appends before now (lines_text showing start found)

  one_searched : (input : List ℕ) (left later before now next : Option (List ℕ))
      (number count : ℕ) (line : List ℕ) (is_found : Bool)
      → (searched : IsSearchedTo input left before now number count)
      → IsLineRead (Some searched.remaining) later line → IsTrue is_found ↔ IsSuch line
      → Appends now next (if is_found then line_text showing start (number, line) else [])
      → IsSearchedTo input later before next (number + 1) (count + from_bool is_found)
  one_searched input left later before now next number count line true searched
      (some, later_is, is_line) told appended = record {
        remaining = drop_through 10 searched.remaining;
        left_is = later_is;
        found = searched.found ++ (number, line) ∷ [];
        count_is =
            let count_is = searched.count_is in
            omega (arith, count_is, length-append searched.found ((number, line) ∷ []));
        goes_on =
            λ more rest all. subst (λ found. AreFound IsSuch 1 input found rest)
            (sym (append_assoc searched.found ((number, line) ∷ []) more))
            (searched.goes_on ((number, line) ∷ more) rest
            (subst (λ l. AreFound IsSuch number searched.remaining ((number, l) ∷ more) rest)
            (sym is_line)
            (Found number searched.remaining more rest some (subst IsSuch is_line (told.0 refl))
            all)));
        appended =
            subst (Appends before next) (sym (lines_more showing start searched.found (number, line)))
            (appends_then before now next (lines_text showing start searched.found)
            (line_text showing start (number, line)) searched.appended appended);
      }
  one_searched input left later before now next number count line false searched
      (some, later_is, is_line) told appended = record {
        remaining = drop_through 10 searched.remaining;
        left_is = later_is;
        found = searched.found;
        count_is = let count_is = searched.count_is in omega (arith, count_is);
        goes_on =
            λ more rest all. searched.goes_on more rest
            (Other number searched.remaining more rest some
            (λ such. false≢true (told.1 (subst IsSuch (sym is_line) such))) all);
        appended =
            subst (Appends before next) (append-nil (lines_text showing start searched.found))
            (appends_then before now next (lines_text showing start searched.found) []
            searched.appended appended);
      }

  pub line_searched : (input left later before now next : Option (List ℕ))
      (number count added : ℕ) (line : List ℕ) (is_found : Bool) → added ≡ from_bool is_found
      → IfSome input (λ bytes. IsSearchedTo bytes left before now number count)
      → IsLineRead left later line → IsTrue is_found ↔ IsSuch line
      → Appends now next (if is_found then line_text showing start (number, line) else [])
      → IfSome input
      (λ bytes. IsSearchedTo bytes later before next (number + 1) (count + added))
  line_searched None left later before now next number count added line is_found more searched
      read told appended = tt
  line_searched (Some bytes) left later before now next number count added line is_found more
      searched read told appended =
      subst (λ n. IsSearchedTo bytes later before next (number + 1) (count + n)) (sym more)
      (one_searched bytes left later before now next number count line is_found searched
      (subst (λ o. IsLineRead o later line) searched.left_is read) told appended)

  -- where no line is left, the whole text is searched
  pub all_searched : (input left before now : Option (List ℕ)) (number count : ℕ)
      → IfSome input (λ bytes. IsSearchedTo bytes left before now number count)
      → IfSome left (λ bytes. bytes ≡ [])
      → IfSome input (λ bytes. (found : List (ℕ × List ℕ)) × AreFound IsSuch 1 bytes found []
      × (count ≡ length found) × Appends before now (lines_text showing start found))
  all_searched None left before now number count searched ended = tt
  all_searched (Some bytes) left before now number count searched ended =
      let empty : searched.remaining ≡ [] =
      subst (λ o. IfSome o (λ bytes. bytes ≡ [])) searched.left_is ended in (
        searched.found,
        subst (λ found. AreFound IsSuch 1 bytes found []) (append-nil searched.found)
            (searched.goes_on [] []
            (subst (λ rest. AreFound IsSuch number rest [] []) (sym empty) (Ended number []))),
        searched.count_is,
        searched.appended,
      )

  -- and else its lines up to what is left
  pub searched_so_far : (input left before now : Option (List ℕ)) (number count : ℕ)
      → IfSome input (λ bytes. IsSearchedTo bytes left before now number count)
      → IfSome input (λ bytes. (found : List (ℕ × List ℕ)) × (rest : List ℕ)
      × AreFound IsSuch 1 bytes found rest × Appends before now (lines_text showing start found))
  searched_so_far None left before now number count searched = tt
  searched_so_far (Some bytes) left before now number count searched = (
    searched.found,
    searched.remaining,
    subst (λ found. AreFound IsSuch 1 bytes found searched.remaining) (append-nil searched.found)
        (searched.goes_on [] searched.remaining (Ended number searched.remaining)),
    searched.appended,
  )
