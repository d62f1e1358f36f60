-- The row and the tree of a block, by those of its halves.
use Rattle.std.proofs.Common.{◌≡◌, ℕ, suc, ◌+◌, ◌-◌, ◌*◌, ◌≤◌, ◌<◌, ◌^◌, Bool, true, false, if◌then◌else◌, min, List, [], ◌∷◌, ◌++◌, append-nil, append_assoc, length, inl, inr, ap, sym, subst, ◌∙◌, arith, pow_pos}
use Rattle.std.proofs.Math.Nat.{add-mul, mul-add}
use Rattle.std.proofs.lemmas.Bool.{cases_lt}
use Rattle.least_covers.specs.Rows.{Falls, IsJoinedSoFar, IsRow, at}
use Rattle.least_covers.specs.Runs.{AreLeft, IsUniform, has}
use Rattle.least_covers.specs.Trees.{AreMade, HasTree, IsFound, IsGathered, IsJoined, IsTree, Tree, Whole, Divided, chosen, nodes_of, shares_of}
use Rattle.least_covers.specs.declared.marks.Marks.{Marks}
use Rattle.least_covers.specs.declared.marks.Node.{Node}
use Rattle.least_covers.proofs.Bounds.{both_row, high_row, low_row, same_row, whole_row}
use Rattle.least_covers.proofs.Made.{IsAligned, both_made, high_made, low_made, same_made, whole_made}

pub gathered_whole : (most : ℕ) (runs left : List (ℕ × ℕ)) (free from : ℕ) (is_held : Bool)
    (old new : Marks) (room : ℕ) (row : List ℕ) → IsUniform runs free from is_held
    → AreLeft (from + 2 ^ free) left → ((n : ℕ) → from + 2 ^ free ≤ n → has left n ≡ has runs n)
    → room ≡ 0 → row ≡ (if is_held then 0 ∷ [] else [])
    → new.nodes.items ≡ (if is_held then old.nodes.items ++ record {
      network = from;
      free = free;
      is_divided = false;
      shares = 0;
    } ∷ [] else old.nodes.items)
    → new.shares ≡ old.shares → IsGathered most runs free from old new room row left
gathered_whole most runs left free from true old new room row uniform ahead alike room_is row_is nodes
    shares =
    let some = pow_pos free in
    let all : (n : ℕ) → n < 2 ^ free → has runs (from + n) ≡ true =
    (λ n less. uniform (from + n) (omega arith, omega arith)) in
    rw (room_is, row_is) (record {
      found = (
        whole_row most free (λ n. has runs (from + n)) all,
        (
          Whole from free,
          λ width aligned fits.
              whole_made width free from runs (λ n low high. uniform n (low, high)) aligned fits,
          (nodes, ap (λ v. v.items) shares ∙ sym (append-nil old.shares.items)),
        ),
      );
      small = some;
      ahead = ahead;
      alike = alike;
    })
gathered_whole most runs left free from false old new room row uniform ahead alike room_is row_is nodes
    shares =
    let some = pow_pos free in
    rw (room_is, row_is) (record {
      found = (
        λ n less. uniform (from + n) (omega arith, omega arith),
        nodes,
        ap (λ v. v.items) shares,
      );
      small = some;
      ahead = ahead;
      alike = alike;
    })

-- what a row says of more prefixes, where there is none too
pub found_falls : (most : ℕ) (runs : List (ℕ × ℕ)) (free from : ℕ) (old new : Marks) (room : ℕ)
    (row : List ℕ) → IsFound most runs free from old new room row → Falls row
found_falls most runs free from old new room [] is i j one le = omega arith
found_falls most runs free from old new room (v ∷ row) is i j one le = is.0.falls i j one le

pub found_within : (most : ℕ) (runs : List (ℕ × ℕ)) (free from : ℕ) (old new : Marks) (room : ℕ)
    (row : List ℕ) → IsFound most runs free from old new room row → at row 1 ≤ room
found_within most runs free from old new room [] is = omega arith
found_within most runs free from old new room (v ∷ row) is = is.0.within

module _ (most : ℕ) (runs mid : List (ℕ × ℕ)) (less from : ℕ)
    (alike : (n : ℕ) → from + 2 ^ less ≤ n → has mid n ≡ has runs n) where
  upper_is : (n : ℕ) → has runs (from + (2 ^ less + n)) ≡ has mid ((from + 2 ^ less) + n)
  upper_is n =
      let z : from + (2 ^ less + n) ≡ (from + 2 ^ less) + n = omega arith in
      ap (λ m. has runs m) z ∙ sym (alike ((from + 2 ^ less) + n) (omega arith))

  low_aligned : IsAligned from (suc less) → IsAligned from less
  low_aligned h =
      let is = h.1 in
      let e = mul-add h.0 (2 ^ less) (2 ^ less) in
      let f = add-mul h.0 h.0 (2 ^ less) in
      let z : 2 ^ suc less ≡ 2 ^ less + 2 ^ less = omega arith in
      (h.0 + h.0, is ∙ ap (λ x. h.0 * x) z ∙ e ∙ sym f)

  high_aligned : IsAligned from (suc less) → IsAligned (from + 2 ^ less) less
  high_aligned h =
      let low = low_aligned h in
      let is = low.1 in
      let f = add-mul low.0 1 (2 ^ less) in (low.0 + 1, omega (arith, is, f))

  second_made : (row : List ℕ) (t : Tree) → IsTree mid less (from + 2 ^ less) row t → (width : ℕ)
      → IsAligned from (suc less) → from + 2 ^ suc less ≤ 2 ^ width
      → AreMade width runs less (from + 2 ^ less) row (chosen width t)
  second_made row t tree width aligned fits =
      same_made width less (from + 2 ^ less) runs mid row (chosen width t)
      (λ n low high. alike n low) (tree width (high_aligned aligned) (omega arith))

  first_made : (row : List ℕ) (t : Tree) → IsTree runs less from row t → (width : ℕ)
      → IsAligned from (suc less) → from + 2 ^ suc less ≤ 2 ^ width
      → AreMade width runs less from row (chosen width t)
  first_made row t tree width aligned fits = tree width (low_aligned aligned) (omega arith)

  second_row : (room : ℕ) (row : List ℕ)
      → IsRow most less (λ n. has mid ((from + 2 ^ less) + n)) room row
      → IsRow most less (λ n. has runs (from + (2 ^ less + n))) room row
  second_row room row is =
      same_row most less room (λ n. has mid ((from + 2 ^ less) + n))
      (λ n. has runs (from + (2 ^ less + n))) row (λ n few. upper_is n) is

  module _ (old one two new : Marks) (low_room high_room : ℕ) where
    found_none : IsFound most runs less from old one low_room []
        → IsFound most mid less (from + 2 ^ less) one two high_room [] → new ≡ two → (room : ℕ)
        → IsFound most runs (suc less) from old new room []
    found_none low high same room = (
      λ n few. elim (cases_lt n (2 ^ less)) [
        | inl under ↦ low.0 n under
        | inr above ↦
            let m : ℕ = n - 2 ^ less in
            let z : n ≡ 2 ^ less + m = omega arith in
            ap (λ k. has runs (from + k)) z ∙ upper_is m ∙ high.0 m (omega arith)
      ],
      ap (λ v. v.nodes.items) same ∙ high.1 ∙ low.1,
      ap (λ v. v.shares.items) same ∙ high.2 ∙ low.2,
    )

    found_second : (h : ℕ) (highs : List ℕ) → IsFound most runs less from old one low_room []
        → IsFound most mid less (from + 2 ^ less) one two high_room (h ∷ highs) → new ≡ two
        → IsFound most runs (suc less) from old new (high_room + 2 ^ less) (h ∷ highs)
    found_second h highs low high same =
        let t : Tree = high.1.0 in (
          high_row most less (λ n. has runs (from + n)) high_room 0 (h ∷ highs) low.0
              (second_row high_room (h ∷ highs) high.0),
          (
            t,
            λ width aligned fits. high_made width less from runs (h ∷ highs) (chosen width t)
                (λ n from_low under.
                let m : ℕ = n - from in
                let z : n ≡ from + m = omega arith in
                ap (λ k. has runs k) z ∙ low.0 m (omega arith))
                (second_made (h ∷ highs) t high.1.1 width aligned fits),
            (
              ap (λ v. v.nodes.items) same ∙ high.1.2.0 ∙ ap (λ x. x ++ nodes_of t) low.1,
              ap (λ v. v.shares.items) same ∙ high.1.2.1 ∙ ap (λ x. x ++ shares_of t) low.2,
            ),
          ),
        )

    found_first : (l : ℕ) (lows : List ℕ) → IsFound most runs less from old one low_room (l ∷ lows)
        → IsFound most mid less (from + 2 ^ less) one two high_room [] → new ≡ two
        → IsFound most runs (suc less) from old new (low_room + 2 ^ less) (l ∷ lows)
    found_first l lows low high same =
        let t : Tree = low.1.0 in (
          low_row most less (λ n. has runs (from + n)) low_room 0 (l ∷ lows)
              (λ n few. upper_is n ∙ high.0 n few) low.0,
          (
            t,
            λ width aligned fits. low_made width less from runs (l ∷ lows) (chosen width t)
                (λ n above under.
                let m : ℕ = n - (from + 2 ^ less) in
                let z : n ≡ from + (2 ^ less + m) = omega arith in
                ap (λ k. has runs k) z ∙ upper_is m ∙ high.0 m (omega arith))
                (first_made (l ∷ lows) t low.1.1 width aligned fits),
            (
              ap (λ v. v.nodes.items) same ∙ high.1 ∙ low.1.2.0,
              ap (λ v. v.shares.items) same ∙ high.2 ∙ low.1.2.1,
            ),
          ),
        )

    module _ (l h : ℕ) (lows highs row : List ℕ) (room : ℕ) where
      found_tree : (shares : List ℕ) → 0 < most
          → IsFound most runs less from old one low_room (l ∷ lows)
          → IsFound most mid less (from + 2 ^ less) one two high_room (h ∷ highs)
          → room ≡ low_room + high_room
          → IsJoinedSoFar room (l ∷ lows) (h ∷ highs) shares row
          → length row ≡ min most (length (l ∷ lows) + length (h ∷ highs))
          → new.nodes.items ≡ two.nodes.items ++ record {
            network = from;
            free = suc less;
            is_divided = true;
            shares = length shares;
          } ∷ []
          → new.shares.items ≡ two.shares.items ++ shares
          → IsRow most (suc less) (λ n. has runs (from + n)) room row
          × ((t : Tree) × IsTree runs (suc less) from row t
          × HasTree t old.nodes.items old.shares.items new)
      found_tree shares some low high room_is so whole nodes others =
          let so_too : IsJoinedSoFar (low_room + high_room) (l ∷ lows) (h ∷ highs) shares row = rw room_is at so in
          let t : Tree = low.1.0 in
          let s : Tree = high.1.0 in
          let node : Node = record { network = from; free = suc less; is_divided = true; shares = length shares } in
          let all = both_row most less (λ n. has runs (from + n)) low_room high_room (l ∷ lows) (h ∷ highs)
          shares row some (omega arith) (omega arith) low.0 (second_row high_room (h ∷ highs) high.0) so_too whole in
          let count = all.count in
          rw room_is (
            all,
            (
              Divided from (suc less) shares t s,
              λ width aligned fits. both_made width less from runs (low_room + high_room) (l ∷ lows)
                  (h ∷ highs) shares row (chosen width t) (chosen width s) so_too (omega arith) count
                  (first_made (l ∷ lows) t low.1.1 width aligned fits)
                  (second_made (h ∷ highs) s high.1.1 width aligned fits) aligned fits,
              (
                nodes ∙ ap (λ x. x ++ node ∷ []) (high.1.2.0 ∙ ap (λ x. x ++ nodes_of s) low.1.2.0
                    ∙ append_assoc old.nodes.items (nodes_of t) (nodes_of s))
                    ∙ append_assoc old.nodes.items (nodes_of t ++ nodes_of s) (node ∷ []),
                others ∙ ap (λ x. x ++ shares) (high.1.2.1 ∙ ap (λ x. x ++ shares_of s) low.1.2.1
                    ∙ append_assoc old.shares.items (shares_of t) (shares_of s))
                    ∙ append_assoc old.shares.items (shares_of t ++ shares_of s) shares,
              ),
            ),
          )

found_row : (most : ℕ) (runs : List (ℕ × ℕ)) (free from : ℕ) (old new : Marks) (room : ℕ)
    (row : List ℕ) → 1 ≤ length row → IsRow most free (λ n. has runs (from + n)) room row
    × ((t : Tree) × IsTree runs free from row t × HasTree t old.nodes.items old.shares.items new)
    → IsFound most runs free from old new room row
found_row most runs free from old new room [] some is = absurd (omega arith)
found_row most runs free from old new room (v ∷ row) some is = is

module _ (most : ℕ) (runs mid left : List (ℕ × ℕ)) (less from : ℕ) (old one two new : Marks)
    (low_room high_room room : ℕ) (row : List ℕ) where
  joined_found : (lows highs : List ℕ) → 0 < most
      → IsGathered most runs less from old one low_room lows mid
      → IsGathered most mid less (from + 2 ^ less) one two high_room highs left
      → IsJoined most from (suc less) two new room low_room high_room lows highs row
      → IsFound most runs (suc less) from old new room row × (room < 2 ^ suc less)
  joined_found [] [] some low high joined =
      let is = joined.0 in
      let z : suc less - 1 ≡ less = omega arith in
      let s = high.small in
      let e : 2 ^ (suc less - 1) ≡ 2 ^ less = ap (λ k. 2 ^ k) z in (
        rw joined.1 (found_none most runs mid less from low.alike old one two new low_room high_room low.found high.found joined.2 room),
        omega (arith, is, e),
      )
  joined_found [] (h ∷ highs) some low high joined =
      let z : suc less - 1 ≡ less = omega arith in
      let s = high.small in
      let is : room ≡ high_room + 2 ^ less = rw z at joined.0 in (
        rw (joined.1, is) (found_second most runs mid less from low.alike old one two new low_room high_room h highs low.found high.found joined.2),
        omega (arith, is),
      )
  joined_found (l ∷ lows) [] some low high joined =
      let z : suc less - 1 ≡ less = omega arith in
      let s = low.small in
      let is : room ≡ low_room + 2 ^ less = rw z at joined.0 in (
        rw (joined.1, is) (found_first most runs mid less from low.alike old one two new low_room high_room l lows low.found high.found joined.2),
        omega (arith, is),
      )
  joined_found (l ∷ lows) (h ∷ highs) some low high joined =
      let a = low.small in
      let b = high.small in
      let is = joined.0 in
      let whole = joined.1.2 in (
        found_row most runs (suc less) from old new room row (omega (arith, whole))
            (found_tree most runs mid less from low.alike old one two new low_room high_room l h lows highs row
            room joined.1.0 some low.found high.found is joined.1.1 whole joined.1.3 joined.1.4),
        omega (arith, is),
      )

  pub gathered_both : (lows highs : List ℕ) (free middle : ℕ) → free ≡ suc less
      → middle ≡ from + 2 ^ less → 0 < most
      → IsGathered most runs less from old one low_room lows mid
      → IsGathered most mid less middle one two high_room highs left
      → IsJoined most from free two new room low_room high_room lows highs row
      → IsGathered most runs free from old new room row left
  gathered_both lows highs free middle e m some low high joined =
      let high_too : IsGathered most mid less (from + 2 ^ less) one two high_room highs left = rw m at high in
      let joined_too : IsJoined most from (suc less) two new room low_room high_room lows highs row = rw e at joined in
      let both = joined_found lows highs some low high_too joined_too in
      let end : (from + 2 ^ less) + 2 ^ less ≡ from + 2 ^ suc less = omega arith in
      rw e (record {
        found = both.0;
        small = both.1;
        ahead = subst (λ n. AreLeft n left) end high_too.ahead;
        alike = λ n past. high_too.alike n (omega arith) ∙ low.alike n (omega arith);
      })
