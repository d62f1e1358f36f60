-- Which bytes the bounds of a piece hold, and that a piece that meets no stored range holds none of
-- its bytes.
use Rattle.std.proofs.Common.{arith, ◌≡◌, ◌≤◌, ◌<◌, ◌+◌, ◌-◌, ◌⊎◌, ◌↔◌, ℕ, zero, suc, false, List, [], ◌∷◌, None, min, inl, inr, refl, subst}
use Rattle.std.specs.declared.cmp.Ordering.{Ordering}
use Rattle.std.specs.declared.cmp.Ordering.TheVariants.{Less, Equal, Greater}
use Rattle.std.specs.List.{AllByRecursion as Every}
use Rattle.std.specs.Ordering.{is_gt, ordering_then}
use Rattle.std.specs.declared.ops.Bound.{Bound}
use Rattle.std.specs.declared.ops.Bound.TheVariants.{Included, Excluded, Unbounded}
use Rattle.std.proofs.lemmas.Bool.{cases_lt}
use Rattle.std.proofs.lemmas.Bool.Decides.{nat_tests}
use Rattle.btree_range_map.specs.AnyRange.{AnyRange}
use Rattle.btree_range_map.specs.Counted.{counted_lawful}
use Rattle.btree_range_map.specs.HeldKeys.{held_or_not}
use Rattle.btree_range_map.specs.Intervals.{Any, Le}
use Rattle.btree_range_map.specs.Item.{Item}
use Rattle.btree_range_map.specs.KeySets.{HoldsAlso, HoldsKey, IsStoredSet}
use Rattle.btree_range_map.specs.Lookups.{BindsAllOf, Overlap}
use Rattle.btree_range_map.specs.Names.{range_from_to, range_inclusive, u64_order}
use Rattle.btree_range_map.specs.Neighbours.{EachNext}
use Rattle.btree_range_map.specs.PieceLists.{AreGapsWithin}
use Rattle.btree_range_map.specs.Pieces.{IsFreePart, IsPiece}
use Rattle.btree_range_map.specs.Relations.{LiesBefore}
use Rattle.btree_range_map.specs.RangeOrder.{range_cmp}
use Rattle.btree_range_map.specs.Position.{start_position, end_position, position_cmp}
use Rattle.btree_range_map.specs.Range.{StartHolds, EndHolds, Holds, IsEmptyRange, IsBoundOfKey, IsKeyRange}
use Rattle.btree_range_map.specs.Unsigned.{unsigned_counted}
use Rattle.tour.specs.Coverage.{Bytes, HasCome, IsMissing, IsWhole, first_of, past_of}

start_holds : (b : Bound ℕ) (m : ℕ) → first_of b ≤ m → StartHolds u64_order b m
start_holds (Included a) m h = grind (arith, nat_tests)
start_holds (Excluded a) m h = grind (arith, nat_tests)
start_holds Unbounded m h = tt

start_held : (b : Bound ℕ) (m : ℕ) → StartHolds u64_order b m → first_of b ≤ m
start_held (Included a) m h = grind (arith, nat_tests)
start_held (Excluded a) m h = grind (arith, nat_tests)
start_held Unbounded m h = omega arith

end_held : (b : Bound ℕ) (m : ℕ) → m ≤ 18446744073709551615 → EndHolds u64_order b m → m < past_of b
end_held (Included b) m fits h = grind (arith, nat_tests)
end_held (Excluded b) m fits h = grind (arith, nat_tests)
end_held Unbounded m fits h = omega arith

end_holds : (b : Bound ℕ) (m : ℕ) → m < past_of b → EndHolds u64_order b m
end_holds (Included b) m h = grind (arith, nat_tests)
end_holds (Excluded b) m h = grind (arith, nat_tests)
end_holds Unbounded m h = tt

-- of a range that is not empty
some_byte : (s e : Bound ℕ) → IsBoundOfKey u64_order s → IsBoundOfKey u64_order e
    → (position_cmp u64_order.cmp (start_position u64_order s) (end_position u64_order e) ≡ Greater
    → ⊥) → first_of s < past_of e
some_byte (Included a) (Included b) known known' some = grind (arith, nat_tests)
some_byte (Included a) (Excluded b) known known' some = grind (arith, nat_tests)
some_byte (Included a) Unbounded known known' some = grind (arith, nat_tests)
some_byte (Excluded a) (Included b) known known' some = grind (arith, nat_tests)
some_byte (Excluded a) (Excluded b) known known' some = grind (arith, nat_tests)
some_byte (Excluded a) Unbounded known known' some = grind (arith, nat_tests)
some_byte Unbounded (Included b) known known' some = grind (arith, nat_tests)
some_byte Unbounded (Excluded b) known known' some = grind (arith, nat_tests)
some_byte Unbounded Unbounded known known' some = grind (arith, nat_tests)

-- a range that lies before another
bytes_before : (e s : Bound ℕ) → IsBoundOfKey u64_order e → IsBoundOfKey u64_order s
    → position_cmp u64_order.cmp (end_position u64_order e) (start_position u64_order s) ≡ Less
    → past_of e ≤ first_of s
bytes_before (Included b) (Included a) known known' less = grind (arith, nat_tests)
bytes_before (Included b) (Excluded a) known known' less = grind (arith, nat_tests)
bytes_before (Included b) Unbounded known known' less = grind (arith, nat_tests)
bytes_before (Excluded b) (Included a) known known' less = grind (arith, nat_tests)
bytes_before (Excluded b) (Excluded a) known known' less = grind (arith, nat_tests)
bytes_before (Excluded b) Unbounded known known' less = grind (arith, nat_tests)
bytes_before Unbounded (Included a) known known' less = grind (arith, nat_tests)
bytes_before Unbounded (Excluded a) known known' less = grind (arith, nat_tests)
bytes_before Unbounded Unbounded known known' less = grind (arith, nat_tests)

-- where an end and a start hold one byte, the one is not before the other
not_before : (e s : Bound ℕ) (m : ℕ) → m ≤ 18446744073709551615 → EndHolds u64_order e m
    → StartHolds u64_order s m
    → ¬ (position_cmp u64_order.cmp (end_position u64_order e) (start_position u64_order s) ≡ Less)
not_before (Included b) (Included a) m fits h h' less = grind (arith, nat_tests)
not_before (Included b) (Excluded a) m fits h h' less = grind (arith, nat_tests)
not_before (Included b) Unbounded m fits h h' less = grind (arith, nat_tests)
not_before (Excluded b) (Included a) m fits h h' less = grind (arith, nat_tests)
not_before (Excluded b) (Excluded a) m fits h h' less = grind (arith, nat_tests)
not_before (Excluded b) Unbounded m fits h h' less = grind (arith, nat_tests)
not_before Unbounded (Included a) m fits h h' less = grind (arith, nat_tests)
not_before Unbounded (Excluded a) m fits h h' less = grind (arith, nat_tests)
not_before Unbounded Unbounded m fits h h' less = grind (arith, nat_tests)

overlap : (r s : AnyRange ℕ) (m : ℕ) → m ≤ 18446744073709551615 → Holds u64_order r m
    → Holds u64_order s m → Overlap u64_order r s
overlap r s m fits one other =
    (not_before r.end s.start m fits one.1 other.0, not_before s.end r.start m fits other.1 one.0)

none_come : (items : List (Item (AnyRange ℕ) (Unit {0}))) (part : AnyRange ℕ) (m : ℕ)
    → m ≤ 18446744073709551615 → Holds u64_order part m
    → Every (λ i. ¬ Overlap u64_order i.key part) items → ¬ HoldsKey u64_order items m
none_come [] part m fits holds free none = none
none_come (i ∷ items) part m fits holds free some = elim some [
  | inl here ↦ free.0 (overlap i.key part m fits here holds)
  | inr later ↦ none_come items part m fits holds free.1 later
]

-- a byte has come, or it has not
come_or_not : (come : List (Item (AnyRange ℕ) (Unit {0}))) (byte : ℕ)
    → HoldsKey u64_order come byte ⊎ (¬ HoldsKey u64_order come byte)
come_or_not [] byte = inr (λ none. none)
come_or_not (i ∷ rest) byte =
    elim (held_or_not u64_order (counted_lawful (unsigned_counted 18446744073709551615)) i.key byte) [
      | inl here ↦ inl (inl here)
      | inr not ↦ elim (come_or_not rest byte) [
        | inl later ↦ inl (inr later)
        | inr none ↦ inr (λ h. elim h [ inl here ↦ not here | inr later ↦ none later ])
      ]
    ]

-- an end that is not before a start
reaches : (e s : Bound ℕ) → IsBoundOfKey u64_order e → IsBoundOfKey u64_order s
    → ¬ (position_cmp u64_order.cmp (end_position u64_order e) (start_position u64_order s) ≡ Less)
    → first_of s < past_of e
reaches (Included b) (Included a) known known' reached = grind (arith, nat_tests)
reaches (Included b) (Excluded a) known known' reached = grind (arith, nat_tests)
reaches (Included b) Unbounded known known' reached = grind (arith, nat_tests)
reaches (Excluded b) (Included a) known known' reached = grind (arith, nat_tests)
reaches (Excluded b) (Excluded a) known known' reached = grind (arith, nat_tests)
reaches (Excluded b) Unbounded known known' reached = grind (arith, nat_tests)
reaches Unbounded (Included a) known known' reached = grind (arith, nat_tests)
reaches Unbounded (Excluded a) known known' reached = grind (arith, nat_tests)
reaches Unbounded Unbounded known known' reached = grind (arith, nat_tests)

-- a range that holds no byte of a piece does not meet it
apart : (r part : AnyRange ℕ) → IsKeyRange u64_order r → ¬ IsEmptyRange u64_order r
    → IsKeyRange u64_order part → first_of part.start < past_of part.end
    → ((byte : ℕ) → first_of part.start ≤ byte → byte < past_of part.end → ¬ Holds u64_order r byte)
    → ¬ Overlap u64_order r part
apart r part known some known' wide none meet =
    let low = reaches r.end part.start known.1 known'.0 meet.0 in
    let high = reaches part.end r.start known'.1 known.0 meet.1 in
    let own = some_byte r.start r.end known.0 known.1 some in
    elim (cases_lt (first_of r.start) (first_of part.start)) [
      | inl less ↦ none (first_of part.start) (omega arith) wide (
        start_holds r.start (first_of part.start) (omega (arith, less)),
        end_holds r.end (first_of part.start) low,
      )
      | inr not ↦ none (first_of r.start) not high (
        start_holds r.start (first_of r.start) (omega arith),
        end_holds r.end (first_of r.start) own,
      )
    ]

all_apart : (items : List (Item (AnyRange ℕ) (Unit {0}))) (part : AnyRange ℕ)
    → Every (λ i. IsKeyRange u64_order i.key) items
    → Every (λ i. ¬ IsEmptyRange u64_order i.key) items → IsKeyRange u64_order part
    → first_of part.start < past_of part.end
    → ((byte : ℕ) → first_of part.start ≤ byte → byte < past_of part.end
    → ¬ HoldsKey u64_order items byte)
    → Every (λ i. ¬ Overlap u64_order i.key part) items
all_apart [] part known some known' wide none = tt
all_apart (i ∷ items) part known some known' wide none = (
  apart i.key part known.0 some.0 known' wide (λ byte low high holds. none byte low high (inl holds)),
  all_apart items part known.1 some.1 known' wide
      (λ byte low high later. none byte low high (inr later)),
)

-- how the positions of starts and ends lie to those of single bytes
start_by : (s : Bound ℕ) (m : ℕ) → IsBoundOfKey u64_order s → m ≤ 18446744073709551615
    → Le (position_cmp u64_order.cmp) (start_position u64_order s) (start_position u64_order (Included m))
    → first_of s ≤ m
start_by (Included a) m known fits le = grind (arith, nat_tests)
start_by (Excluded a) m known fits le = grind (arith, nat_tests)
start_by Unbounded m known fits le = omega arith

starts_from : (s : Bound ℕ) (m : ℕ) → m ≤ first_of s → m ≤ 18446744073709551615
    → Le (position_cmp u64_order.cmp) (start_position u64_order (Included m)) (start_position u64_order s)
starts_from (Included a) m from fits = grind (arith, nat_tests)
starts_from (Excluded a) m from fits = grind (arith, nat_tests)
starts_from Unbounded m from fits = grind (arith, nat_tests)

starts_alike : (s : Bound ℕ) → Le (position_cmp u64_order.cmp) (start_position u64_order s)
    (start_position u64_order s)
starts_alike (Included a) = grind (arith, nat_tests)
starts_alike (Excluded a) = grind (arith, nat_tests)
starts_alike Unbounded = grind (arith, nat_tests)

end_past : (e : Bound ℕ) (m : ℕ) → m ≤ 18446744073709551615
    → Le (position_cmp u64_order.cmp) (end_position u64_order (Included m)) (end_position u64_order e)
    → m < past_of e
end_past (Included b) m fits le = grind (arith, nat_tests)
end_past (Excluded b) m fits le = grind (arith, nat_tests)
end_past Unbounded m fits le = omega (arith, fits)

ends_by : (e : Bound ℕ) (m : ℕ) → past_of e ≤ m + 1 → m < 18446744073709551615
    → Le (position_cmp u64_order.cmp) (end_position u64_order e) (end_position u64_order (Included m))
ends_by (Included b) m past fits = grind (arith, nat_tests)
ends_by (Excluded b) m past fits = grind (arith, nat_tests)
ends_by Unbounded m past fits = absurd (omega (arith, past, fits))

ends_inside : (m size : ℕ) → m < size → size ≤ 18446744073709551615
    → Le (position_cmp u64_order.cmp) (end_position u64_order (Included m))
    (end_position u64_order (Excluded size))
ends_inside m size less fits = grind (arith, nat_tests)

end_inside : (e : Bound ℕ) (size : ℕ) → IsBoundOfKey u64_order e → size ≤ 18446744073709551615
    → Le (position_cmp u64_order.cmp) (end_position u64_order e) (end_position u64_order (Excluded size))
    → past_of e ≤ size
end_inside (Included b) size known fits le = grind (arith, nat_tests)
end_inside (Excluded b) size known fits le = grind (arith, nat_tests)
end_inside Unbounded size known fits le = grind (arith, nat_tests)

-- the piece from a start up to a byte
abbrev up_to : Bound ℕ → ℕ → AnyRange ℕ
up_to s m = record { start = s; end = Included m }

some_byte_up_to : (s : Bound ℕ) (m : ℕ) → first_of s ≤ m → m ≤ 18446744073709551615
    → ¬ IsEmptyRange u64_order (up_to s m)
some_byte_up_to (Included a) m low fits empty = grind (arith, nat_tests)
some_byte_up_to (Excluded a) m low fits empty = grind (arith, nat_tests)
some_byte_up_to Unbounded m low fits empty = grind (arith, nat_tests)

same_start : (o p : Ordering) → ordering_then o p ≡ Equal → is_gt o ≡ false
same_start Less p same = refl
same_start Equal p same = refl
same_start Greater p same = cc

module _ (bytes : Bytes) where
  -- all bytes of the file
  abbrev file : AnyRange ℕ
  file = range_from_to 0 bytes.size

  abbrev IsFree : AnyRange ℕ → Type 0
  IsFree part = IsFreePart u64_order bytes.come file part

  abbrev IsGap : AnyRange ℕ → Type 0
  IsGap part = IsPiece u64_order bytes.come file part None

  -- none of the bytes has come
  abbrev NoneCame : ℕ → ℕ → Type 0
  NoneCame first last = (byte : ℕ) → first ≤ byte → byte ≤ last → ¬ HasCome bytes byte

  just_one : (byte : ℕ) → ¬ HasCome bytes byte → NoneCame byte byte
  just_one byte none other low high =
      let same : byte ≡ other = omega (arith, low, high) in subst (λ b. ¬ HasCome bytes b) same none

  and_next : (first last : ℕ) → NoneCame first last → (next : ℕ) → next ≡ last + 1
      → ¬ HasCome bytes next → NoneCame first next
  and_next first last clear next is none byte low high = elim (cases_lt last byte) [
    | inl more ↦ just_one next none byte (omega (arith, is, more)) high
    | inr not ↦ clear byte low not
  ]

  -- the first one of the bytes up to one that have not come
  first_free : (byte : ℕ) → ¬ HasCome bytes byte → (first : ℕ) × (first ≤ byte)
      × NoneCame first byte × ((before : ℕ) → first ≡ before + 1 → HasCome bytes before)
  first_free zero none =
      (0, omega arith, just_one 0 none, λ before is. absurd (omega (arith, is)))
  first_free (suc byte) none = elim (come_or_not bytes.come byte) [
    | inl come ↦ (
      suc byte,
      omega arith,
      just_one (suc byte) none,
      λ before is. let same : byte ≡ before =
          omega (arith, is) in subst (HasCome bytes) same come,
    )
    | inr free ↦ let (first, low, clear, before) = first_free byte free in (
      first,
      omega (arith, low),
      and_next first byte clear (suc byte) (omega arith) none,
      before,
    )
  ]

  -- the last one of the bytes from one on that have not come
  last_free : (left byte : ℕ) → byte + left + 1 ≡ bytes.size → ¬ HasCome bytes byte → (last : ℕ)
      × (byte ≤ last) × (last < bytes.size) × NoneCame byte last
      × (last + 1 < bytes.size → HasCome bytes (last + 1))
  last_free zero byte is none = (
    byte,
    omega arith,
    omega (arith, is),
    just_one byte none,
    λ more. absurd (omega (arith, is, more)),
  )
  last_free (suc left) byte is none = elim (come_or_not bytes.come (byte + 1)) [
    | inl come ↦ (byte, omega arith, omega (arith, is), just_one byte none, λ more. come)
    | inr free ↦
        let (last, high, inside, clear, after) =
        last_free left (byte + 1) (omega (arith, is)) free in (
          last,
          omega (arith, high),
          inside,
          λ other low up. elim (cases_lt byte other) [
            | inl more ↦ clear other (omega (arith, more)) up
            | inr not ↦ just_one byte none other low not
          ],
          after,
        )
  ]

  module _ (fits : bytes.size ≤ 18446744073709551615) (stored : IsStoredSet u64_order bytes.come)
    where
      -- bytes of the file that have not come are a free part of it
      free_bytes : (s : Bound ℕ) (last : ℕ) → IsBoundOfKey u64_order s → first_of s ≤ last
          → last < bytes.size → NoneCame (first_of s) last → IsFree (up_to s last)
      free_bytes s last known some inside none = record {
        known = (known, omega (arith, fits, inside));
        nonempty = some_byte_up_to s last some (omega (arith, fits, inside));
        within = record {
          starts = starts_from s 0 (omega arith) (omega arith);
          ends = ends_inside last bytes.size inside fits;
        };
        free = all_apart bytes.come (up_to s last) stored.known stored.nonempty
            (known, omega (arith, fits, inside)) (omega (arith, some))
            (λ byte low high. none byte low (omega (arith, high)));
      }

      -- no byte of a free part has come
      free_none : (part : AnyRange ℕ) → IsFree part → (byte : ℕ) → byte < bytes.size
          → first_of part.start ≤ byte → byte < past_of part.end → ¬ HasCome bytes byte
      free_none part free byte inside low high =
          none_come bytes.come part byte (omega (arith, inside, fits))
          (start_holds part.start byte low, end_holds part.end byte high) free.free

      -- a byte that has not come lies in a free part that is as wide as it goes
      gap_around : (byte : ℕ) → byte < bytes.size → ¬ HasCome bytes byte → (first last : ℕ)
          × (first ≤ byte) × (last < bytes.size) × IsGap (range_inclusive first last)
      gap_around byte inside none =
          let (first, low, below, before) = first_free byte none in
          let left : ℕ = bytes.size - byte - 1 in
          let (last, high, within, above, after) =
          last_free left byte (omega (arith, inside)) none in
          let clear : NoneCame first last = λ other from to. elim (cases_lt byte other) [
            | inl more ↦ above other (omega (arith, more)) to
            | inr not ↦ below other from not
          ] in
          let free : IsFree (range_inclusive first last) =
          free_bytes (Included first) last (omega (arith, low, inside, fits))
          (omega (arith, low, high)) within clear in (
            first,
            last,
            low,
            within,
            (
              free,
              λ other its wider.
                  let starts = start_by other.start first its.known.0 (omega (arith, low, inside, fits))
                  wider.starts in
                  let ends = end_past other.end last (omega (arith, within, fits)) wider.ends in
                  let its_end = end_inside other.end bytes.size its.known.1 fits its.within.ends in
                  record {
                    starts = elim (cases_lt (first_of other.start) first) [
                      | inl less ↦
                          let come = before (first - 1) (omega (arith, less)) in
                          absurd (free_none other its (first - 1) (omega (arith, low, inside))
                          (omega (arith, less)) (omega (arith, ends, low, high)) come)
                      | inr not ↦ starts_from other.start first not (omega (arith, low, inside, fits))
                    ];
                    ends = elim (cases_lt (last + 1) (past_of other.end)) [
                      | inl less ↦
                          let come = after (omega (arith, less, its_end)) in
                          absurd (free_none other its (last + 1) (omega (arith, less, its_end))
                          (omega (arith, starts, low, high)) less come)
                      | inr not ↦ ends_by other.end last not (omega (arith, within, fits))
                    ];
                  },
            ),
          )

      -- all bytes have come where no part of the file is free
      pub all_come : ((part : AnyRange ℕ) → ¬ IsFree part) → IsWhole bytes
      all_come none byte inside = elim (come_or_not bytes.come byte) [
        | inl come ↦ come
        | inr free ↦
            absurd (none (up_to (Included byte) byte) (free_bytes (Included byte) byte
            (omega (arith, inside, fits)) (omega arith) inside (just_one byte free)))
      ]

      -- the byte after a gap has come
      come_after : (part : AnyRange ℕ) (byte : ℕ) → IsGap part → byte < bytes.size
          → past_of part.end ≡ byte → HasCome bytes byte
      come_after part byte gap inside is = elim (come_or_not bytes.come byte) [
        | inl come ↦ come
        | inr free ↦
            let own = gap.0 in
            let wide = some_byte part.start part.end own.known.0 own.known.1 own.nonempty in
            let clear : NoneCame (first_of part.start) (byte - 1) = λ other low high.
            free_none part own other (omega (arith, high, inside)) low
            (omega (arith, high, wide, is)) in
            let further =
            free_bytes part.start byte own.known.0 (omega (arith, wide, is)) inside
            (and_next (first_of part.start) (byte - 1) clear byte (omega (arith, wide, is)) free) in
            let back = gap.1 (up_to part.start byte) further (record {
              starts = starts_alike part.start;
              ends = ends_by part.end byte (omega (arith, is)) (omega (arith, inside, fits));
            }) in
            let past = end_past part.end byte (omega (arith, inside, fits)) back.ends in
            absurd (omega (arith, past, is))
      ]

      -- the first gap does not start after another one
      first_gap : (part : AnyRange ℕ) (rest : List (AnyRange ℕ)) (first last : ℕ)
          → first ≤ 18446744073709551615 → Every IsGap (part ∷ rest)
          → EachNext (LiesBefore u64_order) (part ∷ rest)
          → Any (λ g. range_cmp u64_order g (range_inclusive first last) ≡ Equal) (part ∷ rest)
          → first_of part.start ≤ first
      first_gap part rest first last least each rising (inl here) =
          start_by part.start first each.0.0.known.0 least
          (same_start
          (position_cmp u64_order.cmp (start_position u64_order part.start)
          (start_position u64_order (Included first)))
          (position_cmp u64_order.cmp (end_position u64_order part.end)
          (end_position u64_order (Included last))) here)
      first_gap part [] first last least each rising (inr none) = absurd none
      first_gap part (next ∷ rest) first last least each rising (inr later) =
          let free = each.0.0 in
          let wide = some_byte part.start part.end free.known.0 free.known.1 free.nonempty in
          let before = bytes_before part.end next.start free.known.1 each.1.0.0.known.0 rising.0 in
          let after = first_gap next rest first last least each.1 rising.1 later in
          omega (arith, wide, before, after)

      -- the first gap of the file is missing
      pub is_missing : (part : AnyRange ℕ) (rest : List (AnyRange ℕ))
          → AreGapsWithin u64_order bytes.come file (part ∷ rest)
          → IsMissing bytes
          (record { start = first_of part.start; end = min (past_of part.end) bytes.size })
      is_missing part rest gaps =
          let own = gaps.each.0.0 in
          let wide = some_byte part.start part.end own.known.0 own.known.1 own.nonempty in
          let inside = end_inside part.end bytes.size own.known.1 fits own.within.ends in
          record {
            some = omega (arith, wide, inside);
            inside = omega arith;
            missing = λ byte from to. free_none part own byte (omega (arith, to)) from
                (omega (arith, to));
            first = λ byte before. elim (come_or_not bytes.come byte) [
              | inl come ↦ come
              | inr free ↦
                  let small : byte < bytes.size = omega (arith, before, wide, inside) in
                  let (first, last, low, within, gap) = gap_around byte small free in
                  let known : IsKeyRange u64_order (range_inclusive first last) =
                  (omega (arith, low, small, fits), omega (arith, within, fits)) in
                  let after = first_gap part rest first last (omega (arith, low, small, fits))
                  gaps.each gaps.rising (gaps.all (range_inclusive first last) known gap) in
                  absurd (omega (arith, before, low, after))
            ];
            whole = λ more. come_after part (min (past_of part.end) bytes.size) gaps.each.0
                (omega (arith, more)) (omega (arith, more));
          }

-- the bytes from the first to the last are added
pub are_added : (before after : List (Item (AnyRange ℕ) (Unit {0}))) (first last : ℕ)
    → HoldsAlso u64_order before after (range_inclusive first last) → (byte : ℕ)
    → u64_order.is_key byte
    → HoldsKey u64_order after byte
    ↔ (HoldsKey u64_order before byte ⊎ ((first ≤ byte) × (byte ≤ last)))
are_added before after first last added byte key =
    let one = added byte key in (
      λ has. elim (one.0 has) [
        | inl was ↦ inl was
        | inr holds ↦
            let low = start_held (Included first) byte holds.0 in
            let high = end_held (Included last) byte key holds.1 in
            inr (low, omega (arith, high))
      ],
      λ h. elim h [
        | inl was ↦ one.1 (inl was)
        | inr lies ↦
            let low = lies.0 in
            let high = lies.1 in
            one.1 (inr (
              start_holds (Included first) byte low,
              end_holds (Included last) byte (omega (arith, high)),
            ))
      ],
    )

-- all bytes of the file are held where all keys of its range are, and nowhere else
pub whole_is : (bytes : Bytes) → bytes.size ≤ 18446744073709551615
    → BindsAllOf u64_order bytes.come (range_from_to 0 bytes.size) ↔ IsWhole bytes
whole_is bytes fits = (
  λ all byte less. all byte (omega (arith, less, fits))
      (start_holds (Included 0) byte (omega arith), end_holds (Excluded bytes.size) byte less),
  λ whole byte key holds. whole byte (end_held (Excluded bytes.size) byte key holds.1),
)
