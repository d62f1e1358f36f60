-- Which minutes the bounds of a range hold, and that ranges which meet have one in common.
use Rattle.std.proofs.Common.{arith, ◌≡◌, ◌≤◌, ◌<◌, ◌+◌, ℕ, max}
use Rattle.std.specs.declared.cmp.Ordering.TheVariants.{Less, Greater}
use Rattle.std.specs.declared.ops.Bound.{Bound}
use Rattle.std.specs.declared.ops.Bound.TheVariants.{Included, Excluded, Unbounded}
use Rattle.std.proofs.lemmas.Bool.Decides.{nat_tests}
use Rattle.btree_range_map.specs.AnyRange.{AnyRange}
use Rattle.btree_range_map.specs.Lookups.{Overlap}
use Rattle.btree_range_map.specs.Names.{u32_order}
use Rattle.btree_range_map.specs.Position.{start_position, end_position, position_cmp}
use Rattle.btree_range_map.specs.Range.{StartHolds, EndHolds, IsEmptyRange, IsBoundOfKey, IsKeyRange}
use Rattle.btree_range_map.specs.Relations.{ShareKey}

-- the first minute that a start holds
abbrev pub first_of : Bound ℕ → ℕ
first_of (Included a) = a
first_of (Excluded a) = a + 1
first_of Unbounded = 0

-- the minute after the last one that an end holds
abbrev pub past_of : Bound ℕ → ℕ
past_of (Included b) = b + 1
past_of (Excluded b) = b
past_of Unbounded = 4294967296

pub start_holds : (b : Bound ℕ) (m : ℕ) → first_of b ≤ m → StartHolds u32_order b m
start_holds (Included a) m h = grind (arith, nat_tests)
start_holds (Excluded a) m h = grind (arith, nat_tests)
start_holds Unbounded m h = tt

pub start_held : (b : Bound ℕ) (m : ℕ) → StartHolds u32_order b m → first_of b ≤ m
start_held (Included a) m h = grind (arith, nat_tests)
start_held (Excluded a) m h = grind (arith, nat_tests)
start_held Unbounded m h = omega arith

pub end_holds : (b : Bound ℕ) (m : ℕ) → m < past_of b → EndHolds u32_order b m
end_holds (Included b) m h = grind (arith, nat_tests)
end_holds (Excluded b) m h = grind (arith, nat_tests)
end_holds Unbounded m h = tt

pub end_held : (b : Bound ℕ) (m : ℕ) → m ≤ 4294967295 → EndHolds u32_order b m → m < past_of b
end_held (Included b) m key h = grind (arith, nat_tests)
end_held (Excluded b) m key h = grind (arith, nat_tests)
end_held Unbounded m key h = omega arith

past_fits : (b : Bound ℕ) → IsBoundOfKey u32_order b → past_of b ≤ 4294967296
past_fits (Included b) known = omega arith
past_fits (Excluded b) known = omega arith
past_fits Unbounded known = omega arith

-- of a range that is not empty
some_minute : (s e : Bound ℕ) → IsBoundOfKey u32_order s → IsBoundOfKey u32_order e
    → (position_cmp u32_order.cmp (start_position u32_order s) (end_position u32_order e) ≡ Greater
    → ⊥) → first_of s < past_of e
some_minute (Included a) (Included b) known known' some = grind (arith, nat_tests)
some_minute (Included a) (Excluded b) known known' some = grind (arith, nat_tests)
some_minute (Included a) Unbounded known known' some = grind (arith, nat_tests)
some_minute (Excluded a) (Included b) known known' some = grind (arith, nat_tests)
some_minute (Excluded a) (Excluded b) known known' some = grind (arith, nat_tests)
some_minute (Excluded a) Unbounded known known' some = grind (arith, nat_tests)
some_minute Unbounded (Included b) known known' some = grind (arith, nat_tests)
some_minute Unbounded (Excluded b) known known' some = grind (arith, nat_tests)
some_minute Unbounded Unbounded known known' some = grind (arith, nat_tests)

-- of a range that does not end before another starts
starts_within : (e s : Bound ℕ) → IsBoundOfKey u32_order e → IsBoundOfKey u32_order s
    → (position_cmp u32_order.cmp (end_position u32_order e) (start_position u32_order s) ≡ Less
    → ⊥) → first_of s < past_of e
starts_within (Included b) (Included a) known known' some = grind (arith, nat_tests)
starts_within (Included b) (Excluded a) known known' some = grind (arith, nat_tests)
starts_within (Included b) Unbounded known known' some = grind (arith, nat_tests)
starts_within (Excluded b) (Included a) known known' some = grind (arith, nat_tests)
starts_within (Excluded b) (Excluded a) known known' some = grind (arith, nat_tests)
starts_within (Excluded b) Unbounded known known' some = grind (arith, nat_tests)
starts_within Unbounded (Included a) known known' some = grind (arith, nat_tests)
starts_within Unbounded (Excluded a) known known' some = grind (arith, nat_tests)
starts_within Unbounded Unbounded known known' some = grind (arith, nat_tests)

-- where an end and a start hold one minute, the one is not before the other
pub not_before : (e s : Bound ℕ) (m : ℕ) → m ≤ 4294967295 → EndHolds u32_order e m
    → StartHolds u32_order s m
    → ¬ (position_cmp u32_order.cmp (end_position u32_order e) (start_position u32_order s) ≡ Less)
not_before (Included b) (Included a) m key h h' less = grind (arith, nat_tests)
not_before (Included b) (Excluded a) m key h h' less = grind (arith, nat_tests)
not_before (Included b) Unbounded m key h h' less = grind (arith, nat_tests)
not_before (Excluded b) (Included a) m key h h' less = grind (arith, nat_tests)
not_before (Excluded b) (Excluded a) m key h h' less = grind (arith, nat_tests)
not_before (Excluded b) Unbounded m key h h' less = grind (arith, nat_tests)
not_before Unbounded (Included a) m key h h' less = grind (arith, nat_tests)
not_before Unbounded (Excluded a) m key h h' less = grind (arith, nat_tests)
not_before Unbounded Unbounded m key h h' less = grind (arith, nat_tests)

-- a range that holds a minute is not empty
pub not_empty : (s e : Bound ℕ) (m : ℕ) → m ≤ 4294967295 → StartHolds u32_order s m × EndHolds u32_order e m
    → ¬ (position_cmp u32_order.cmp (start_position u32_order s) (end_position u32_order e) ≡ Greater)
not_empty (Included a) (Included b) m key h more = grind (arith, nat_tests)
not_empty (Included a) (Excluded b) m key h more = grind (arith, nat_tests)
not_empty (Included a) Unbounded m key h more = grind (arith, nat_tests)
not_empty (Excluded a) (Included b) m key h more = grind (arith, nat_tests)
not_empty (Excluded a) (Excluded b) m key h more = grind (arith, nat_tests)
not_empty (Excluded a) Unbounded m key h more = grind (arith, nat_tests)
not_empty Unbounded (Included b) m key h more = grind (arith, nat_tests)
not_empty Unbounded (Excluded b) m key h more = grind (arith, nat_tests)
not_empty Unbounded Unbounded m key h more = grind (arith, nat_tests)

pub share_minute : (r s : AnyRange ℕ) → IsKeyRange u32_order r → IsKeyRange u32_order s
    → ¬ IsEmptyRange u32_order r → ¬ IsEmptyRange u32_order s → Overlap u32_order r s
    → ShareKey u32_order r s
share_minute r s known known' some some' meet =
    let m = max (first_of r.start) (first_of s.start) in
    let one : first_of r.start < past_of r.end =
    some_minute r.start r.end known.0 known.1 some in
    let two : first_of s.start < past_of s.end =
    some_minute s.start s.end known'.0 known'.1 some' in
    let three : first_of s.start < past_of r.end =
    starts_within r.end s.start known.1 known'.0 meet.0 in
    let four : first_of r.start < past_of s.end =
    starts_within s.end r.start known'.1 known.0 meet.1 in
    let fits = past_fits r.end known.1 in (
      m,
      omega arith,
      (start_holds r.start m (omega arith), end_holds r.end m (omega arith)),
      (start_holds s.start m (omega arith), end_holds s.end m (omega arith)),
    )
