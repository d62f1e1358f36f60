use Rattle.std.proofs.Common.{◌≡◌, ℕ, zero, suc, ◌<◌, List, [], ◌∷◌, length, get_or, inl, inr, refl, arith}
use Rattle.btree_range_map.specs.Intervals.{Any}
use Rattle.address_tables.proofs.Lists.{zip_next}
use Rattle.range_ffi.specs.declared.wide.WideKey.{WideKey}
use Rattle.table_handles.specs.Prefixes.{IsMeant}
use Rattle.table_handles.specs.declared.prefix.WidePrefix.{WidePrefix}
use Rattle.table_handles.proofs.longest.entries_of.Goals as goal

abbrev no_prefix : WidePrefix
no_prefix = record { network = record { low = 0; high = 0 }; value = 0; length = 0 }

some_is_long : (prefixes : List WidePrefix) (i : ℕ) → i < length prefixes
    → 128 < (get_or prefixes i no_prefix).length → Any (λ p. 128 < p.length) prefixes
some_is_long [] i within long = absurd (omega (arith, within))
some_is_long (p ∷ prefixes) zero within long = inl long
some_is_long (p ∷ prefixes) (suc i) within long =
    inr (some_is_long prefixes i (omega (arith, within)) long)

pub loop-prefix-preserved : goal.loop-prefix-preserved
loop-prefix-preserved c =
    rw c.in-Ok.ensures.items
    (zip_next IsMeant c.args.prefixes.now c.loop-prefix.prefix-index no_prefix
    c.loop-prefix.entries.items c.in-Some.entry c.loop-prefix.invariant c.loop-prefix-test.true
    c.in-Some.ensures)

pub returns-in_default-clause-refused : goal.returns-in_default-clause-refused
returns-in_default-clause-refused c =
    inr (
      refl,
      some_is_long c.args.prefixes.now c.loop-prefix.prefix-index c.loop-prefix-test.true
          c.in_default.ensures,
    )
