-- The first earlier element that is met, as the ranges are read again.
use Rattle.std.proofs.Common.{◌≡◌, refl, sym, ap, subst, ◌∙◌, ◌↔◌, false, Option, Some, None, arith}
use Rattle.std.specs.Prelude.{IfSome}
use Rattle.std.specs.Ordering.{is_gt, ordering_reverse}
use Rattle.std.specs.declared.cmp.Ordering.{Ordering}
use Rattle.std.specs.declared.cmp.Ordering.TheVariants.{Less, Equal}
use Rattle.std.proofs.lemmas.Option.{same_Some}
use Rattle.serde_json.specs.Data.{Data}
use Rattle.range_keys.specs.Order.{KeyOrder, IsLawful}
use Rattle.range_keys.specs.Position.{position_cmp}
use Rattle.range_keys.specs.PositionOrder.{position_total}
use Rattle.range_keys.specs.declared.inner.position.Position.{Position}
use Rattle.range_algebra.specs.Compared.{starts_past_end}
use Rattle.range_algebra.specs.declared.any.AnyRange.{AnyRange}
use Rattle.range_algebra.specs.RangeOrder.{range_cmp}
use Rattle.range_runs.specs.Lookups.{Overlap}
use Rattle.range_json.specs.Faults.{IsRangeRead}
use Rattle.range_json.specs.MapFaults.{HasOneReading, MeetNonempty}
use Rattle.range_json.specs.Meetings.{AlwaysMeet, IsRangeOf, NeverMeet}
use Rattle.range_json.proofs.Exact.{meet_too, range_one}

-- what holds of some result, by what is known of it
pub some_too : {X : Type 0} (P Q : X → Type 0) (o : Option X) → ((x : X) → P x → Q x) → IfSome o P
    → IfSome o Q
some_too P Q None to h = h
some_too P Q (Some x) to h = to x h

past_or_not : (a b : Ordering) → a ≡ ordering_reverse b → (is_gt a ≡ false) ↔ ¬ (b ≡ Less)
past_or_not a Less e = (λ h. absurd cc, λ h. absurd (h refl))
past_or_not a b e = (λ h k. absurd cc, λ h. ap is_gt e)

module _ {K : Type 0} (order : KeyOrder K) (lawful : IsLawful order) where
  reaches : (p q : Position K) → (is_gt (position_cmp order.cmp p q) ≡ false)
      ↔ ¬ (position_cmp order.cmp q p ≡ Less)
  reaches p q =
      past_or_not (position_cmp order.cmp p q) (position_cmp order.cmp q p)
      ((position_total order.cmp lawful.total).antisymm p q)

  -- ranges meet where neither starts past the end of the other
  pub overlap_by : (r s : AnyRange K) → ((starts_past_end order r.start s.end ≡ false)
      × (starts_past_end order s.start r.end ≡ false)) ↔ Overlap order r s
  overlap_by r s = grind (arith, reaches)

module _ {K : Type 0} (order : KeyOrder K) (is_read : Data → K → Type 0) where
  module _ (lawful : IsLawful order) (one : HasOneReading order is_read) where
    same_range : (d : Data) (r s : AnyRange K) → IsRangeOf is_read d r → IsRangeOf is_read d s
        → range_cmp order r s ≡ Equal
    same_range d r s (ds, e, read) (es, f, other) =
        let same : es ≡ ds = same_Some es ds (sym f ∙ e) in
        range_one order lawful is_read one ds.0 r s read
        (subst (λ p. IsRangeRead is_read p.0 s) same other)

    -- what does not meet as it is read once never meets
    pub never_meet : (c d : Data) (r s : AnyRange K) → IsRangeOf is_read c r
        → IsRangeOf is_read d s → ¬ MeetNonempty order r s → NeverMeet order is_read c d
    never_meet c d r s read other apart q t again other_again meet =
        apart (meet_too order lawful q t r s (same_range c q r again read)
        (same_range d t s other_again other) meet)

    pub always_meet : (c d : Data) (r s : AnyRange K) → IsRangeOf is_read c r
        → IsRangeOf is_read d s → MeetNonempty order r s → AlwaysMeet order is_read c d
    always_meet c d r s read other meet q t again other_again =
        meet_too order lawful r s q t (same_range c r q read again)
        (same_range d s t other other_again) meet
