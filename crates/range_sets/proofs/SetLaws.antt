-- Sets that are made of two others, by which of them holds a key.
use Rattle.std.proofs.Common.{arith}
use Rattle.range_keys.specs.Order.{KeyOrder, IsLawful}
use Rattle.range_sets.specs.TwoSets.{HoldsEither, HoldsBoth, HoldsFirstAlone, HoldsJustOne}
use Rattle.range_sets.specs.SetLaws.{Commutes, Associates, Distributes, IsDual, TakesComplement}
use Rattle.range_sets.proofs.KeptKeys.{holds_or_not}

module _ {K : Type 0} (order : KeyOrder K) (lawful : IsLawful order) where
  pub either_commutes : Commutes order (λ a b new. HoldsEither order a b new)
  either_commutes a b ab ba first second k key = grind (arith, first k key, second k key)

  pub both_commute : Commutes order (λ a b new. HoldsBoth order a b new)
  both_commute a b ab ba first second k key = grind (arith, first k key, second k key)

  pub just_one_commutes : Commutes order (λ a b new. HoldsJustOne order a b new)
  just_one_commutes a b ab ba first second k key = grind (arith, first k key, second k key)

  pub either_associates : Associates order (λ a b new. HoldsEither order a b new)
  either_associates a b c ab bc left right first second third fourth k key =
      grind (arith, first k key, second k key, third k key, fourth k key)

  pub both_associate : Associates order (λ a b new. HoldsBoth order a b new)
  both_associate a b c ab bc left right first second third fourth k key =
      grind (arith, first k key, second k key, third k key, fourth k key)

  pub just_one_associates : Associates order (λ a b new. HoldsJustOne order a b new)
  just_one_associates a b c ab bc left right first second third fourth k key =
      let in_a = holds_or_not order lawful a k in
      let in_b = holds_or_not order lawful b k in
      let in_c = holds_or_not order lawful c k in
      grind (arith, first k key, second k key, third k key, fourth k key)

  pub both_distribute :
      Distributes order (λ a b new. HoldsBoth order a b new) (λ a b new. HoldsEither order a b new)
  both_distribute a b c bc ab ac left right first second third fourth fifth k key =
      grind (arith, first k key, second k key, third k key, fourth k key, fifth k key)

  pub either_distributes :
      Distributes order (λ a b new. HoldsEither order a b new) (λ a b new. HoldsBoth order a b new)
  either_distributes a b c bc ab ac left right first second third fourth fifth k key =
      grind (arith, first k key, second k key, third k key, fourth k key, fifth k key)

  pub either_is_dual :
      IsDual order (λ a b new. HoldsEither order a b new) (λ a b new. HoldsBoth order a b new)
  either_is_dual a b not_a not_b ab left right first second third fourth fifth k key =
      grind (arith, first k key, second k key, third k key, fourth k key, fifth k key)

  pub both_are_dual :
      IsDual order (λ a b new. HoldsBoth order a b new) (λ a b new. HoldsEither order a b new)
  both_are_dual a b not_a not_b ab left right first second third fourth fifth k key =
      let in_a = holds_or_not order lawful a k in
      grind (arith, first k key, second k key, third k key, fourth k key, fifth k key)

  pub first_alone_takes_complement :
      TakesComplement order (λ a b new. HoldsFirstAlone order a b new)
      (λ a b new. HoldsBoth order a b new)
  first_alone_takes_complement a b not_b left right first second third k key =
      grind (arith, first k key, second k key, third k key)
