-- What a hash is fed of a position.
use Rattle.std.specs.Prelude.{◌≡◌, ℕ, List, ◌++◌, IsTrue, refl}
use Rattle.std.specs.declared.cmp.Ordering.{Ordering}
use Rattle.std.specs.declared.cmp.Ordering.TheVariants.{Less, Equal, Greater}
use Rattle.std.specs.Ordering.{eq_by_cmp, ordering_then, is_eq}
use Rattle.std.specs.Hash as fed
use Rattle.std.proofs.Common.{ap}
use Rattle.range_keys.specs.Position.{position_cmp, side_cmp}
use Rattle.range_keys.specs.declared.inner.position.Side.{Side}
use Rattle.range_keys.specs.declared.inner.position.Side.TheVariants.{Before, At, After}
use Rattle.range_keys.specs.declared.inner.position.Position.{Position}
use Rattle.range_keys.specs.declared.inner.position.Position.TheVariants.{MinusInfinity, Beside, PlusInfinity}

abbrev pub position_input : {K : Type 0} → (K → List (List ℕ)) → Position K → List (List ℕ)
position_input input MinusInfinity = fed.u8 0
position_input input (Beside a Before) = fed.u8 1 ++ input a
position_input input (Beside a At) = fed.u8 2 ++ input a
position_input input (Beside a After) = fed.u8 3 ++ input a
position_input input PlusInfinity = fed.u8 4

module _ {K : Type 0} (cmp : K → K → Ordering) (input : K → List (List ℕ))
    (respects : (a b : K) → cmp a b ≡ Equal → input a ≡ input b) where
  first_equal : (o p : Ordering) → IsTrue (is_eq (ordering_then o p)) → o ≡ Equal
  first_equal Less p h = cc
  first_equal Equal p h = refl
  first_equal Greater p h = cc

  second_equal : (o p : Ordering) → IsTrue (is_eq (ordering_then o p)) → IsTrue (is_eq p)
  second_equal Less p h = cc
  second_equal Equal p h = h
  second_equal Greater p h = cc

  same_side : (a b : K) (s t : Side) → IsTrue (is_eq (side_cmp s t)) → input a ≡ input b
      → position_input input (Beside a s) ≡ position_input input (Beside b t)
  same_side a b Before Before h e = ap (λ w. fed.u8 1 ++ w) e
  same_side a b Before At h e = cc
  same_side a b Before After h e = cc
  same_side a b At Before h e = cc
  same_side a b At At h e = ap (λ w. fed.u8 2 ++ w) e
  same_side a b At After h e = cc
  same_side a b After Before h e = cc
  same_side a b After At h e = cc
  same_side a b After After h e = ap (λ w. fed.u8 3 ++ w) e

  pub position_respects : (p q : Position K) → IsTrue (eq_by_cmp (position_cmp cmp) p q)
      → position_input input p ≡ position_input input q
  position_respects MinusInfinity MinusInfinity e = refl
  position_respects MinusInfinity (Beside b t) e = cc
  position_respects MinusInfinity PlusInfinity e = cc
  position_respects (Beside a s) MinusInfinity e = cc
  position_respects (Beside a s) (Beside b t) e =
      same_side a b s t (second_equal (cmp a b) (side_cmp s t) e)
      (respects a b (first_equal (cmp a b) (side_cmp s t) e))
  position_respects (Beside a s) PlusInfinity e = cc
  position_respects PlusInfinity MinusInfinity e = cc
  position_respects PlusInfinity (Beside b t) e = cc
  position_respects PlusInfinity PlusInfinity e = refl
