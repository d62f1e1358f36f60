-- Keys compare as their places do.
use Rattle.range_edit.proofs.Common.{◌≡◌, refl, IsTrue, ◌↔◌, Option, Some, ordering_then, partial_lt, Ordering, Less, Equal, Greater}

-- a key is less than another by their places
pub key_less : {K : Type 0} (partial : K → K → Option Ordering) (a b : K) (o : Ordering)
    → partial a b ≡ Some o → IsTrue (partial_lt partial a b) ↔ ordering_then o Equal ≡ Less
key_less partial a b Less e = rw e (λ h. refl, λ h. refl)
key_less partial a b Equal e = rw e (λ h. cc, λ h. cc)
key_less partial a b Greater e = rw e (λ h. cc, λ h. cc)
