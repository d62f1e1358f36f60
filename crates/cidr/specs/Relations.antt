-- How the addresses of two lists lie.
use Rattle.std.specs.Prelude.{◌≡◌, ℕ, List, ◌++◌, codes}
use Rattle.address_lists.specs.Counted.{IsCounted}
use Rattle.address_lists.specs.Lists.{HasAllOf, ShareNone}
use Rattle.address_lists.specs.declared.addresses.Addresses.{Addresses}
use Rattle.cidr.specs.declared.compare.Relation.{Relation}
use Rattle.cidr.specs.declared.compare.Relation.TheVariants.{Apart, Equal, Overlapping, Subset, Superset}

-- how the first list lies to the second
abbrev pub IsRelation : Addresses → Addresses → Relation → Type 0
IsRelation first second Equal = HasAllOf first second × HasAllOf second first
IsRelation first second Subset = HasAllOf second first × ¬ HasAllOf first second
IsRelation first second Superset = HasAllOf first second × ¬ HasAllOf second first
IsRelation first second Apart =
    (¬ HasAllOf first second) × (¬ HasAllOf second first) × ShareNone first second
IsRelation first second Overlapping =
    (¬ HasAllOf first second) × (¬ HasAllOf second first) × ¬ ShareNone first second

-- the word that is printed
abbrev pub relation_text : Relation → List ℕ
relation_text Equal = codes "equal\n"
relation_text Subset = codes "subset\n"
relation_text Superset = codes "superset\n"
relation_text Apart = codes "apart\n"
relation_text Overlapping = codes "overlapping\n"

-- how the lists lie to each other, and then how many addresses each has
abbrev pub IsCompared : Addresses → Addresses → List ℕ → Type 0
IsCompared first second text = (relation : Relation) × (one : List ℕ) × (other : List ℕ)
    × IsRelation first second relation × IsCounted (codes "first ") first one
    × IsCounted (codes "second ") second other
    × (text ≡ relation_text relation ++ one ++ other)
