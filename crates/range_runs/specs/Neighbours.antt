-- What holds between the neighbours of a list.
use Rattle.std.specs.Prelude.{◌∷◌}
use Rattle.range_runs.specs.Common.{List, [], ⊤}

-- the relation holds between x and the first of the list, if there is one
abbrev pub BeforeFirst : {X : Type 0} → (X → X → Type 0) → X → List X → Type 0
BeforeFirst R x [] = ⊤
BeforeFirst R x (y ∷ rest) = R x y

-- the relation holds between neighbours
abbrev pub EachNext : {X : Type 0} → (X → X → Type 0) → List X → Type 0
EachNext R [] = ⊤
EachNext R (x ∷ rest) = BeforeFirst R x rest × EachNext R rest
