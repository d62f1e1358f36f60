-- Four things, one for each letter.
use Rattle.rangecalc.specs.declared.named.Name.{Name}
use Rattle.rangecalc.specs.declared.named.Name.TheVariants.{A, B, C, D}
use Rattle.rangecalc.specs.declared.named.Named.{Named}

-- the next letter, after the last one the first
abbrev pub following : Name → Name
following A = B
following B = C
following C = D
following D = A

-- the one with a name
abbrev pub at : {X : Type 0} → Named X → Name → X
at things A = things.a
at things B = things.b
at things C = things.c
at things D = things.d

-- another one for a name; the other three stay
abbrev pub put : {X : Type 0} → Named X → Name → X → Named X
put things A x = record things { a = x }
put things B x = record things { b = x }
put things C x = record things { c = x }
put things D x = record things { d = x }

abbrev pub each : {X Y : Type 0} → (X → Y) → Named X → Named Y
each f things = record { a = f things.a; b = f things.b; c = f things.c; d = f things.d }
