-- That a line fits is a proposition.
use Rattle.std.specs.Coded.{Unit-prop, le_prop}
use Rattle.address_text.specs.Lines.{AreAddresses}
use Rattle.address_text.specs.declared.line.Line.{Line}
use Rattle.address_text.specs.declared.line.Line.TheVariants.{Addresses, Nothing}

pub AreAddresses-prop : (line : Line) → IsProp (AreAddresses line)
AreAddresses-prop Nothing = Unit-prop
AreAddresses-prop (Addresses family first last) = hlevel le_prop
