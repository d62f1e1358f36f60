-- What the lines of tables say: addresses with values, and these by numbers.
use Rattle.std.specs.Prelude.{◌≡◌, ◌<◌, ℕ, List, [], ◌∷◌, ◌++◌, map, get_or, length}
use Rattle.std.specs.List.{AllByRecursion}
use Rattle.address_keys.specs.Addresses.{ipv4_number, ipv6_number}
use Rattle.address_text.specs.declared.family.Family.{Family}
use Rattle.address_text.specs.declared.family.Family.TheVariants.{V4, V6}
use Rattle.address_text.specs.declared.line.Line.{Line}
use Rattle.address_text.specs.declared.line.Line.TheVariants.{Addresses, Nothing}
use Rattle.address_rows.specs.Rows.{Row}
use Rattle.address_rows.specs.Texts.{AreDifferent}
use Rattle.address_table_lists.specs.declared.rows.Binding.{Binding}
use Rattle.address_table_lists.specs.declared.rows.Rows.{Rows}

-- the numbers of the first and the last address of some, and their value
pub record Said : Type 0 where
  pub first : ℕ
  pub last : ℕ
  pub value : List ℕ

-- what a line says of the addresses of a family
abbrev pub said_by : Family → Line → List ℕ → List Said
said_by family Nothing value = []
said_by V4 (Addresses V4 first last) value =
    record { first = first; last = last; value = value } ∷ []
said_by V4 (Addresses V6 first last) value = []
said_by V6 (Addresses V4 first last) value = []
said_by V6 (Addresses V6 first last) value =
    record { first = first; last = last; value = value } ∷ []

-- what all rows say of them, in order
abbrev pub said_of : Family → List Row → List Said
said_of family [] = []
said_of family (row ∷ rows) = said_by family row.addresses row.value ++ said_of family rows

module _ {A : Type 0} (number : A → ℕ) (texts : List (List ℕ)) where
  -- addresses that are bound to a text by its number
  abbrev pub spelled_one : Binding A → Said
  spelled_one b = record {
    first = number b.first;
    last = number b.last;
    value = get_or texts b.value [];
  }

  -- all of them
  abbrev pub spelled : List (Binding A) → List Said
  spelled bindings = map spelled_one bindings

  -- the numbers are those of texts
  abbrev pub AreKnown : List (Binding A) → Type 0
  AreKnown bindings = AllByRecursion (λ b. b.value < length texts) bindings

-- just this is held, and each value has one number
pub record Hold (held : Rows) (rows : List Row) : Type 0 where
  pub different : AreDifferent held.texts
  pub v4 : spelled ipv4_number held.texts held.v4.items ≡ said_of V4 rows
  pub v6 : spelled ipv6_number held.texts held.v6.items ≡ said_of V6 rows
  pub known_v4 : AreKnown ipv4_number held.texts held.v4.items
  pub known_v6 : AreKnown ipv6_number held.texts held.v6.items

-- it is held behind what was held before
abbrev pub HoldMore : Rows → Rows → List Row → Type 0
HoldMore old new more = (rows : List Row) → Hold old rows → Hold new (rows ++ more)
