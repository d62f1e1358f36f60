-- The data that a borrowed value stands for, and whether each of its numbers has a value.
use Rattle.std.specs.Prelude.{pos, Bool, true, ◌&&◌, Option, Some, None, is_some}
use Rattle.std.specs.Float.{binary64}
use Rattle.std.specs.Float.Ieee.{of_int}
use Rattle.json.specs.Json as json
use Rattle.json.specs.Value.{value_view}
use Rattle.json.specs.declared.value.Value.{Value}
use Rattle.serde_json.specs.Data.{Num, float, Data, null, boolean, number, string, array, object, Items, no_items, item, Members, no_members, put}
use Rattle.serde_json.specs.Read.{number_of}

-- a number that is none stands for a float, since a look-up finds no integer there
abbrev pub or_float : Option Num → Num
or_float None = float (of_int binary64 (pos 0))
or_float (Some n) = n

abbrev mutual
  pub data_of : json.Json → Data
  data_of json.null = null
  data_of (json.boolean b) = boolean b
  data_of (json.number s) = number (or_float (number_of s))
  data_of (json.string s) = string s
  data_of (json.array js) = array (items_data js)
  data_of (json.object ms) = object (members_data ms no_members)

  pub items_data : json.Items → Items
  items_data json.no_items = no_items
  items_data (json.item j js) = item (data_of j) (items_data js)

  -- the members go in one after another, so the last value of a name stays
  pub members_data : json.Members → Members → Members
  members_data json.no_members found = found
  members_data (json.member k j ms) found = members_data ms (put k (data_of j) found)

abbrev mutual
  pub is_readable : json.Json → Bool
  is_readable json.null = true
  is_readable (json.boolean b) = true
  is_readable (json.number s) = is_some (number_of s)
  is_readable (json.string s) = true
  is_readable (json.array js) = are_readable js
  is_readable (json.object ms) = members_are_readable ms

  pub are_readable : json.Items → Bool
  are_readable json.no_items = true
  are_readable (json.item j js) = is_readable j && are_readable js

  pub members_are_readable : json.Members → Bool
  members_are_readable json.no_members = true
  members_are_readable (json.member k j ms) = is_readable j && members_are_readable ms

abbrev pub borrowed_data : {A : Type 0} → Value A → Data
borrowed_data v = data_of (value_view v)
