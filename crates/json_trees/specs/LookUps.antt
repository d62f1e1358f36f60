-- What is looked up in JSON data, beside what `serde_json` names.
use Rattle.std.specs.Prelude.{ℕ, List, Bool, true, ◌||◌, ◌&&◌, bytes_eq, Option, Some, None}
use Rattle.serde_json.specs.Data.{Data, null, boolean, number, string, array, object, Members, no_members, member}

-- the name and the value of a member that is alone
abbrev pub alone : Members → Option (List ℕ × Data)
alone no_members = None
alone (member k d no_members) = Some (k, d)
alone (member k d (member l e more)) = None

abbrev pub only_member_of : Data → Option (List ℕ × Data)
only_member_of null = None
only_member_of (boolean b) = None
only_member_of (number n) = None
only_member_of (string s) = None
only_member_of (array ds) = None
only_member_of (object ms) = alone ms

module _ (first second : List ℕ) where
  -- each member has one of the two names
  abbrev pub are_named : Members → Bool
  are_named no_members = true
  are_named (member k d ms) = (bytes_eq k first || bytes_eq k second) && are_named ms
