-- Values and lines in each form that is printed.
use Rattle.std.specs.Prelude.{◌≡◌, ◌==◌, ◌||◌, ℕ, Bool, true, false, if◌then◌else◌, List, [], ◌∷◌, ◌++◌, codes, decimal}
use Rattle.std.specs.List.{list_any}
use Rattle.serde_json.specs.Data.{string}
use Rattle.serde_json.specs.Written.{compact_text}
use Rattle.address_text.specs.Texts.{address_text}
use Rattle.address_text.specs.declared.family.Family.{Family}
use Rattle.address_text.specs.declared.family.Family.TheVariants.{V4, V6}
use Rattle.address_rows.specs.declared.forms.Form.{Form}
use Rattle.address_rows.specs.declared.forms.Form.TheVariants.{Csv, Decimal, Json, Lines, Nft, Nginx}
use Rattle.address_rows.specs.declared.write.Block.{Block}
use Rattle.address_rows.specs.declared.write.Block.TheVariants.{Prefix, Range}

-- a byte has a mark before it: in CSV a quote, for nginx a quote and a backslash
abbrev pub is_marked : Form → ℕ → Bool
is_marked Csv byte = byte == 34
is_marked Nginx byte = (byte == 34) || (byte == 92)
is_marked Lines byte = false
is_marked Decimal byte = false
is_marked Json byte = false
is_marked Nft byte = false

-- in CSV the mark is a quote, and else a backslash
abbrev pub mark_of : Form → ℕ
mark_of Csv = 34
mark_of Lines = 92
mark_of Decimal = 92
mark_of Json = 92
mark_of Nginx = 92
mark_of Nft = 92

-- a byte with its mark, if it has one
abbrev pub one_marked : Form → ℕ → List ℕ
one_marked form byte = if is_marked form byte then mark_of form ∷ byte ∷ [] else byte ∷ []

-- a text with these marks
abbrev pub marked : Form → List ℕ → List ℕ
marked form [] = []
marked form (byte ∷ text) = one_marked form byte ++ marked form text

-- and between quotes
abbrev pub quoted : Form → List ℕ → List ℕ
quoted form text = 34 ∷ marked form text ++ 34 ∷ []

-- a comma, a quote or the end of a line wants quotes in CSV
abbrev pub needs_quotes : List ℕ → Bool
needs_quotes text =
    list_any (λ byte. (((byte == 44) || (byte == 34)) || (byte == 10)) || (byte == 13)) text

-- a value
abbrev pub value_text : Form → List ℕ → List ℕ
value_text Lines text = text
value_text Csv text = if needs_quotes text then quoted Csv text else text
value_text Decimal text = text
value_text Json text = compact_text (string text)
value_text Nginx text = quoted Nginx text
value_text Nft text = text

-- an address by a number, where it is one of IPv4
abbrev pub end_text : Family → ℕ → List ℕ
end_text V4 n = decimal n
end_text V6 n = address_text V6 n

-- a prefix, a range or an address alone
abbrev pub block_text : Family → Block → List ℕ
block_text family (Prefix network last length) =
    address_text family network ++ codes "/" ++ decimal length
block_text family (Range first last) =
    if first == last then address_text family first
    else address_text family first ++ codes "-" ++ address_text family last

-- its first and its last address
abbrev pub ends_text : Family → Block → List ℕ
ends_text family (Prefix network last length) =
    end_text family network ++ codes "," ++ end_text family last
ends_text family (Range first last) =
    end_text family first ++ codes "," ++ end_text family last

-- what stands before a block in JSON
abbrev pub opening : Block → List ℕ
opening (Prefix network last length) = codes "{\"prefix\":\""
opening (Range first last) = codes "{\"range\":\""

-- what stands before the value of a line, and behind it
abbrev pub text_before : Form → Family → Block → List ℕ
text_before Lines family block = block_text family block ++ codes " "
text_before Csv family block = block_text family block ++ codes ","
text_before Decimal family block = ends_text family block ++ codes ","
text_before Json family block =
    opening block ++ block_text family block ++ codes "\",\"value\":"
text_before Nginx family block = block_text family block ++ codes " "
text_before Nft family block = codes "\t" ++ block_text family block ++ codes " : "

abbrev pub text_behind : Form → List ℕ
text_behind Lines = codes "\n"
text_behind Csv = codes "\n"
text_behind Decimal = codes "\n"
text_behind Json = codes "}\n"
text_behind Nginx = codes ";\n"
text_behind Nft = codes ",\n"

-- the line of a block, with a value that has its text in this form
abbrev pub block_line : Form → Family → Block → List ℕ → List ℕ
block_line form family block value = text_before form family block ++ value ++ text_behind form

-- what stands before the lines of a family, and behind them
abbrev pub family_opening : Form → Family → List ℕ
family_opening Nft V4 = codes "define ipv4 = {\n"
family_opening Nft V6 = codes "define ipv6 = {\n"
family_opening Lines family = []
family_opening Csv family = []
family_opening Decimal family = []
family_opening Json family = []
family_opening Nginx family = []

abbrev pub family_closing : Form → List ℕ
family_closing Nft = codes "}\n"
family_closing Lines = []
family_closing Csv = []
family_closing Decimal = []
family_closing Json = []
family_closing Nginx = []
