-- How a line begins: the letter of its map and the words of its command.
use Rattle.std.specs.Prelude.{◌≡◌, ℕ, List, [], ◌∷◌, ◌++◌, codes}
use Rattle.rangecalc.specs.declared.named.Name.{Name}
use Rattle.rangecalc.specs.declared.named.Name.TheVariants.{A, B, C, D}
use Rattle.rangecalc.specs.declared.line.Change.{Change as ChangeOf}
use Rattle.rangecalc.specs.declared.line.Change.TheVariants.{Insert, Try, Remove, Drop, From, PopFirst, PopLast, Clear}
use Rattle.rangecalc.specs.declared.line.Question.{Question}
use Rattle.rangecalc.specs.declared.line.Question.TheVariants.{Get, At, Has, Meets, All, First, Last, Count, Len, Levels}
use Rattle.rangecalc.specs.declared.line.Listing.{Listing}
use Rattle.rangecalc.specs.declared.line.Listing.TheVariants.{Show, Gaps, Over, Free, Pieces}
use Rattle.rangecalc.specs.declared.line.Command.{Command}
use Rattle.rangecalc.specs.declared.line.Command.TheVariants.{Change, Ask, List as Lists, Split, Compare, Combine, Keep, Amend}
use Rattle.rangecalc.specs.declared.line.Amendment.{Amendment}
use Rattle.rangecalc.specs.declared.line.Amendment.TheVariants.{Extend, Subtract}
use Rattle.rangecalc.specs.declared.line.Kept.{Kept}
use Rattle.rangecalc.specs.declared.line.Kept.TheVariants.{In, Without}
use Rattle.rangecalc.specs.declared.line.Relation.{Relation}
use Rattle.rangecalc.specs.declared.line.Relation.TheVariants.{Equals, Subset, Apart}
use Rattle.rangecalc.specs.declared.line.Way.{Way}
use Rattle.rangecalc.specs.declared.line.Way.TheVariants.{Both, Either, Over as OverWay}

abbrev pub letter : Name → ℕ
letter A = 97
letter B = 98
letter C = 99
letter D = 100

abbrev pub change_words : {K : Type 0} → ChangeOf K → List ℕ
change_words (Insert range value) = codes "insert"
change_words (Try range value) = codes "try"
change_words (Remove range) = codes "remove"
change_words (Drop value) = codes "drop"
change_words (From bindings) = codes "from"
change_words PopFirst = codes "pop first"
change_words PopLast = codes "pop last"
change_words Clear = codes "clear"

abbrev pub question_words : {K : Type 0} → Question K → List ℕ
question_words (Get key) = codes "get"
question_words (At key) = codes "at"
question_words (Has key) = codes "has"
question_words (Meets range) = codes "meets"
question_words (All range) = codes "all"
question_words First = codes "first"
question_words Last = codes "last"
question_words Count = codes "count"
question_words Len = codes "len"
question_words Levels = codes "levels"

abbrev pub listing_words : {K : Type 0} → Listing K → List ℕ
listing_words Show = codes "show"
listing_words Gaps = codes "gaps"
listing_words (Over range) = codes "over"
listing_words (Free range) = codes "free"
listing_words (Pieces range) = codes "pieces"

abbrev pub way_word : Way → List ℕ
way_word Both = codes "both"
way_word Either = codes "either"
way_word OverWay = codes "over"

abbrev pub kept_word : Kept → List ℕ
kept_word In = codes "in"
kept_word Without = codes "without"

abbrev pub amendment_sign : Amendment → List ℕ
amendment_sign Extend = codes "+="
amendment_sign Subtract = codes "-="

abbrev pub relation_word : Relation → List ℕ
relation_word Equals = codes "equals"
relation_word Subset = codes "subset"
relation_word Apart = codes "apart"

-- the words that name a command
abbrev pub words_of : {K : Type 0} → Command K → List ℕ
words_of (Change change) = change_words change
words_of (Ask question) = question_words question
words_of (Lists listing) = listing_words listing
words_of (Split key) = codes "split"
words_of (Compare relation other) = relation_word relation ++ 32 ∷ letter other ∷ []
words_of (Combine way first second) =
    codes "= " ++ letter first ∷ 32 ∷ way_word way ++ 32 ∷ letter second ∷ []
words_of (Keep kept first second) =
    codes "= " ++ letter first ∷ 32 ∷ kept_word kept ++ 32 ∷ letter second ∷ []
words_of (Amend amendment other) = amendment_sign amendment ++ 32 ∷ letter other ∷ []

-- the line is the letter of a map, a space, these words, and what follows them
abbrev pub BeginsWith : List ℕ → Name → List ℕ → Type 0
BeginsWith line name words = (fields : List ℕ) × (line ≡ letter name ∷ 32 ∷ words ++ fields)

abbrev pub Says : {K : Type 0} → List ℕ → Name → Command K → Type 0
Says line name command = BeginsWith line name (words_of command)
