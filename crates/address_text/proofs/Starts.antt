-- Lines that begin with more bytes than an address has.
use Rattle.std.proofs.Common.{◌≡◌, ℕ, ◌+◌, ◌-◌, ◌*◌, ◌≤◌, ◌<◌, Bool, true, false, List, [], ◌∷◌, ◌++◌, length, take, get_or, reverse, cond, eqb, ap, inl, inr, refl, sym, subst, ◌∙◌, length-append, arith}
use Rattle.std.proofs.Math.Seq.{take-append-add, take-length, take-nil}
use Rattle.std.proofs.lemmas.Bool.{cases_lt, false≢true}
use Rattle.std.proofs.lemmas.Fmt.{length-decimal-le}
use Rattle.std.proofs.lemmas.List.{append-nil, length-reverse, reverse-append, take-append-le}
use Rattle.std.proofs.lemmas.List.Folds.{prefix_len-append}
use Rattle.std.proofs.lemmas.List.Sums.{AllPass-from_list_all, prefix_len-le-length, suffix_len-take_no}
use Rattle.std.proofs.lemmas.Str.{is_utf8-from_IsUtf8, IsUtf8-from_is_utf8}
use Rattle.std.specs.Char.{is_ascii_whitespace}
use Rattle.std.specs.List.{after_first, before_first, list_all, position_or_len, prefix_len, suffix_len}
use Rattle.std.specs.Net.Grammar.{IsColonHex, IsDotted, IsGroupsAfter}
use Rattle.std.specs.Prelude.{codes, decimal}
use Rattle.std.specs.Str.{is_utf8}
use Rattle.address_text.specs.Faults.{IsAddress, IsExpected, IsWrong, IsWrongPrefix, blank_count}
use Rattle.address_text.specs.Lines.{IsSpan, Says, content, from_word, is_dash, is_hash, is_slash, trimmed}
use Rattle.address_text.specs.Starts.{HasOneFault, IsBadStart, is_plain}
use Rattle.address_text.specs.Texts.{IsAddressText}
use Rattle.address_text.specs.declared.family.Family.{Family}
use Rattle.address_text.specs.declared.family.Family.TheVariants.{V4, V6}
use Rattle.address_text.specs.declared.fault.Expected.{Expected}
use Rattle.address_text.specs.declared.fault.Expected.TheVariants.{Address}
use Rattle.address_text.specs.declared.line.Line.{Line}
use Rattle.address_text.specs.declared.line.Line.TheVariants.{Nothing, Addresses}

octet_short : (n : ℕ) → n < 256 → length (decimal n) ≤ 3
octet_short n small = length-decimal-le 3 n (omega arith) (omega (arith, small)) (omega (arith, small))

dotted_short : (text octets : List ℕ) → IsDotted text octets → length text ≤ 15
dotted_short text octets is =
    let (first, second, third, fourth) = is.fit in
    let one = octet_short is.a first in
    let two = octet_short is.b second in
    let three = octet_short is.c third in
    let four = octet_short is.d fourth in
    let whole = ap length is.spelled in
    grind (arith, length-append)

groups_short : (ipv4 : Bool) (lead text segments : List ℕ) → length lead ≤ 1
    → IsGroupsAfter ipv4 lead text segments → length text ≤ 5 * length segments + 16
groups_short ipv4 lead text [] small none = let whole = ap length none in omega (arith, whole)
groups_short ipv4 lead text (s ∷ segments) small (inl (group, rest, is, (number, four), more)) =
    let later = groups_short ipv4 (codes ":") rest segments (omega arith) more in
    let whole = ap length is ∙ length-append (lead ++ group) rest in
    let parts = length-append lead group in
    omega (arith, whole, parts, later, four, small)
groups_short ipv4 lead text (s ∷ segments) small (inr (last, octets, may, is, dotted, same)) =
    let short = dotted_short last octets dotted in
    let whole = ap length is ∙ length-append lead last in
    omega (arith, whole, short, small)

colon_hex_short : (text segments : List ℕ) → IsColonHex text segments → length text < 80
colon_hex_short text segments (inl (groups, eight)) =
    let short = groups_short true [] text segments (omega arith) groups in
    omega (arith, short, eight)
colon_hex_short text segments (inr is) =
    let first = groups_short false [] is.head_text is.head (omega arith) is.head_groups in
    let last = groups_short true [] is.tail_text is.tail (omega arith) is.tail_groups in
    let room = is.room in
    let whole = ap length is.spelled ∙ length-append (is.head_text ++ codes "::") is.tail_text in
    let parts = length-append is.head_text (codes "::") in
    omega (arith, whole, parts, first, last, room)

-- an address has fewer bytes
address_short : (family : Family) (text : List ℕ) (n : ℕ) → IsAddressText family text n
    → length text < 80
address_short V4 text n (address, is, same) =
    let short = dotted_short text _ is in omega (arith, short)
address_short V6 text n (address, is, same) = colon_hex_short text _ is

module _ (start : List ℕ) (long : 80 ≤ length start) (more : List ℕ) where
  not_written : (family : Family) (n : ℕ) → ¬ IsAddressText family (start ++ more) n
  not_written family n is =
      let short = address_short family (start ++ more) n is in
      let whole = length-append start more in
      omega (arith, short, whole, long)

  not_address : ¬ IsAddress (start ++ more)
  not_address address = not_written address.0 address.1.0 address.1.1

plain_first : (x : ℕ) (xs : List ℕ) → list_all is_plain (x ∷ xs) ≡ true → is_plain x ≡ true
plain_first x xs plain = grind arith

pub plain_later : (x : ℕ) (xs : List ℕ) → list_all is_plain (x ∷ xs) ≡ true
    → list_all is_plain xs ≡ true
plain_later x xs plain = grind arith

not_white : (x : ℕ) → is_plain x ≡ true → is_ascii_whitespace x ≡ false
not_white x plain = grind arith

not_hash : (x : ℕ) → is_plain x ≡ true → is_hash x ≡ false
not_hash x plain = grind arith

not_slash : (x : ℕ) → is_plain x ≡ true → is_slash x ≡ false
not_slash x plain = grind arith

not_dash : (x : ℕ) → is_plain x ≡ true → is_dash x ≡ false
not_dash x plain = grind arith

kept_first : (test : ℕ → Bool) (x : ℕ) (xs : List ℕ) → test x ≡ false
    → before_first test (x ∷ xs) ≡ x ∷ before_first test xs
kept_first test x xs none = grind arith

-- what fails the test stands before the first byte that passes it
kept_before : (test : ℕ → Bool) → ((x : ℕ) → is_plain x ≡ true → test x ≡ false)
    → (xs ys : List ℕ) → list_all is_plain xs ≡ true
    → before_first test (xs ++ ys) ≡ xs ++ before_first test ys
kept_before test fails [] ys plain = refl
kept_before test fails (x ∷ xs) ys plain =
    kept_first test x (xs ++ ys) (fails x (plain_first x xs plain))
    ∙ ap (λ rest. x ∷ rest) (kept_before test fails xs ys (plain_later x xs plain))

either_small : (first : Bool) (m n k : ℕ) → m ≤ k → n ≤ k → cond first m n ≤ k
either_small true m n k small other = small
either_small false m n k small other = other

-- white space at the end lies behind what has none
white_behind : (xs ys : List ℕ) → list_all is_plain xs ≡ true → 0 < length xs
    → suffix_len is_ascii_whitespace (xs ++ ys) ≤ length ys
white_behind xs ys plain some =
    let last : is_ascii_whitespace (get_or xs (length xs - 1) 0) ≡ false =
    not_white (get_or xs (length xs - 1) 0) (AllPass-from_list_all is_plain xs plain (length xs - 1) 0 (omega (arith, some))) in
    let none : prefix_len is_ascii_whitespace (reverse xs) ≡ 0 =
    ap (suffix_len is_ascii_whitespace) (sym (take-length xs))
    ∙ suffix_len-take_no is_ascii_whitespace xs (length xs) 0 some (omega arith) last in
    let split = prefix_len-append is_ascii_whitespace (reverse ys) (reverse xs) in
    let few = prefix_len-le-length is_ascii_whitespace (reverse ys) in
    let size = length-reverse ys in
    let whole = ap (prefix_len is_ascii_whitespace) (reverse-append xs ys) ∙ split in
    subst (λ n. n ≤ length ys) (sym whole)
    (either_small (eqb (prefix_len is_ascii_whitespace (reverse ys)) (length (reverse ys)))
    (length (reverse ys) + prefix_len is_ascii_whitespace (reverse xs))
    (prefix_len is_ascii_whitespace (reverse ys)) (length ys) (omega (arith, size, none))
    (omega (arith, few, size)))

from_word_same : (x : ℕ) (xs : List ℕ) → is_ascii_whitespace x ≡ false
    → from_word (x ∷ xs) ≡ x ∷ xs
from_word_same x xs none = grind arith

trimmed_behind : (xs ys : List ℕ) → list_all is_plain xs ≡ true → 0 < length xs
    → trimmed (xs ++ ys)
    ≡ xs ++ take (length ys - suffix_len is_ascii_whitespace (xs ++ ys)) ys
trimmed_behind [] ys plain some = absurd (omega (arith, some))
trimmed_behind (x ∷ xs) ys plain some =
    let whole = (x ∷ xs) ++ ys in
    let white = suffix_len is_ascii_whitespace whole in
    let few = white_behind (x ∷ xs) ys plain some in
    let size = length-append (x ∷ xs) ys in
    let kept : length whole - white ≡ length (x ∷ xs) + (length ys - white) =
    omega (arith, few, size) in
    ap (λ text. take (length text - suffix_len is_ascii_whitespace text) text)
    (from_word_same x (xs ++ ys) (not_white x (plain_first x xs plain)))
    ∙ ap (λ n. take n whole) kept ∙ take-append-add (x ∷ xs) ys (length ys - white)

module _ (start : List ℕ) (long : 80 ≤ length start) (plain : list_all is_plain start ≡ true)
  where
    -- what follows the start of a text without white space around it
    trimmed_from : (more : List ℕ) → (others : List ℕ) × (trimmed (start ++ more) ≡ start ++ others)
    trimmed_from more = (
      take (length more - suffix_len is_ascii_whitespace (start ++ more)) more,
      trimmed_behind start more plain (omega (arith, long)),
    )

    content_from : (rest : List ℕ) → (others : List ℕ) × (content (start ++ rest) ≡ start ++ others)
    content_from rest =
        let (others, is) = trimmed_from (before_first is_hash rest) in
        (others, ap trimmed (kept_before is_hash not_hash start rest plain) ∙ is)

    no_span : (text : List ℕ) (others : List ℕ) → text ≡ start ++ others → (strict : Bool)
        (family : Family) (first last : ℕ) → ¬ IsSpan strict family text first last
    no_span text others is strict family first last (inl (slash, span)) =
        not_written start long (before_first is_slash others) family span.address
        (subst (λ t. IsAddressText family t span.address)
        (ap (before_first is_slash) is ∙ kept_before is_slash not_slash start others plain)
        span.written)
    no_span text others is strict family first last (inr (inl (none, dash, span))) =
        let (later, trims) = trimmed_from (before_first is_dash others) in
        not_written start long later family first
        (subst (λ t. IsAddressText family t first)
        (ap (λ t. trimmed (before_first is_dash t)) is
        ∙ ap trimmed (kept_before is_dash not_dash start others plain) ∙ trims)
        span.from)
    no_span text others is strict family first last (inr (inr (none, other, written, same))) =
        not_written start long others family first
        (subst (λ t. IsAddressText family t first) is written)

    says_nothing_known : (rest : List ℕ) (strict : Bool) (said : Line)
        → ¬ Says strict (start ++ rest) said
    says_nothing_known rest strict Nothing empty =
        let (others, is) = content_from rest in
        let none = ap length (sym is ∙ empty) in
        let size = length-append start others in
        omega (arith, none, size, long)
    says_nothing_known rest strict (Addresses family first last) (text, span) =
        let (others, is) = content_from rest in
        no_span (content (start ++ rest)) others is strict family first last span

    no_address : (text others : List ℕ) → text ≡ start ++ others → ¬ IsAddress text
    no_address text others is address =
        not_address start long others (subst IsAddress is address)

    wrong : (text others : List ℕ) → text ≡ start ++ others → IsWrong text Address 0
    wrong text others is =
        let lacks : ¬ IsAddress (before_first is_slash text) =
        no_address (before_first is_slash text) (before_first is_slash others)
        (ap (before_first is_slash) is ∙ kept_before is_slash not_slash start others plain) in
        let no_prefix : IsWrongPrefix (before_first is_slash text) (after_first is_slash text) Address 0 =
        (refl, lacks) in
        elim (cases_lt (position_or_len is_slash text) (length text)) [
          | inl slash ↦ inl (slash, no_prefix)
          | inr none ↦ elim (cases_lt (position_or_len is_dash text) (length text)) [
            | inl dash ↦
                let (later, trims) = trimmed_from (before_first is_dash others) in
                inr (inl (
                  λ has. omega (arith, has, none),
                  dash,
                  inl (
                    no_address (trimmed (before_first is_dash text)) later
                        (ap (λ t. trimmed (before_first is_dash t)) is
                        ∙ ap trimmed (kept_before is_dash not_dash start others plain) ∙ trims),
                    refl,
                    refl,
                  ),
                ))
            | inr other ↦ inr (inr (
              λ has. omega (arith, has, none),
              λ has. omega (arith, has, other),
              refl,
              refl,
            ))
          ]
        ]

    expected_where : (text others : List ℕ) → text ≡ start ++ others → (told : Bool)
        → is_utf8 text ≡ told → IsExpected text Address 0
    expected_where text others is true told =
        inl (IsUtf8-from_is_utf8 text told, wrong text others is)
    expected_where text others is false told = inr (
      λ utf8. absurd (false≢true (sym told ∙ is_utf8-from_IsUtf8 text utf8)),
      refl,
      refl,
    )

    expected : (text others : List ℕ) → text ≡ start ++ others → IsExpected text Address 0
    expected text others is = expected_where text others is (is_utf8 text) refl

    no_blanks : (xs ys : List ℕ) → list_all is_plain xs ≡ true → 0 < length xs
        → blank_count (xs ++ ys) ≡ 0
    no_blanks [] ys none some = absurd (omega (arith, some))
    no_blanks (x ∷ xs) ys other some =
        let first = not_white x (plain_first x xs other) in grind arith

    -- a line with this start is bad, whatever comes next
    pub bad_start : IsBadStart start
    bad_start rest =
        let (others, is) = content_from rest in record {
          nothing = λ strict said. says_nothing_known rest strict said;
          unwritten =
              λ family n written. not_written start long others family n
              (subst (λ t. IsAddressText family t n) is written);
          fault =
              let blanks = no_blanks start rest plain (omega (arith, long)) in
              (0, omega (arith, blanks), expected (content (start ++ rest)) others is);
          found = ap (take 40) is ∙ take-append-le 40 start others (omega (arith, long));
        }

    content_same : content start ≡ start
    content_same =
        let none : before_first is_hash start ≡ start =
        ap (before_first is_hash) (sym (append-nil start))
        ∙ kept_before is_hash not_hash start [] plain ∙ append-nil start in
        ap trimmed (none ∙ sym (append-nil start))
        ∙ trimmed_behind start [] plain (omega (arith, long))
        ∙ ap (λ others. start ++ others)
        (take-nil (length {A = ℕ} [] - suffix_len is_ascii_whitespace (start ++ [])))
        ∙ append-nil start

    lacks_byte : (test : ℕ → Bool) → ((x : ℕ) → is_plain x ≡ true → test x ≡ false) → (xs : List ℕ)
        → list_all is_plain xs ≡ true → position_or_len test xs ≡ length xs
    lacks_byte test fails [] none = refl
    lacks_byte test fails (x ∷ xs) all =
        let first = fails x (plain_first x xs all) in
        let later = lacks_byte test fails xs (plain_later x xs all) in grind arith

    lone_fault : (place : ℕ) (expected : Expected) → IsExpected start expected place
        → (place ≡ 0) × (expected ≡ Address)
    lone_fault place expected (inl (utf8, inl (slash, wrong))) =
        absurd (omega (arith, slash, lacks_byte is_slash not_slash start plain))
    lone_fault place expected (inl (utf8, inr (inl (none, dash, wrong)))) =
        absurd (omega (arith, dash, lacks_byte is_dash not_dash start plain))
    lone_fault place expected (inl (utf8, inr (inr (none, other, is, at)))) = (at, is)
    lone_fault place expected (inr (other, is, at)) = (at, is)

    pub one_fault : HasOneFault start
    one_fault column expected (place, at, is) =
        let (first, address) =
        lone_fault place expected (subst (λ text. IsExpected text expected place) content_same is) in
        let blanks : blank_count start ≡ 0 =
        ap blank_count (sym (append-nil start)) ∙ no_blanks start [] plain (omega (arith, long)) in
        (omega (arith, at, first, blanks), address)
