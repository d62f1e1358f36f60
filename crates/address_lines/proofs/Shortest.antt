-- How short addresses are, and texts without a mark at the end.
use Rattle.std.proofs.Common.{◌≡◌, ℕ, ◌+◌, ◌≤◌, ◌<◌, List, ◌++◌, length, refl, subst, sym, length-append, arith}
use Rattle.std.proofs.lemmas.Fmt.{decimal_nonempty}
use Rattle.std.proofs.lemmas.Grind.{common_steps}
use Rattle.std.specs.Prelude.{codes, decimal}
use Rattle.std.specs.Io.BufRead.{strip_last}
use Rattle.std.specs.Net.Grammar.{IsIpv4Text}
use Rattle.std.specs.declared.net.ipv4_addr.Ipv4Addr.{Ipv4Addr}
use Rattle.address_lines.specs.Words.{without_mark}

octet_length : (n : ℕ) → n < 256 → 1 ≤ length (decimal n)
octet_length n small = decimal_nonempty n (omega (arith, small))

-- a dot and a number behind a text make it longer by two at least
one_more : (n least : ℕ) (text : List ℕ) → n < 256 → least ≤ length text
    → least + 2 ≤ length (text ++ codes "." ++ decimal n)
one_more n least text small enough =
    let dot : length (codes ".") ≡ 1 = refl in
    omega (
      arith,
      dot,
      octet_length n small,
      enough,
      length-append (text ++ codes ".") (decimal n),
      length-append text (codes "."),
    )

-- an address of IPv4 is at least as long as `0.0.0.0`
pub ipv4_length : (text : List ℕ) (address : Ipv4Addr) → IsIpv4Text text address
    → 7 ≤ length text
ipv4_length text address is =
    let (a, b, c, d) = is.fit in
    subst (λ text. 7 ≤ length text) (sym is.spelled)
    (one_more is.d 5 _ d (one_more is.c 3 _ c (one_more is.b 1 _ b (octet_length is.a a))))

-- a text that is not made shorter stays as it is
pub strip_same : (byte : ℕ) (text : List ℕ) → length text ≤ length (strip_last byte text)
    → strip_last byte text ≡ text
strip_same byte text long = grind (arith, common_steps)

pub without_mark_same : (text : List ℕ) → length text ≤ length (without_mark text)
    → without_mark text ≡ text
without_mark_same text long = grind (arith, common_steps, strip_same)
