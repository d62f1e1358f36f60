use Rattle.std.proofs.Common.{◌≡◌, ◌^◌, ℕ, List, ◌++◌, OnOk, append_assoc, refl, subst}
use Rattle.std.specs.Prelude.{codes, decimal}
use Rattle.std.specs.Fmt.{digits}
use Rattle.std.specs.Io.KnownBytes.{Appends}
use Rattle.address_lists.specs.Counted.{count_line}
use Rattle.address_lists.proofs.count.write_all.Goals as goal
use Rattle.std.proofs.Common.{rules}

all_digits : decimal (2 ^ 128) ≡ codes "340282366920938463463374607431768211456"
unfolding digits
all_digits = refl

-- what is written in parts, as one text
whole_line : (before family : List ℕ) → before ++ (family
    ++ codes " 340282366920938463463374607431768211456\n") ≡ count_line before family (2 ^ 128)
whole_line before family = search (rules, append_assoc, all_digits)

pub returns : goal.returns
returns g c =
    subst (λ text. OnOk c.writeln.result (Appends (g.W.Write.contents c.args.out.now)
    (g.W.Write.contents c.writeln.new.self) text)) (whole_line c.args.before.now c.args.family.now)
    c.writeln.ensures.bytes
