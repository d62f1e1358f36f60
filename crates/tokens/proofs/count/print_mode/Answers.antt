use Rattle.std.proofs.Common.{◌≡◌, ◌∙◌, length, arith}
use Rattle.lexing.specs.Lexers.{rule_count}
use Rattle.tokens.proofs.Counting.{counts_none, written_over}
use Rattle.tokens.proofs.count.print_mode.Goals as goal

pub returns : goal.returns
returns g c =
    let zero = counts_none c.rule_count.result c.deref_mut.result.now
    (c.deref_mut.ensures.value ∙ c.in_ok-counts.ensures.items_if_clones_equal (λ y e. e)) in
    let (numbers, has, are) = c.in_ok-is_whole.ensures.counted zero in
    let same : c.deref.result.now ≡ c.count_tokens.new.counts =
    c.deref.ensures.value ∙ written_over c.in_ok-counts.counts.len c.count_tokens.new.counts _
    (c.count_tokens.ensures.len ∙ c.deref_mut.ensures.len) in
    let many : length c.deref.result.now ≡ rule_count c.lexer-lexer.result.now = grind arith in
    let (said, lines, appended) = c.in_ok-write_counts.ensures numbers many (rw same are) in
    (said, (c.in-Some.machine.now, numbers, c.in-Some.ensures, has, rw c.lexer-lexer.ensures at lines), appended)
