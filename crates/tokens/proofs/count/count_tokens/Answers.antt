use Rattle.std.proofs.Common.{◌≡◌, refl, sym, ap, ◌∙◌, ◌&&◌}
use Rattle.tokens.specs.Counts.{rules_in}
use Rattle.tokens.specs.Printing.{are_tokens}
use Rattle.tokens.proofs.Written.{all_more, given_from, rules_more}
use Rattle.tokens.proofs.count.count_tokens.Goals as goal

pub loop-next-preserved : goal.loop-next-preserved
loop-next-preserved c =
    let was = c.loop-next.invariant in
    let items = c.loop-next.yielded in
    let next = c.in-Some.next in
    let is_one = c.in_ok-is_one.is_one in
    record {
      len = c.in_ok-is_one.ensures.len ∙ was.len;
      whole = c.both-is_whole.ensures ∙ ap (λ b. b && is_one) was.whole
          ∙ ap (λ b. are_tokens items && b) c.in_ok-is_one.ensures.token ∙ sym (all_more items next);
      counted = λ zero. rw (rules_more c.args.mode items next)
          (c.in_ok-is_one.ensures.counted (rules_in c.args.mode items) (was.counted zero));
    }

pub returns-clause-counted : goal.returns-clause-counted
returns-clause-counted c =
    let same : c.into_iter-next-iterator.result ≡ c.tokens-next-items.result = cc in λ zero. (
      rules_in c.args.mode c.loop-next.yielded,
      (
        c.loop-next.yielded,
        given_from c.args.printer.now.modes.now c.args.text.now c.tokens-next-items.result
            c.into_iter-next-iterator.result c.next.new.self c.loop-next.yielded same c.tokens-next-items.ensures.whole
            (c.loop-next.next-iterator, c.loop-next.yielded_by, c.in-None.ensures.steps),
        c.loop-next.invariant.whole,
        refl,
      ),
      c.loop-next.invariant.counted zero,
    )
