use Rattle.std.proofs.Common.{refl, [], ◌∷◌, map, take, take_all, arith}
use Rattle.std.proofs.lemmas.List.{length-map, map-append}
use Rattle.tokens.specs.Heads.{texts_of}
use Rattle.tokens.proofs.Lists.{contains_at, take_item}
use Rattle.tokens.proofs.ModeNames.{each_named, first_named, heads_more, line_at}
use Rattle.tokens.proofs.heads.heads_of.Goals as goal

pub loop-at-init : goal.loop-at-init
loop-at-init c = record {
  heads = rw c.new-modes.ensures.items (first_named (texts_of c.args.lines.now) (texts_of c.push_copy.new.items.items)
      (rw (c.in_ok-push_copy.ensures.pushed, c.new-names.ensures.items) refl));
  few = rw (c.in_ok-push_copy.ensures.pushed, c.new-names.ensures.items) (omega arith);
}

pub loop-at-preserved : goal.loop-at-preserved
loop-at-preserved c =
    let all = texts_of c.args.lines.now in
    let at = c.loop-at.at in
    let new = c.in_ok-numbers.ensures in
    let numbers = c.in_ok-numbers.numbers in
    let modes = c.loop-at.modes.items in
    let (line, there, trimmed) =
    line_at c.args.lines.now at _ c.trim.result.now (omega arith) c.trim.ensures.trim in
    record {
      heads = rw (
        take_item all at line there,
        c.in_ok-push.ensures.items,
        map-append (λ row. row.items) modes (numbers ∷ []),
      )
          (heads_more all (texts_of c.loop-at.names.items) (texts_of c.numbers_of.new.names.items)
          (take at all) (map (λ row. row.items) modes) line numbers.items c.loop-at.invariant.heads
          new.kept (rw trimmed at new.added) (contains_at all at line there) (rw trimmed at new.numbers));
      few = new.few;
    }

pub returns-clause-modes : goal.returns-clause-modes
returns-clause-modes c =
    let all = texts_of c.args.lines.now in
    let names = texts_of c.loop-at.names.items in
    let modes = map (λ numbers. numbers.items) c.loop-at.modes.items in
    let count = length-map c.args.lines.now (λ text. text.now) in
    let heads = rw (take_all c.loop-at.at all (omega (arith, count))) at c.loop-at.invariant.heads.heads in
    record {
      first = c.loop-at.invariant.heads.first;
      others = c.loop-at.invariant.heads.others;
      each = each_named all names modes heads;
    }

pub returns-clause-numbers : goal.returns-clause-numbers
returns-clause-numbers c =
    let all = texts_of c.args.lines.now in
    let count = length-map c.args.lines.now (λ text. text.now) in
    rw (take_all c.loop-at.at all (omega (arith, count))) at c.loop-at.invariant.heads.heads
