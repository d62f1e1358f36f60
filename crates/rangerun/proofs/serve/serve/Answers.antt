use Rattle.std.proofs.Common.{arith, ◌≡◌, ◌∷◌, [], inl, inr}
use Rattle.std.specs.Prelude.{codes, map, string_bytes}
use Rattle.std.proofs.lemmas.Grind.{common_steps}
use Rattle.line_program.proofs.Conversations.{stopped_as}
use Rattle.rangerun.proofs.serve.serve.Goals as goal

pub returns-in-u8-clause-unread : goal.returns-in-u8-clause-unread
returns-in-u8-clause-unread g c = λ failed.
    let words_are : map string_bytes c.args.words.now ≡ codes "u8" ∷ [] =
    grind (arith, common_steps) in
    stopped_as _ _ _ _ _ _ _ (λ bytes text rest talk. inl (words_are, talk))
    (c.serve_keys.ensures.unread failed)

pub returns-in-u8-clause-served : goal.returns-in-u8-clause-served
returns-in-u8-clause-served g c = grind (arith, common_steps)

pub returns-in-u8-clause-usage : goal.returns-in-u8-clause-usage
returns-in-u8-clause-usage g c = grind (arith, common_steps)

pub returns-in-u8-clause-run : goal.returns-in-u8-clause-run
returns-in-u8-clause-run g c = grind (arith, common_steps)

pub returns-in-i32-clause-unread : goal.returns-in-i32-clause-unread
returns-in-i32-clause-unread g c = λ failed.
    let words_are : map string_bytes c.args.words.now ≡ codes "i32" ∷ [] =
    grind (arith, common_steps) in
    stopped_as _ _ _ _ _ _ _ (λ bytes text rest talk. inr (words_are, talk))
    (c.serve_keys-in-i32.ensures.unread failed)

pub returns-in-i32-clause-served : goal.returns-in-i32-clause-served
returns-in-i32-clause-served g c = grind (arith, common_steps)

pub returns-in-i32-clause-usage : goal.returns-in-i32-clause-usage
returns-in-i32-clause-usage g c = grind (arith, common_steps)

pub returns-in-i32-clause-run : goal.returns-in-i32-clause-run
returns-in-i32-clause-run g c = grind (arith, common_steps)
