use Rattle.std.proofs.Common.{◌≡◌, take, arith}
use Rattle.std.proofs.lemmas.Grind.{common_steps}
use Rattle.address_text.proofs.Excerpts.{excerpt_is}
use Rattle.address_text.proofs.excerpt.Excerpt.new.Goals as goal

pub returns : goal.returns
returns c =
    let is : c.copy_from_slice.new.self ≡ take c.min-count.result c.args.text.now =
    grind (arith, common_steps) in
    excerpt_is c.args.text.now c.copy_from_slice.new.self _ c.min-count.result 40 is (omega arith)
    (omega arith) (λ less. omega arith)
