use Rattle.std.proofs.Common.{arith, ap, ◌∙◌, [], ◌∷◌, take, None}
use lib.ListN.{get_or}
use lib.Seq.{drop-cons}
use Rattle.circular_buffer.proofs.Memory.{filled_within}
use Rattle.item_cells.proofs.block.Block.get.Goals as goal

pub items-requires : goal.items-requires
items-requires g c =
    let cells = c.self.inside.memory.cells in
    let i = c.args.index in
    let item = c.requires.0 in
    let filled = ap (λ had. get_or had i None) c.self.view_is ∙ c.requires.1 in
    let within = filled_within cells i item filled in
    (omega (arith, within), (item ∷ [], ap (take 1) (drop-cons cells i None within) ∙ ap (λ first. first ∷ []) filled))
