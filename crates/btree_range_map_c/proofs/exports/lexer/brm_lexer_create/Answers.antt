use Rattle.btree_range_map_c.proofs.exports.lexer.brm_lexer_create.Goals as goal

pub returns-in-Ok-clause-created : goal.returns-in-Ok-clause-created
returns-in-Ok-clause-created c = λ done. (
  c.in-Ok.machine,
  c.fill.ensures.filled done,
  c.in-Ok.ensures.machine,
  c.in-Ok.ensures.few,
)
