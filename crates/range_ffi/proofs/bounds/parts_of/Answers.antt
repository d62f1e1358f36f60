use Rattle.range_ffi.proofs.Flags.{range_said}
use Rattle.range_ffi.proofs.bounds.parts_of.Goals as goal

pub returns : goal.returns
returns g c =
    rw (c.key_of.ensures, c.key_of-2.ensures, c.flag_of-start_flag.ensures, c.flag_of-end_flag.ensures)
    (range_said c.args.range.now.start c.args.range.now.end c.args.other)
