use Rattle.std.proofs.Common.{◌≡◌, ℕ, List, length}
use Rattle.std.specs.Prelude.{map}
use Rattle.std.specs.Vec.Iter.{into_iter_items, into_iter_len}
use Rattle.address_lists.specs.Lists.{Has, HasJust}
use Rattle.cidr.specs.Commands.{AreKnown, Put}
use Rattle.cidr.proofs.Commands.{IsReadTo}
use Rattle.cidr.proofs.serve.gathered.Given as goal

abbrev pub invariant-loop-source : goal.invariant-loop-source
invariant-loop-source g l = (into_iter_len l.sources ≡ length (into_iter_items l.sources))
    × ((files : List (List ℕ))
    → AreKnown (map (λ s. g.R.Read.remaining s.reader) (into_iter_items l.fn.sources)) files
    → IsReadTo l.reading l.fn.left_out.items
    (map (λ s. s.name) (into_iter_items l.fn.sources)) files
    (map (λ s. g.R.Read.remaining s.reader) (into_iter_items l.sources))
    (map (λ s. s.name) (into_iter_items l.sources)) l.left_out.items
    (λ lists. HasJust l.list (Put l.command (Has l.fn.list) lists)))

abbrev pub decreases-loop-source : goal.decreases-loop-source
decreases-loop-source g l = length (into_iter_items l.sources)
