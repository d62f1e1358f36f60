use Rattle.std.proofs.Common.{◌≡◌, true}
use Rattle.range_bulk.proofs.sorted.is_next.Goals as goal

pub returns-in-Some-clause-next : goal.returns-in-Some-clause-next
returns-in-Some-clause-next g c =
    rw c.in-Some.is (
      λ holds. (
        λ empty.
            let is : c.is_empty.result ≡ true = c.is_empty.ensures.by_position.1 empty in
            absurd (cc),
        c.lies_before.ensures.0 holds,
      ),
      λ next. c.lies_before.ensures.1 next.1,
    )
