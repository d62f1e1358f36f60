use Rattle.std.proofs.Common.{◌≡◌, [], ◌∷◌, List, ap, sym, subst, ◌∙◌}
use Rattle.std.proofs.lemmas.Result.{err_from_is_err_and}
use Rattle.std.specs.Prelude.{IfErr, map}
use Rattle.std.specs.Vec.Iter.{into_iter_items}
use Rattle.cidr.specs.declared.serve.Source.{Source}
use Rattle.cidr.proofs.Commands.{AreUnread, asked_all, first_unread, none_asked, nothing_left, others_unread}
use Rattle.cidr.proofs.serve.put_together.Goals as goal

pub returns-in_ok-first-in-Some-clause-made : goal.returns-in_ok-first-in-Some-clause-made
returns-in_ok-first-in-Some-clause-made g c =
    let steps : into_iter_items c.args.sources ≡ c.in-Some.source ∷ into_iter_items c.next.new.self =
    c.in-Some.ensures.items in
    asked_all c.args.reading c.args.command (g.R.Read.remaining c.in-Some.source.reader) _ _
    c.args.left_out.now.items c.read_source.new.left_out.items c.gathered.new.left_out.items
    c.in_ok-first-in-Some.first c.gathered.result (ap (map (λ (s : Source _). g.R.Read.remaining s.reader)) steps)
    c.in_ok-first-in-Some.ensures.read c.gathered.ensures.made

pub returns-in_ok-first-in-Some-clause-bad : goal.returns-in_ok-first-in-Some-clause-bad
returns-in_ok-first-in-Some-clause-bad g c =
    let steps : into_iter_items c.args.sources ≡ c.in-Some.source ∷ into_iter_items c.next.new.self =
    c.in-Some.ensures.items in
    subst (λ (all : List (Source _)). IfErr c.gathered.result (AreUnread c.args.reading
    (map (λ (s : Source _). g.R.Read.remaining s.reader) all) (map (λ (s : Source _). s.name) all)))
    (sym steps)
    (others_unread c.args.reading (g.R.Read.remaining c.in-Some.source.reader) _
    c.in-Some.source.name _ c.args.left_out.now.items c.read_source.new.left_out.items
    c.in_ok-first-in-Some.first c.gathered.result c.in_ok-first-in-Some.ensures.read
    c.gathered.ensures.bad)

pub returns-in-None-clause-made : goal.returns-in-None-clause-made
returns-in-None-clause-made g c =
    let ended : into_iter_items c.args.sources ≡ [] =
    nothing_left _ (sym c.requires ∙ c.in-None.ensures.cases.0) in
    none_asked c.args.reading c.args.command c.args.left_out.now.items c.new.result _
    (ap (map (λ (s : Source _). g.R.Read.remaining s.reader)) ended) c.new.ensures.v4 c.new.ensures.v6

pub returns-in_err-first-in-Some-clause-bad : goal.returns-in_err-first-in-Some-clause-bad
returns-in_err-first-in-Some-clause-bad g c =
    let error = err_from_is_err_and c.from_residual.result c.from_residual.ensures.1 in
    let steps : into_iter_items c.args.sources ≡ c.in-Some.source ∷ into_iter_items c.next.new.self =
    c.in-Some.ensures.items in
    rw (error.1, error.2)
    (subst (λ (all : List (Source _)). AreUnread c.args.reading
    (map (λ (s : Source _). g.R.Read.remaining s.reader) all) (map (λ (s : Source _). s.name) all)
    c.in_err-first-in-Some.field-0.0)
    (sym steps)
    (first_unread c.args.reading (g.R.Read.remaining c.in-Some.source.reader) _
    c.in-Some.source.name _ c.in_err-first-in-Some.field-0.0 c.in_err-first-in-Some.ensures.bad))
