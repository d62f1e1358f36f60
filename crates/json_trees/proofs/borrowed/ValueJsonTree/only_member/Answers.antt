use Rattle.std.proofs.Common.{◌≡◌, sym, ap, ◌∙◌, Some, None, option_map, rules}
use Rattle.std.proofs.lemmas.Option.{none-some}
use Rattle.json.proofs.Trees.{view-Object}
use Rattle.json.specs.Value.{value_view, members_view}
use Rattle.serde_json.specs.Data.{object, no_members}
use Rattle.serde_json.specs.Find.{get}
use Rattle.json_trees.specs.Borrowed.{borrowed_data, data_of, members_data}
use Rattle.json_trees.specs.LookUps.{only_member_of}
use Rattle.json_trees.proofs.Seen.{alone_found, get_seen}
use Rattle.json_trees.proofs.borrowed.ValueJsonTree.only_member.Goals as goal

pub returns-in_err-name-in-Object : goal.returns-in_err-name-in-Object
returns-in_err-name-in-Object c =
    let ms = members_data (members_view c.as_slice.result.now) no_members in
    let seen : borrowed_data c.args.self.now ≡ object ms =
    ap borrowed_data c.in-Object.is ∙ ap data_of (view-Object c.in-Object.members)
    ∙ ap (λ l. object (members_data (members_view l) no_members)) (sym c.as_slice.ensures.value) in
    let left : c.from_residual.result ≡ None = search rules in
    ap (option_map (λ m. (m.0.now, borrowed_data m.1.now))) left
    ∙ sym (ap only_member_of seen ∙ c.in_err-name-in-Object.ensures)

pub returns-in_err-get-in-Object : goal.returns-in_err-get-in-Object
returns-in_err-get-in-Object c =
    let name = c.in_ok-name-in-Object.name.now in
    let ms = members_data (members_view c.as_slice.result.now) no_members in
    let seen : borrowed_data c.args.self.now ≡ object ms =
    ap borrowed_data c.in-Object.is ∙ ap data_of (view-Object c.in-Object.members)
    ∙ ap (λ l. object (members_data (members_view l) no_members)) (sym c.as_slice.ensures.value) in
    let named = c.in_ok-name-in-Object.ensures in
    absurd (none-some named.0 (ap (option_map data_of) c.in_err-get-in-Object.ensures
    ∙ get_seen name (value_view c.args.self.now) ∙ ap (get name) seen
    ∙ alone_found ms name named.0 named.1))

pub returns-in_ok-get-in-Object : goal.returns-in_ok-get-in-Object
returns-in_ok-get-in-Object c =
    let name = c.in_ok-name-in-Object.name.now in
    let ms = members_data (members_view c.as_slice.result.now) no_members in
    let seen : borrowed_data c.args.self.now ≡ object ms =
    ap borrowed_data c.in-Object.is ∙ ap data_of (view-Object c.in-Object.members)
    ∙ ap (λ l. object (members_data (members_view l) no_members)) (sym c.as_slice.ensures.value) in
    let named = c.in_ok-name-in-Object.ensures in
    let found : Some (borrowed_data c.in_ok-get-in-Object.field-0.now) ≡ Some named.0 =
    ap (option_map data_of) c.in_ok-get-in-Object.ensures
    ∙ get_seen name (value_view c.args.self.now) ∙ ap (get name) seen
    ∙ alone_found ms name named.0 named.1 in
    ap (option_map (λ e. (name, e))) found ∙ sym (ap only_member_of seen ∙ named.1)
