-- What a borrowed value's look-ups find in the data that it stands for.
use Rattle.std.proofs.Common.{◌≡◌, refl, sym, ap, ◌∙◌, ℕ, List, [], ◌∷◌, map, Bool, true, false, true≢false, ◌||◌, ◌&&◌, cond, is_some, bytes_eq, Option, Some, None, option_map, option_and_then, Ordering, Less, Equal, Greater, nat_cmp, is_eq}
use Rattle.std.proofs.lemmas.Bool.{and_parts}
use Rattle.std.proofs.lemmas.Cmp.{nat_list_cmp_total, tied_itself}
use Rattle.std.proofs.lemmas.Map.Text.{is_eq-slice_cmp}
use Rattle.std.proofs.lemmas.Option.{none-some, same_Some}
use Rattle.std.proofs.lemmas.Slice.Eq.{bytes_eq-Decides}
use Rattle.std.specs.Borrow.{Bor}
use Rattle.std.specs.Cmp.Lexicographic.{slice_cmp}
use Rattle.std.specs.List.{slice_get}
use Rattle.std.specs.Ordering.{match_ordering}
use Rattle.json.specs.Json as json
use Rattle.json.specs.Find as find
use Rattle.json.specs.Value.{value_view, items_view}
use Rattle.json.specs.declared.value.Value.{Value}
use Rattle.serde_json.specs.Data.{Num, Data, number, array, object, Items, item, Members, no_members, member, put}
use Rattle.serde_json.specs.Find.{get_member, get}
use Rattle.serde_json.specs.Read.{number_of, of_json, of_items, of_members}
use Rattle.serde_json.specs.View.{items_of}
use Rattle.serde_json.proofs.Views.{get_member-put, get_member-put_other}
use Rattle.json_trees.specs.LookUps.{alone, are_named}
use Rattle.json_trees.specs.Borrowed.{or_float, data_of, items_data, members_data, is_readable, are_readable, members_are_readable, borrowed_data}

-- ---- what is read of a text

with_number : (n : Option Num) → option_map number n ≡ cond (is_some n) (Some (number (or_float n))) None
with_number None = refl
with_number (Some n) = refl

with_array : (b : Bool) (ds : Items) → option_map array (cond b (Some ds) None) ≡ cond b (Some (array ds)) None
with_array true ds = refl
with_array false ds = refl

with_object : (b : Bool) (ms : Members) → option_map object (cond b (Some ms) None) ≡ cond b (Some (object ms)) None
with_object true ms = refl
with_object false ms = refl

with_item : (a b : Bool) (d : Data) (ds : Items)
    → option_and_then (λ e. option_map (item e) (cond b (Some ds) None)) (cond a (Some d) None)
    ≡ cond (a && b) (Some (item d ds)) None
with_item true true d ds = refl
with_item true false d ds = refl
with_item false b d ds = refl

with_member : (a : Bool) (d : Data) (b : Bool) (f : Data → Option Members) (ms : Members)
    → f d ≡ cond b (Some ms) None
    → option_and_then f (cond a (Some d) None) ≡ cond (a && b) (Some ms) None
with_member true d b f ms h = h
with_member false d b f ms h = refl

mutual
  pub json_read : (j : json.Json) → of_json j ≡ cond (is_readable j) (Some (data_of j)) None
  json_read json.null = refl
  json_read (json.boolean b) = refl
  json_read (json.number s) = with_number (number_of s)
  json_read (json.string s) = refl
  json_read (json.array js) = ap (option_map array) (items_read js) ∙ with_array (are_readable js) (items_data js)
  json_read (json.object ms) =
      ap (option_map object) (members_read ms no_members)
      ∙ with_object (members_are_readable ms) (members_data ms no_members)

  items_read : (js : json.Items) → of_items js ≡ cond (are_readable js) (Some (items_data js)) None
  items_read json.no_items = refl
  items_read (json.item j js) =
      rw (json_read j, items_read js)
      (with_item (is_readable j) (are_readable js) (data_of j) (items_data js))

  members_read : (ms : json.Members) (found : Members)
      → of_members ms found ≡ cond (members_are_readable ms) (Some (members_data ms found)) None
  members_read json.no_members found = refl
  members_read (json.member k j ms) found =
      rw (json_read j)
      (with_member (is_readable j) (data_of j) (members_are_readable ms)
      (λ d. of_members ms (put k d found)) (members_data ms (put k (data_of j) found))
      (members_read ms (put k (data_of j) found)))

-- ---- elements

pub elements_seen : {A : Type 0} → (vs : List (Value A))
    → items_of (map borrowed_data vs) ≡ items_data (items_view vs)
elements_seen [] = refl
elements_seen (v ∷ vs) = ap (item (borrowed_data v)) (elements_seen vs)

-- ---- members by name

abbrev or_found : Option Data → Option Data → Option Data
or_found None earlier = earlier
or_found (Some d) earlier = Some d

put_found : (name k : List ℕ) (d : Data) (ms : Members) (b : Bool) → bytes_eq k name ≡ b
    → get_member name (put k d ms) ≡ or_found (cond b (Some d) None) (get_member name ms)
put_found name k d ms true e =
    ap (λ n. get_member n (put k d ms)) (sym ((bytes_eq-Decides k name).0 e)) ∙ get_member-put k d ms
put_found name k d ms false e =
    get_member-put_other name k d ms
    (λ same. true≢false (sym ((bytes_eq-Decides k name).1 (sym same)) ∙ e))

later : (o : Option json.Json) (b : Bool) (j : json.Json) (found : Option Data)
    → or_found (option_map data_of o) (or_found (cond b (Some (data_of j)) None) found)
    ≡ or_found (option_map data_of (find.later_or o (cond b (Some j) None))) found
later (Some i) b j found = refl
later None true j found = refl
later None false j found = refl

pub member_seen : (name : List ℕ) (ms : json.Members) (found : Members)
    → get_member name (members_data ms found)
    ≡ or_found (option_map data_of (find.get_member name ms)) (get_member name found)
member_seen name json.no_members found = refl
member_seen name (json.member k j ms) found =
    member_seen name ms (put k (data_of j) found)
    ∙ ap (or_found (option_map data_of (find.get_member name ms)))
    (put_found name k (data_of j) found (bytes_eq k name) refl)
    ∙ later (find.get_member name ms) (bytes_eq k name) j (get_member name found)

or_none : (o : Option Data) → or_found o None ≡ o
or_none None = refl
or_none (Some d) = refl

pub get_seen : (name : List ℕ) (j : json.Json)
    → option_map data_of (find.get name j) ≡ get name (data_of j)
get_seen name json.null = refl
get_seen name (json.boolean b) = refl
get_seen name (json.number s) = refl
get_seen name (json.string s) = refl
get_seen name (json.array js) = refl
get_seen name (json.object ms) = sym (member_seen name ms no_members ∙ or_none _)

pub of_ref : {A : Type 0} (r : Option (Bor (Value A)))
    → option_map (λ v. borrowed_data v.now) r
    ≡ option_map data_of (option_map (λ v. value_view v.now) r)
of_ref None = refl
of_ref (Some v) = refl

-- ---- a member that is alone

at_equal : {X : Type 0} (o : Ordering) (a b c : X) → o ≡ Equal → match_ordering o a b c ≡ b
at_equal o a b c e = ap (λ p. match_ordering p a b c) e

put_same : (k l : List ℕ) (d e : Data) → bytes_eq l k ≡ true
    → put l e (member k d no_members) ≡ member k e no_members
put_same k l d e h =
    let same : l ≡ k = (bytes_eq-Decides l k).0 h in
    at_equal (slice_cmp nat_cmp l k) (member l e (member k d no_members)) (member k e no_members)
    (member k d (member l e no_members))
    (ap (λ m. slice_cmp nat_cmp m k) same ∙ tied_itself nat_list_cmp_total k)

pub begins_with : {X : Type 0} (xs : List X) (x : X) → Some x ≡ slice_get xs 0
    → (rest : List X) × (xs ≡ x ∷ rest)
begins_with [] x e = absurd (none-some x (sym e))
begins_with (y ∷ ys) x e = (ys, ap (λ z. z ∷ ys) (sym (same_Some x y e)))

-- each member has this name
abbrev pub all_alike : List ℕ → json.Members → Bool
all_alike k json.no_members = true
all_alike k (json.member l j ms) = bytes_eq l k && all_alike k ms

stays_alone : (k : List ℕ) (d : Data) (ms : json.Members) → all_alike k ms ≡ true
    → (e : Data) × (members_data ms (member k d no_members) ≡ member k e no_members)
stays_alone k d json.no_members h = (d, refl)
stays_alone k d (json.member l j ms) h =
    let parts = and_parts (bytes_eq l k) (all_alike k ms) h in
    let rest = stays_alone k (data_of j) ms parts.1 in
    (rest.0, ap (members_data ms) (put_same k l d (data_of j) parts.0) ∙ rest.1)

abbrev has_two : Members → Bool
has_two no_members = false
has_two (member k d no_members) = false
has_two (member k d (member l e ms)) = true

none_alone : (ms : Members) → has_two ms ≡ true → alone ms ≡ None
none_alone no_members h = absurd (true≢false (sym h))
none_alone (member k d no_members) h = absurd (true≢false (sym h))
none_alone (member k d (member l e ms)) h = refl

after_at : (o : Ordering) (m k l : List ℕ) (c d e : Data) (ms : Members)
    → has_two (member m c
    (match_ordering o (member k d (member l e ms)) (member l d ms) (member l e (put k d ms))))
    ≡ true
after_at Less m k l c d e ms = refl
after_at Equal m k l c d e ms = refl
after_at Greater m k l c d e ms = refl

put_after : (m k : List ℕ) (c d : Data) (ms : Members) → has_two (member m c (put k d ms)) ≡ true
put_after m k c d no_members = refl
put_after m k c d (member l e ms) = after_at (slice_cmp nat_cmp k l) m k l c d e ms

two_at : (o : Ordering) (k l : List ℕ) (d e : Data) (ms : Members) → has_two (member l e ms) ≡ true
    → has_two (match_ordering o (member k d (member l e ms)) (member l d ms)
    (member l e (put k d ms))) ≡ true
two_at Less k l d e ms two = refl
two_at Equal k l d e no_members two = absurd (true≢false (sym two))
two_at Equal k l d e (member m c ms) two = refl
two_at Greater k l d e ms two = put_after l k e d ms

put_two : (k : List ℕ) (d : Data) (ms : Members) → has_two ms ≡ true → has_two (put k d ms) ≡ true
put_two k d no_members two = absurd (true≢false (sym two))
put_two k d (member l e ms) two = two_at (slice_cmp nat_cmp k l) k l d e ms two

two_stay : (ms : json.Members) (found : Members) → has_two found ≡ true
    → has_two (members_data ms found) ≡ true
two_stay json.no_members found two = two
two_stay (json.member k j ms) found two =
    two_stay ms (put k (data_of j) found) (put_two k (data_of j) found two)

other_at : (o : Ordering) (k l : List ℕ) (d e : Data) → is_eq o ≡ false
    → has_two (match_ordering o (member l e (member k d no_members)) (member k e no_members)
    (member k d (member l e no_members))) ≡ true
other_at Less k l d e h = refl
other_at Equal k l d e h = absurd (true≢false h)
other_at Greater k l d e h = refl

two_names : (k : List ℕ) (d : Data) (ms : json.Members) (l : List ℕ) (j : json.Json) (b : Bool)
    → bytes_eq l k ≡ b → (b && all_alike k ms) ≡ false
    → (all_alike k ms ≡ false → has_two (members_data ms (member k (data_of j) no_members)) ≡ true)
    → has_two (members_data ms (put l (data_of j) (member k d no_members))) ≡ true
two_names k d ms l j true same h rest =
    ap (λ found. has_two (members_data ms found)) (put_same k l d (data_of j) same) ∙ rest h
two_names k d ms l j false other h rest =
    two_stay ms (put l (data_of j) (member k d no_members))
    (other_at (slice_cmp nat_cmp l k) k l d (data_of j) (is_eq-slice_cmp l k ∙ other))

more_names : (k : List ℕ) (d : Data) (ms : json.Members) → all_alike k ms ≡ false
    → has_two (members_data ms (member k d no_members)) ≡ true
more_names k d json.no_members h = absurd (true≢false h)
more_names k d (json.member l j ms) h =
    two_names k d ms l j (bytes_eq l k) refl h (more_names k (data_of j) ms)

itself : (k : List ℕ) → bytes_eq k k ≡ true
itself k = (bytes_eq-Decides k k).1 refl

pub names_agree : (ms : json.Members) (k : List ℕ) (j : json.Json) (rest : json.Members)
    → ms ≡ json.member k j rest → all_alike k ms ≡ true
    → (d : Data) × (alone (members_data ms no_members) ≡ Some (k, d))
names_agree ms k j rest is h =
    let parts = and_parts (bytes_eq k k) (all_alike k rest) (sym (ap (all_alike k) is) ∙ h) in
    let last = stays_alone k (data_of j) rest parts.1 in
    (last.0, ap (λ m. alone (members_data m no_members)) is ∙ ap alone last.1)

pub names_differ : (ms : json.Members) (k : List ℕ) (j : json.Json) (rest : json.Members)
    → ms ≡ json.member k j rest → all_alike k ms ≡ false
    → alone (members_data ms no_members) ≡ None
names_differ ms k j rest is h =
    let others : all_alike k rest ≡ false =
    ap (λ b. b && all_alike k rest) (sym (itself k)) ∙ sym (ap (all_alike k) is) ∙ h in
    ap (λ m. alone (members_data m no_members)) is
    ∙ none_alone (members_data rest (member k (data_of j) no_members))
    (more_names k (data_of j) rest others)

pub alone_found : (ms : Members) (k : List ℕ) (d : Data) → alone ms ≡ Some (k, d)
    → get_member k ms ≡ Some d
alone_found no_members k d e = absurd (cc)
alone_found (member l f no_members) k d e =
    let same : (l, f) ≡ (k, d) = same_Some (l, f) (k, d) e in
    ap (λ p. get_member p.0 (member l f no_members)) (sym same)
    ∙ at_equal (slice_cmp nat_cmp l l) None (Some f) None (tied_itself nat_list_cmp_total l)
    ∙ ap (λ p. Some p.1) same
alone_found (member l f (member m g ms)) k d e = absurd (cc)

-- ---- the names of the members

module _ (first second : List ℕ) where
  abbrev pub is_named : List ℕ → Bool
  is_named k = bytes_eq k first || bytes_eq k second

  abbrev pub all_named : json.Members → Bool
  all_named json.no_members = true
  all_named (json.member k j ms) = is_named k && all_named ms

  twice : (a b : Bool) → (a && b) ≡ (a && (a && b))
  twice true b = refl
  twice false b = refl

  swapped : (a b c : Bool) → (a && (b && c)) ≡ (b && (a && c))
  swapped true true c = refl
  swapped true false c = refl
  swapped false true c = refl
  swapped false false c = refl

  named_at : (o : Ordering) (k l : List ℕ) (d e : Data) (ms : Members) → slice_cmp nat_cmp k l ≡ o
      → are_named first second (put k d ms) ≡ (is_named k && are_named first second ms)
      → are_named first second
      (match_ordering o (member k d (member l e ms)) (member l d ms) (member l e (put k d ms)))
      ≡ (is_named k && are_named first second (member l e ms))
  named_at Less k l d e ms is later = refl
  named_at Equal k l d e ms is later =
      let same : k ≡ l = (bytes_eq-Decides k l).0 (sym (is_eq-slice_cmp k l) ∙ ap is_eq is) in
      twice (is_named l) (are_named first second ms)
      ∙ ap (λ m. is_named m && (is_named l && are_named first second ms)) (sym same)
  named_at Greater k l d e ms is later =
      ap (λ b. is_named l && b) later
      ∙ swapped (is_named l) (is_named k) (are_named first second ms)

  put_named : (k : List ℕ) (d : Data) (ms : Members)
      → are_named first second (put k d ms) ≡ (is_named k && are_named first second ms)
  put_named k d no_members = refl
  put_named k d (member l e ms) =
      named_at (slice_cmp nat_cmp k l) k l d e ms refl (put_named k d ms)

  joined : (a b c : Bool) → (a && (b && c)) ≡ ((b && a) && c)
  joined true true c = refl
  joined true false c = refl
  joined false true c = refl
  joined false false c = refl

  names_seen : (ms : json.Members) (found : Members)
      → are_named first second (members_data ms found)
      ≡ (all_named ms && are_named first second found)
  names_seen json.no_members found = refl
  names_seen (json.member k j ms) found =
      names_seen ms (put k (data_of j) found)
      ∙ ap (λ b. all_named ms && b) (put_named k (data_of j) found)
      ∙ joined (all_named ms) (is_named k) (are_named first second found)

  or_true : (b : Bool) → (b && true) ≡ b
  or_true true = refl
  or_true false = refl

  pub names_of_members : (ms : json.Members)
      → all_named ms ≡ are_named first second (members_data ms no_members)
  names_of_members ms = sym (names_seen ms no_members ∙ or_true (all_named ms))
