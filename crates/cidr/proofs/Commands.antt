-- Lists put together, one after the other.
use Rattle.std.proofs.Common.{◌≡◌, ◌≢◌, ℕ, ◌<◌, ◌^◌, ◌↔◌, ◌⊎◌, Bool, true, false, List, [], ◌∷◌, ◌++◌, Option, None, Some, IfSome, Result, Ok, Err, IfErr, IfOk, OnErr, OnOk, ap, inl, inr, refl, sym, subst, ◌∙◌, append_assoc, arith, length}
use Rattle.std.proofs.lemmas.List.{append-nil}
use Rattle.std.specs.Prelude.{String}
use Rattle.std.specs.declared.alloc.Global.{Global}
use Rattle.btree_range_map.specs.Holding.{box_items}
use Rattle.btree_range_map.specs.KeySets.{HoldsKey}
use Rattle.address_keys.specs.Addresses.{ipv4_at, ipv4_order, ipv6_at, ipv6_order}
use Rattle.address_text.specs.declared.family.Family.{Family}
use Rattle.address_text.specs.declared.family.Family.TheVariants.{V4, V6}
use Rattle.address_text.specs.Texts.{width}
use Rattle.address_lists.specs.Files.{Content, IsAdded, IsContentAs, IsFileReason, IsReadAs, IsSaidIn, is_json}
use Rattle.address_lists.specs.Files.Content.{InJson, InLines}
use Rattle.address_lists.specs.Lists.{AreAdded, Has, HasJust}
use Rattle.address_lists.specs.declared.read.BadLines.{BadLines}
use Rattle.btree_range_map.specs.Intervals.{Any}
use Rattle.address_lists.specs.declared.addresses.Addresses.{Addresses}
use Rattle.address_lists.specs.declared.read.ListError.{ListError}
use Rattle.address_lists.specs.declared.read.ListError.TheVariants.{Unread}
use Rattle.cidr.specs.Commands.{AreKnown, AreLists, Asked, Combined, IsAnswer, IsList, IsReadAnd, IsSaid, IsSaidInOne, IsStop, Put, left_out_of}
use Rattle.cidr_arguments.specs.declared.request.Command.{Command}
use Rattle.cidr_arguments.specs.declared.request.Command.TheVariants.{Merge, Common, Except, Diff, Invert}
use Rattle.cidr.specs.declared.serve.Reading.{Reading}
use Rattle.cidr.specs.declared.serve.Stop.{Stop}
use Rattle.cidr.specs.declared.serve.Stop.TheVariants.{Bad, Memory, Unwritable}

-- a list with no element
pub nothing_left : {X : Type 0} (xs : List X) → length xs ≡ 0 → xs ≡ []
nothing_left [] none = refl
nothing_left (x ∷ xs) none = absurd (omega arith)

iff_then : {A B C : Type 0} → A ↔ B → B ↔ C → A ↔ C
iff_then e f = (λ a. f.0 (e.0 a), λ c. e.1 (f.1 c))

has_not : (list : Addresses) → box_items list.v4 ≡ [] → box_items list.v6 ≡ [] → (family : Family)
    (n : ℕ) → ¬ Has list family n
has_not list v4 v6 V4 n has = subst (λ items. HoldsKey ipv4_order items (ipv4_at n)) v4 has
has_not list v4 v6 V6 n has = subst (λ items. HoldsKey ipv6_order items (ipv6_at n)) v6 has

module _ (family : Family) (n : ℕ) where
  combined_same : (task : Command) (P R Q S : Family → ℕ → Type 0) → P family n ↔ R family n
      → Q family n ↔ S family n → Combined task P Q family n ↔ Combined task R S family n
  combined_same Merge P R Q S e f = (
    λ h. elim h [ inl p ↦ inl (e.0 p) | inr q ↦ inr (f.0 q) ],
    λ h. elim h [ inl p ↦ inl (e.1 p) | inr q ↦ inr (f.1 q) ],
  )
  combined_same Common P R Q S e f = (λ h. (e.0 h.0, f.0 h.1), λ h. (e.1 h.0, f.1 h.1))
  combined_same Except P R Q S e f =
      (λ h. (e.0 h.0, λ s. h.1 (f.1 s)), λ h. (e.1 h.0, λ q. h.1 (f.0 q)))
  combined_same Diff P R Q S e f = (
    λ h. elim h [
      | inl one ↦ inl (e.0 one.0, λ s. one.1 (f.1 s))
      | inr two ↦ inr (λ r. two.0 (e.1 r), f.0 two.1)
    ],
    λ h. elim h [
      | inl one ↦ inl (e.1 one.0, λ q. one.1 (f.0 q))
      | inr two ↦ inr (λ p. two.0 (e.0 p), f.1 two.1)
    ],
  )
  combined_same Invert P R Q S e f = (
    λ h. elim h [ inl p ↦ inl (e.0 p) | inr q ↦ inr (f.0 q) ],
    λ h. elim h [ inl p ↦ inl (e.1 p) | inr q ↦ inr (f.1 q) ],
  )

  put_more : (task : Command) (lists : List (Content × ℕ)) (list : Content × ℕ)
      (P : Family → ℕ → Type 0)
      → Combined task (Put task P lists) (IsSaidIn list.0) family n
      ↔ Put task P (lists ++ list ∷ []) family n
  put_more task [] list P = (λ h. h, λ h. h)
  put_more task (first ∷ lists) list P =
      put_more task lists list (Combined task P (IsSaidIn first.0))

  put_same : (task : Command) (lists : List (Content × ℕ)) (P Q : Family → ℕ → Type 0)
      → P family n ↔ Q family n → Put task P lists family n ↔ Put task Q lists family n
  put_same task [] P Q e = e
  put_same task (first ∷ lists) P Q e =
      put_same task lists (Combined task P (IsSaidIn first.0)) (Combined task Q (IsSaidIn first.0))
      (combined_same task P Q (IsSaidIn first.0) (IsSaidIn first.0) e (λ h. h, λ h. h))

  -- one of the lists says it, or it was so before
  merge_more : (lists : List (Content × ℕ)) (P : Family → ℕ → Type 0)
      → (P family n ⊎ IsSaidInOne lists family n) ↔ Put Merge P lists family n
  merge_more [] P = (λ e. elim e [ inl p ↦ p | inr never ↦ absurd never ], λ p. inl p)
  merge_more (first ∷ lists) P =
      let rest = merge_more lists (Combined Merge P (IsSaidIn first.0)) in (
        λ e. rest.0 (elim e [
          | inl p ↦ inl (inl p)
          | inr some ↦ elim some [ inl here ↦ inl (inr here) | inr later ↦ inr later ]
        ]),
        λ put. elim (rest.1 put) [
          | inl either ↦ elim either [ inl p ↦ inl p | inr here ↦ inr (inl here) ]
          | inr later ↦ inr (inr later)
        ],
      )

  invert_more : (lists : List (Content × ℕ)) (P : Family → ℕ → Type 0)
      → (P family n ⊎ IsSaidInOne lists family n) ↔ Put Invert P lists family n
  invert_more [] P = (λ e. elim e [ inl p ↦ p | inr never ↦ absurd never ], λ p. inl p)
  invert_more (first ∷ lists) P =
      let rest = invert_more lists (Combined Invert P (IsSaidIn first.0)) in (
        λ e. rest.0 (elim e [
          | inl p ↦ inl (inl p)
          | inr some ↦ elim some [ inl here ↦ inl (inr here) | inr later ↦ inr later ]
        ]),
        λ put. elim (rest.1 put) [
          | inl either ↦ elim either [ inl p ↦ inl p | inr here ↦ inr (inl here) ]
          | inr later ↦ inr (inr later)
        ],
      )

  merge_asked : (lists : List (Content × ℕ))
      → IsSaidInOne lists family n ↔ Asked Merge lists family n
  merge_asked [] = (λ never. never, λ never. never)
  merge_asked (first ∷ lists) = merge_more lists (IsSaidIn first.0)

  invert_asked : (lists : List (Content × ℕ))
      → IsSaidInOne lists family n ↔ Asked Invert lists family n
  invert_asked [] = (λ never. never, λ never. never)
  invert_asked (first ∷ lists) = invert_more lists (IsSaidIn first.0)

more_left_out : (lists : List (Content × ℕ)) (list : Content × ℕ)
    → left_out_of (lists ++ list ∷ []) ≡ left_out_of lists ++ list.1 ∷ []
more_left_out [] list = refl
more_left_out (first ∷ lists) list = ap (λ numbers. first.1 ∷ numbers) (more_left_out lists list)

-- the list of one source, where its bytes are known, and the numbers of lines left out before and
-- after it
abbrev pub IsRead : Reading → Option (List ℕ) → List ℕ → List ℕ → Addresses → Type 0
IsRead reading input before now new = IfSome input (λ bytes. (others : ℕ)
    × IsList reading bytes (new, others) × (now ≡ before ++ others ∷ []))

-- a list is counted
pub read_one : (reading : Reading) (input : Option (List ℕ)) (before now : List ℕ)
    (list : Addresses) (others : ℕ) → IfSome input (λ bytes. IsList reading bytes (list, others))
    → now ≡ before ++ others ∷ [] → IsRead reading input before now list
read_one reading None before now list others is counted = tt
read_one reading (Some bytes) before now list others is counted = (others, is, counted)

said_as : (strict told : Bool) (bad_lines : BadLines) (bytes : List ℕ) (list : Addresses)
    (others : ℕ) → IsReadAs strict told bad_lines bytes list others → (content : Content)
    × IsContentAs strict told bad_lines bytes content others × HasJust list (IsSaidIn content)
said_as strict true bad_lines bytes list others read =
    (InJson list, read, λ family n h. (λ has. has, λ has. has))
said_as strict false bad_lines bytes list others (lines, good, just, none) =
    (InLines lines, (good, none), just)

-- a list that is read has what its file says
said_of : (reading : Reading) (bytes : List ℕ) (list : Addresses) (others : ℕ)
    → IsList reading bytes (list, others) → (content : Content)
    × IsSaid reading bytes (content, others) × HasJust list (IsSaidIn content)
said_of reading bytes list others =
    said_as reading.strict (is_json bytes) reading.bad_lines bytes list others

-- the list is put together with another
pub combined_one : (reading : Reading) (task : Command) (input : Option (List ℕ))
    (before now : List ℕ) (old other new : Addresses) → IsRead reading input before now other
    → HasJust new (Combined task (Has old) (Has other))
    → IsReadAnd reading input before now
    (λ one. HasJust new (Combined task (Has old) (IsSaidIn one.0)))
combined_one reading task None before now old other new read combined = tt
combined_one reading task (Some bytes) before now old other new (others, is, counted) combined =
    let (content, said, same) = said_of reading bytes other others is in (
      (content, others),
      said,
      counted,
      λ family n h. iff_then (combined family n h)
          (combined_same family n task (Has old) (Has old) (Has other) (IsSaidIn content)
          (λ has. has, λ has. has) (same family n h)),
    )

-- or what it says is added
gathered_one : (reading : Reading) (input : Option (List ℕ)) (before now : List ℕ)
    (Before After : Family → ℕ → Type 0) (others : ℕ)
    → IfSome input (λ bytes. IsAdded reading.strict reading.bad_lines bytes Before After others)
    → now ≡ before ++ others ∷ []
    → IsReadAnd reading input before now (λ one. AreAdded Before After (IsSaidIn one.0))
gathered_one reading None before now Before After others added counted = tt
gathered_one reading (Some bytes) before now Before After others (content, said, added) counted =
    ((content, others), said, counted, added)

-- what a list says is added, and its lines that are left out are counted
pub all_counted : {X E : Type 0} (reading : Reading) (input : Option (List ℕ)) (before now : List ℕ)
    (Before After : Family → ℕ → Type 0) (others : ℕ) (result : Result X E)
    → IfSome input (λ bytes. IsAdded reading.strict reading.bad_lines bytes Before After others)
    → OnOk result (now ≡ before ++ others ∷ [])
    → OnOk result
    (IsReadAnd reading input before now (λ one. AreAdded Before After (IsSaidIn one.0)))
all_counted reading input before now Before After others (Ok done) added counted =
    gathered_one reading input before now Before After others added counted
all_counted reading input before now Before After others (Err error) added counted = tt

-- why the one source of this name is not read, where its bytes are known
abbrev pub IsUnread : Reading → Option (List ℕ) → String Global → Stop → Type 0
IsUnread reading input name stop =
    IfSome input (λ bytes. IsStop reading (name ∷ []) (bytes ∷ []) stop)

pub unread_one : (reading : Reading) (input : Option (List ℕ)) (name : String Global)
    (error : ListError)
    → IfSome input (λ bytes. IsFileReason reading.strict reading.bad_lines bytes error)
    → IsUnread reading input name (Bad name error)
unread_one reading None name error why = tt
unread_one reading (Some bytes) name error why = inl (refl, why)

pub out_of_memory : (reading : Reading) (input : Option (List ℕ)) (name : String Global)
    (stop : Stop) → stop ≡ Memory → IsUnread reading input name stop
out_of_memory reading None name stop memory = tt
out_of_memory reading (Some bytes) name stop memory =
    subst (IsStop reading (name ∷ []) (bytes ∷ [])) (sym memory) tt

pub uncounted : {X : Type 0} (reading : Reading) (input : Option (List ℕ)) (name : String Global)
    (result : Result X Stop) → IfErr result (λ stop. stop ≡ Memory)
    → IfErr result (IsUnread reading input name)
uncounted reading input name (Ok done) memory = tt
uncounted reading input name (Err stop) memory = out_of_memory reading input name stop memory

-- why not all sources are read
abbrev pub AreUnread : Reading → List (Option (List ℕ)) → List (String Global) → Stop → Type 0
AreUnread reading inputs names stop =
    (files : List (List ℕ)) → AreKnown inputs files → IsStop reading names files stop

module _ (reading : Reading) (name : String Global) (names : List (String Global))
    (bytes : List ℕ) (files : List (List ℕ)) where
  stops_first : (stop : Stop) → IsStop reading (name ∷ []) (bytes ∷ []) stop
      → IsStop reading (name ∷ names) (bytes ∷ files) stop
  stops_first (Bad bad error) (inl is) = inl is
  stops_first (Bad bad error) (inr later) = absurd later.2
  stops_first Memory is = tt
  stops_first Unwritable is = tt

  stops_later : (list : Content × ℕ) → IsSaid reading bytes list → (stop : Stop)
      → IsStop reading names files stop → IsStop reading (name ∷ names) (bytes ∷ files) stop
  stops_later list said (Bad bad error) is = inr (list, said, is)
  stops_later list said Memory is = tt
  stops_later list said Unwritable is = tt

-- the first source is not read
pub first_unread : (reading : Reading) (input : Option (List ℕ)) (inputs : List (Option (List ℕ)))
    (name : String Global) (names : List (String Global)) (stop : Stop)
    → IsUnread reading input name stop → AreUnread reading (input ∷ inputs) (name ∷ names) stop
first_unread reading input inputs name names stop unread [] known = absurd known
first_unread reading input inputs name names stop unread (bytes ∷ files) known =
    stops_first reading name names bytes files stop
    (subst (λ o. IsUnread reading o name stop) known.0 unread)

-- the first source is read, and not all others
pub later_unread : (reading : Reading) (input : Option (List ℕ)) (inputs : List (Option (List ℕ)))
    (name : String Global) (names : List (String Global)) (before now : List ℕ) (list : Addresses)
    (stop : Stop) → IsRead reading input before now list → AreUnread reading inputs names stop
    → AreUnread reading (input ∷ inputs) (name ∷ names) stop
later_unread reading input inputs name names before now list stop read unread [] known =
    absurd known
later_unread reading input inputs name names before now list stop read unread (bytes ∷ files)
    known =
    let (others, said, counted) = subst (λ o. IsRead reading o before now list) known.0 read in
    let (content, is, same) = said_of reading bytes list others said in
    stops_later reading name names bytes files (content, others) is stop (unread files known.1)

pub others_unread : (reading : Reading) (input : Option (List ℕ))
    (inputs : List (Option (List ℕ))) (name : String Global) (names : List (String Global))
    (before now : List ℕ) (list : Addresses) {X : Type 0} (result : Result X Stop)
    → IsRead reading input before now list → IfErr result (AreUnread reading inputs names)
    → IfErr result (AreUnread reading (input ∷ inputs) (name ∷ names))
others_unread reading input inputs name names before now list (Ok done) read unread = tt
others_unread reading input inputs name names before now list (Err stop) read unread =
    later_unread reading input inputs name names before now list stop read unread

-- the lists of all inputs, how many lines are left out of each, and what is made of them
abbrev pub AreMade : Reading → List (Option (List ℕ)) → List ℕ → List ℕ
    → (List (Content × ℕ) → Type 0) → Type 0
AreMade reading inputs before now IsMade = (files : List (List ℕ)) → AreKnown inputs files
    → (lists : List (Content × ℕ)) × AreLists reading files lists
    × (now ≡ before ++ left_out_of lists) × IsMade lists

module _ (reading : Reading) (before : List ℕ) (names : List (String Global))
    (files : List (List ℕ)) where
  -- the files before those that are left are read, and this is so of what they say
  pub record IsReadTo (left : List (Option (List ℕ))) (left_names : List (String Global))
      (numbers : List ℕ) (IsMade : List (Content × ℕ) → Type 0) : Type 0 where
    pub rest : List (List ℕ)
    pub known : AreKnown left rest
    pub lists : List (Content × ℕ)
    pub goes_on : (more : List (Content × ℕ)) → AreLists reading rest more
        → AreLists reading files (lists ++ more)
    pub stops_on : (stop : Stop) → IsStop reading left_names rest stop
        → IsStop reading names files stop
    pub counted : numbers ≡ before ++ left_out_of lists
    pub made : IsMade lists

  pub none_made : (inputs : List (Option (List ℕ))) (IsMade : List (Content × ℕ) → Type 0)
      → AreKnown inputs files → IsMade [] → IsReadTo inputs names before IsMade
  none_made inputs IsMade known made = record {
    rest = files;
    known = known;
    lists = [];
    goes_on = λ more said. said;
    stops_on = λ stop is. is;
    counted = sym (append-nil before);
    made = made;
  }

  module _ (Now Next : List (Content × ℕ) → Type 0) (Then : Content × ℕ → Type 0)
      (step : (lists : List (Content × ℕ)) (one : Content × ℕ) → Now lists → Then one
      → Next (lists ++ one ∷ [])) where
    more_made : (input : Option (List ℕ)) (name : String Global) (left : List (Option (List ℕ)))
        (left_names : List (String Global)) (numbers later : List ℕ) (rest : List (List ℕ))
        (lists : List (Content × ℕ)) → AreKnown (input ∷ left) rest
        → ((more : List (Content × ℕ)) → AreLists reading rest more
        → AreLists reading files (lists ++ more))
        → ((stop : Stop) → IsStop reading (name ∷ left_names) rest stop
        → IsStop reading names files stop)
        → numbers ≡ before ++ left_out_of lists → Now lists
        → IsReadAnd reading input numbers later Then → IsReadTo left left_names later Next
    more_made input name left left_names numbers later [] lists known goes_on stops_on counted made
        read = absurd known
    more_made input name left left_names numbers later (bytes ∷ rest) lists known goes_on stops_on
        counted made read =
        let (one, said, more_counted, then) =
        subst (λ o. IsReadAnd reading o numbers later Then) known.0 read in record {
          rest = rest;
          known = known.1;
          lists = lists ++ one ∷ [];
          goes_on =
              λ more said_more. subst (AreLists reading files)
              (sym (append_assoc lists (one ∷ []) more)) (goes_on (one ∷ more) (said, said_more));
          stops_on =
              λ stop is. stops_on stop (stops_later reading name left_names bytes rest one said stop is);
          counted =
              more_counted ∙ ap (λ all. all ++ one.1 ∷ []) counted
              ∙ append_assoc before (left_out_of lists) (one.1 ∷ [])
              ∙ ap (λ all. before ++ all) (sym (more_left_out lists one));
          made = step lists one made then;
        }

    -- one file more is read
    pub one_made : (input : Option (List ℕ)) (name : String Global) (left : List (Option (List ℕ)))
        (left_names : List (String Global)) (numbers later : List ℕ)
        → IsReadTo (input ∷ left) (name ∷ left_names) numbers Now
        → IsReadAnd reading input numbers later Then → IsReadTo left left_names later Next
    one_made input name left left_names numbers later made read =
        more_made input name left left_names numbers later made.rest made.lists made.known
        made.goes_on made.stops_on made.counted made.made read

  -- one file more is not read
  pub one_unread : (input : Option (List ℕ)) (name : String Global)
      (left : List (Option (List ℕ))) (left_names : List (String Global)) (numbers : List ℕ)
      (IsMade : List (Content × ℕ) → Type 0) (stop : Stop)
      → IsReadTo (input ∷ left) (name ∷ left_names) numbers IsMade
      → IsUnread reading input name stop → IsStop reading names files stop
  one_unread input name left left_names numbers IsMade stop made unread =
      made.stops_on stop
      (first_unread reading input left name left_names stop unread made.rest made.known)

  module _ (numbers : List ℕ) (IsMade : List (Content × ℕ) → Type 0) where
    ended : (rest : List (List ℕ)) (lists : List (Content × ℕ)) → AreKnown [] rest
        → ((more : List (Content × ℕ)) → AreLists reading rest more
        → AreLists reading files (lists ++ more))
        → numbers ≡ before ++ left_out_of lists → IsMade lists → (lists : List (Content × ℕ))
        × AreLists reading files lists × (numbers ≡ before ++ left_out_of lists) × IsMade lists
    ended [] lists known goes_on counted made =
        (lists, subst (AreLists reading files) (append-nil lists) (goes_on [] tt), counted, made)
    ended (bytes ∷ rest) lists known goes_on counted made = absurd known

    -- all files are read
    pub all_made : (left_names : List (String Global)) → IsReadTo [] left_names numbers IsMade
        → (lists : List (Content × ℕ)) × AreLists reading files lists
        × (numbers ≡ before ++ left_out_of lists) × IsMade lists
    all_made left_names made = ended made.rest made.lists made.known made.goes_on made.counted made.made

-- the list is put together with those before
pub put_step : (task : Command) (First : Family → ℕ → Type 0) (list next : Addresses)
    (lists : List (Content × ℕ)) (one : Content × ℕ) → HasJust list (Put task First lists)
    → HasJust next (Combined task (Has list) (IsSaidIn one.0))
    → HasJust next (Put task First (lists ++ one ∷ []))
put_step task First list next lists one put combined family n h =
    iff_then (combined family n h)
    (iff_then
    (combined_same family n task (Has list) (Put task First lists) (IsSaidIn one.0)
    (IsSaidIn one.0) (put family n h) (λ has. has, λ has. has))
    (put_more family n task lists one First))

-- of those addresses it is so that one of the lists says
abbrev pub AreMerged : (Family → ℕ → Type 0) → List (Content × ℕ) → Type 0
AreMerged IsHad lists = (family : Family) (n : ℕ) → n < 2 ^ width family
    → IsHad family n ↔ IsSaidInOne lists family n

any_more : {X : Type 0} (P : X → Type 0) (xs : List X) (x : X)
    → Any P (xs ++ x ∷ []) ↔ (Any P xs ⊎ P x)
any_more P [] x = (
  λ e. elim e [ inl here ↦ inr here | inr never ↦ absurd never ],
  λ e. elim e [ inl never ↦ absurd never | inr here ↦ inl here ],
)
any_more P (y ∷ ys) x = grind (arith, any_more P ys x)

pub merge_step : (Before After : Family → ℕ → Type 0) (lists : List (Content × ℕ))
    (one : Content × ℕ) → AreMerged Before lists → AreAdded Before After (IsSaidIn one.0)
    → AreMerged After (lists ++ one ∷ [])
merge_step Before After lists one merged added family n h =
    let was = merged family n h in
    let more = added family n h in
    let split = any_more (λ (list : Content × ℕ). IsSaidIn list.0 family n) lists one in (
      λ after. split.1 (elim (more.0 after) [
        | inl before ↦ inl (was.0 before)
        | inr said ↦ inr said
      ]),
      λ some. more.1 (elim (split.0 some) [
        | inl earlier ↦ inl (was.1 earlier)
        | inr said ↦ inr said
      ]),
    )

pub none_merged : (list : Addresses) (IsHad : Family → ℕ → Type 0) → box_items list.v4 ≡ []
    → box_items list.v6 ≡ [] → ((family : Family) (n : ℕ) → IsHad family n ↔ Has list family n)
    → AreMerged IsHad []
none_merged list IsHad v4 v6 same family n h = (
  λ had. has_not list v4 v6 family n ((same family n).0 had),
  λ never. absurd never,
)

-- and where what waits is added, the list has these
pub just_merged : (reading : Reading) (files : List (List ℕ)) (before numbers : List ℕ)
    (IsHad : Family → ℕ → Type 0) (new : Addresses) → HasJust new IsHad
    → (lists : List (Content × ℕ)) × AreLists reading files lists
    × (numbers ≡ before ++ left_out_of lists) × AreMerged IsHad lists
    → (lists : List (Content × ℕ)) × AreLists reading files lists
    × (numbers ≡ before ++ left_out_of lists) × HasJust new (IsSaidInOne lists)
just_merged reading files before numbers IsHad new added (lists, said, counted, merged) =
    (lists, said, counted, λ family n h. iff_then (added family n h) (merged family n h))

-- of `merge` and of `invert` the addresses of all lists are asked
pub merged_asked : (task : Command) (new : Addresses) (lists : List (Content × ℕ))
    → (task ≡ Merge) ⊎ (task ≡ Invert) → HasJust new (IsSaidInOne lists)
    → HasJust new (Asked task lists)
merged_asked Merge new lists which just =
    λ family n h. iff_then (just family n h) (merge_asked family n lists)
merged_asked Invert new lists which just =
    λ family n h. iff_then (just family n h) (invert_asked family n lists)
merged_asked Common new lists which just = absurd (elim which [ inl is ↦ cc | inr is ↦ cc ])
merged_asked Except new lists which just = absurd (elim which [ inl is ↦ cc | inr is ↦ cc ])
merged_asked Diff new lists which just = absurd (elim which [ inl is ↦ cc | inr is ↦ cc ])

pub all_asked : (reading : Reading) (task : Command) (inputs : List (Option (List ℕ)))
    (before now : List ℕ) (result : Result Addresses Stop) → (task ≡ Merge) ⊎ (task ≡ Invert)
    → IfOk result (λ new. AreMade reading inputs before now (λ lists. HasJust new (IsSaidInOne lists)))
    → IfOk result (λ new. AreMade reading inputs before now (λ lists. HasJust new (Asked task lists)))
all_asked reading task inputs before now (Ok new) which merged = λ files known.
    let (lists, said, counted, just) = merged files known in
    (lists, said, counted, merged_asked task new lists which just)
all_asked reading task inputs before now (Err stop) which merged = tt

-- the first list, and those of the others put together with it
pub asked_of : (reading : Reading) (task : Command) (input : Option (List ℕ))
    (left : List (Option (List ℕ))) (before numbers now : List ℕ) (first new : Addresses)
    → IsRead reading input before numbers first
    → AreMade reading left numbers now (λ lists. HasJust new (Put task (Has first) lists))
    → AreMade reading (input ∷ left) before now (λ lists. HasJust new (Asked task lists))
asked_of reading task input left before numbers now first new read put [] known = absurd known
asked_of reading task input left before numbers now first new read put (bytes ∷ files) known =
    let (others, is, counted) =
    subst (λ o. IsRead reading o before numbers first) known.0 read in
    let (content, said, same) = said_of reading bytes first others is in
    let (lists, all_said, all_counted, all) = put files known.1 in (
      (content, others) ∷ lists,
      (said, all_said),
      all_counted ∙ ap (λ some. some ++ left_out_of lists) counted
          ∙ append_assoc before (others ∷ []) (left_out_of lists),
      λ family n h. iff_then (all family n h)
          (put_same family n task lists (Has first) (IsSaidIn content) (same family n h)),
    )

pub asked_all : (reading : Reading) (task : Command) (input : Option (List ℕ))
    (left all : List (Option (List ℕ))) (before numbers now : List ℕ) (first : Addresses)
    (result : Result Addresses Stop) → all ≡ input ∷ left
    → IsRead reading input before numbers first
    → IfOk result
    (λ new. AreMade reading left numbers now (λ lists. HasJust new (Put task (Has first) lists)))
    → IfOk result
    (λ new. AreMade reading all before now (λ lists. HasJust new (Asked task lists)))
asked_all reading task input left all before numbers now first (Ok new) same read put =
    λ files known. asked_of reading task input left before numbers now first new read put files
    (subst (λ inputs. AreKnown inputs files) same known)
asked_all reading task input left all before numbers now first (Err stop) same read put = tt

-- no list has no address
no_list_made : (reading : Reading) (task : Command) (before : List ℕ) (list : Addresses)
    → box_items list.v4 ≡ [] → box_items list.v6 ≡ []
    → AreMade reading [] before before (λ lists. HasJust list (Asked task lists))
no_list_made reading task before list v4 v6 [] known = (
  [],
  tt,
  sym (append-nil before),
  λ family n h. (has_not list v4 v6 family n, λ none. absurd none),
)
no_list_made reading task before list v4 v6 (bytes ∷ files) known = absurd known

pub none_asked : (reading : Reading) (task : Command) (before : List ℕ) (list : Addresses)
    (inputs : List (Option (List ℕ))) → inputs ≡ [] → box_items list.v4 ≡ []
    → box_items list.v6 ≡ []
    → AreMade reading inputs before before (λ lists. HasJust list (Asked task lists))
none_asked reading task before list inputs same v4 v6 =
    subst (λ one. AreMade reading one before before (λ lists. HasJust list (Asked task lists)))
    (sym same) (no_list_made reading task before list v4 v6)

-- the other addresses are what `invert` says
pub others_answer : (list others : Addresses) (lists : List (Content × ℕ))
    → HasJust list (Asked Invert lists) → HasJust others (λ family n. ¬ Has list family n)
    → HasJust others (IsAnswer Invert lists)
others_answer list others lists asked inverse family n h =
    let one = asked family n h in
    let other = inverse family n h in
    (λ has said. other.0 has (one.1 said), λ none. other.1 (λ has. none (one.0 has)))

-- any other task says the addresses themselves
pub same_answer : (task : Command) (list : Addresses) (lists : List (Content × ℕ))
    → task ≢ Invert → HasJust list (Asked task lists) → HasJust list (IsAnswer task lists)
same_answer Merge list lists other asked = asked
same_answer Common list lists other asked = asked
same_answer Except list lists other asked = asked
same_answer Diff list lists other asked = asked
same_answer Invert list lists other asked = absurd (other refl)

pub invert_answer : (reading : Reading) (task : Command) (inputs : List (Option (List ℕ)))
    (before now : List ℕ) (list others : Addresses) → task ≡ Invert
    → AreMade reading inputs before now (λ lists. HasJust list (Asked task lists))
    → HasJust others (λ family n. ¬ Has list family n)
    → AreMade reading inputs before now (λ lists. HasJust others (IsAnswer task lists))
invert_answer reading task inputs before now list others same asked inverse files known =
    let (lists, said, counted, all) = asked files known in (
      lists,
      said,
      counted,
      subst (λ one. HasJust others (IsAnswer one lists)) (sym same)
          (others_answer list others lists
          (subst (λ one. HasJust list (Asked one lists)) same all) inverse),
    )

pub other_answer : (reading : Reading) (task : Command) (inputs : List (Option (List ℕ)))
    (before now : List ℕ) (list : Addresses) → task ≢ Invert
    → AreMade reading inputs before now (λ lists. HasJust list (Asked task lists))
    → AreMade reading inputs before now (λ lists. HasJust list (IsAnswer task lists))
other_answer reading task inputs before now list other asked files known =
    let (lists, said, counted, all) = asked files known in
    (lists, said, counted, same_answer task list lists other all)

-- printing fails where memory does not suffice or nothing can be written
abbrev pub IsUnprinted : Stop → Type 0
IsUnprinted stop = (stop ≡ Memory) ⊎ (stop ≡ Unwritable)

stops_unprinted : (reading : Reading) (names : List (String Global)) (files : List (List ℕ))
    (stop : Stop) → IsUnprinted stop → IsStop reading names files stop
stops_unprinted reading names files stop (inl memory) =
    subst (IsStop reading names files) (sym memory) tt
stops_unprinted reading names files stop (inr unwritable) =
    subst (IsStop reading names files) (sym unwritable) tt

pub unprinted : {X : Type 0} (reading : Reading) (inputs : List (Option (List ℕ)))
    (names : List (String Global)) (result : Result X Stop) → IfErr result IsUnprinted
    → IfErr result (AreUnread reading inputs names)
unprinted reading inputs names (Ok done) failed = tt
unprinted reading inputs names (Err stop) failed =
    λ files known. stops_unprinted reading names files stop failed

-- printing does not read
pub nothing_unread : {X : Type 0} (Fails : Type 0) (result : Result X Stop)
    → IfErr result IsUnprinted
    → IfErr result (λ stop. (name : String Global) → stop ≡ Bad name Unread → Fails)
nothing_unread Fails (Ok done) failed = tt
nothing_unread Fails (Err stop) failed = λ name same. grind arith

-- printing fails where nothing can be written, and for no other reason
pub fails_unwritable : {X : Type 0} (P : Type 0) (result : Result X Stop)
    → IfErr result (λ stop. stop ≡ Unwritable) → result ≢ Err Unwritable → OnErr result P
fails_unwritable P (Ok done) failed other = tt
fails_unwritable P (Err stop) failed other = absurd (other (ap Err failed))

pub unwritable : {X : Type 0} (reading : Reading) (inputs : List (Option (List ℕ)))
    (names : List (String Global)) (result : Result X Stop)
    → IfErr result (λ stop. stop ≡ Unwritable) → IfErr result (AreUnread reading inputs names)
unwritable reading inputs names (Ok done) failed = tt
unwritable reading inputs names (Err stop) failed =
    λ files known. stops_unprinted reading names files stop (inr failed)

pub unwritable_unread : {X : Type 0} (Fails : Type 0) (result : Result X Stop)
    → IfErr result (λ stop. stop ≡ Unwritable)
    → IfErr result (λ stop. (name : String Global) → stop ≡ Bad name Unread → Fails)
unwritable_unread Fails (Ok done) failed = tt
unwritable_unread Fails (Err stop) failed = λ name same. grind arith
