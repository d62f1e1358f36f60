-- Which rights a set of rights has, and that it is what a multimap asks of a set.
use Rattle.std.specs.Prelude.{◌≡◌, ◌↔◌, ◌&&◌, refl, Bool, true, false, IsTrue}
use Rattle.std.specs.Bool.{beq}
use Rattle.std.proofs.Common.{subst}
use Rattle.std.proofs.lemmas.Bool.{and_from, and_parts}
use Rattle.btree_range_map.specs.Members.{HasNone, HaveSame}
use Rattle.odd_keys.specs.declared.rights.Right.{Right}
use Rattle.odd_keys.specs.declared.rights.Right.TheVariants.{Read, Write}
use Rattle.odd_keys.specs.declared.rights.Rights.{Rights}

-- whether the set has the right
abbrev pub has_right : Rights → Right → Bool
has_right s Read = s.read
has_right s Write = s.write

-- it has neither
abbrev pub HasNoRight : Rights → Type 0
HasNoRight s = (s.read ≡ false) × (s.write ≡ false)

-- what the derived `==` answers
abbrev rights_eq : Rights → Rights → Bool
rights_eq s t = beq s.read t.read && beq s.write t.write

pub void_has_none : (s : Rights) → HasNoRight s ↔ HasNone has_right s
void_has_none s = (λ void right. none_at right void, λ none. (none Read, none Write))
  where
    none_at : (right : Right) → HasNoRight s → has_right s right ≡ false
    none_at Read void = void.0
    none_at Write void = void.1

same_flag : (a b : Bool) → IsTrue (beq a b) → a ≡ b
same_flag true true e = refl
same_flag true false e = cc
same_flag false true e = cc
same_flag false false e = refl

itself : (a : Bool) → IsTrue (beq a a)
itself true = refl
itself false = refl

pub equal_have_same : (s t : Rights) → IsTrue (rights_eq s t) → HaveSame has_right s t
equal_have_same s t e right = at right (and_parts (beq s.read t.read) (beq s.write t.write) e)
  where
    at : (right : Right) → IsTrue (beq s.read t.read) × IsTrue (beq s.write t.write)
        → has_right s right ≡ has_right t right
    at Read both = same_flag s.read t.read both.0
    at Write both = same_flag s.write t.write both.1

pub same_are_equal : (s t : Rights) → HaveSame has_right s t → IsTrue (rights_eq s t)
same_are_equal s t same =
    and_from (beq s.read t.read) (beq s.write t.write)
    (subst (λ b. IsTrue (beq s.read b)) (same Read) (itself s.read))
    (subst (λ b. IsTrue (beq s.write b)) (same Write) (itself s.write))

pub equal_are_void : (s t : Rights) → IsTrue (rights_eq s t) → HasNoRight s → HasNoRight t
equal_are_void s t e void =
    let same = equal_have_same s t e in
    (rw (same Read) at void.0, rw (same Write) at void.1)

pub equal_rights : (eq : Right → Right → Bool) → eq Read Write ≡ false → eq Write Read ≡ false
    → (s : Rights) (v w : Right) → IsTrue (eq v w) → has_right s v ≡ has_right s w
equal_rights eq e f s Read Read h = refl
equal_rights eq e f s Read Write h = cc
equal_rights eq e f s Write Read h = cc
equal_rights eq e f s Write Write h = refl

pub clones_are_equal : (s t : Rights) → t ≡ s → IsTrue (rights_eq s t)
clones_are_equal s t same =
    same_are_equal s t (λ right. subst (λ u. has_right u right ≡ has_right t right) same refl)
