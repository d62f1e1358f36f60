-- Sets as files of firewalls.
use Rattle.std.proofs.Common.{◌≡◌, List, ℕ, [], ◌∷◌, ◌++◌, Option, Result, OnOk, Some, inr, refl, sym, subst}
use Rattle.std.specs.Prelude.{string_bytes}
use Rattle.std.specs.Io.KnownBytes.{Appends}
use Rattle.line_program.specs.Listing.{Writes}
use Rattle.line_program.proofs.Listing.{appends_then, on_ok_as}
use Rattle.address_text.specs.declared.family.Family.{Family}
use Rattle.address_lists.specs.Split.{IsFamilySplit}
use Rattle.address_lists.specs.declared.addresses.Addresses.{Addresses}
use Rattle.cidr.specs.Firewalls.{HasNone, IsFilled, IsFirewallFile, IsSetText}
use Rattle.cidr.specs.declared.firewall.Firewall.{Firewall}
use Rattle.cidr.specs.declared.firewall.SetText.{SetText}

-- the parts of a set are written, one after the other
pub all_filled : (set : SetText) (family : Family) (list : Addresses)
    (head opening closing before : List ℕ) → head ≡ string_bytes set.head
    → opening ≡ string_bytes set.opening → closing ≡ set.closing.now
    → before ≡ string_bytes set.before → ¬ HasNone list family
    → (first second third fourth last : Option (List ℕ)) → Appends first second head
    → Appends second third opening
    → Writes third fourth (IsFamilySplit before set.after.now family (set.least ∷ []) list)
    → Appends fourth last closing → Writes first last (IsFilled set family list)
all_filled set family list head opening closing before head_is opening_is closing_is before_is some
    first second third fourth last made opened (lines, split, filled) closed = (
      string_bytes set.head ++ string_bytes set.opening ++ lines ++ set.closing.now,
      inr (
        some,
        lines,
        subst (λ text. IsFamilySplit text set.after.now family (set.least ∷ []) list lines)
            before_is split,
        refl,
      ),
      appends_then first fourth last (string_bytes set.head ++ string_bytes set.opening ++ lines)
          set.closing.now
          (appends_then first third fourth (string_bytes set.head ++ string_bytes set.opening) lines
          (appends_then first second third (string_bytes set.head) (string_bytes set.opening)
          (subst (Appends first second) head_is made)
          (subst (Appends second third) opening_is opened))
          filled)
          (subst (Appends fourth last) closing_is closed),
    )

-- one family alone is printed
pub one_filled : {X E : Type 0} (firewall : Firewall) (family : Family) (set : SetText)
    (list : Addresses) (only : Option Family) (before after : Option (List ℕ))
    (result : Result X E) → only ≡ Some family → IsSetText firewall family set
    → OnOk result (Writes before after (IsFilled set family list))
    → OnOk result (Writes before after (IsFirewallFile firewall only list))
one_filled firewall family set list only before after result same is filled =
    subst (λ one. OnOk result (Writes before after (IsFirewallFile firewall one list))) (sym same)
    (on_ok_as result _ _ (λ written. (written.0, (set, is, written.1), written.2)) filled)
