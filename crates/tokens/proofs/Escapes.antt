-- Texts on one line, byte by byte.
use Rattle.std.proofs.Common.{◌≡◌, ◌∙◌, sym, ap, subst, ℕ, ◌+◌, ◌<◌, List, [], ◌∷◌, ◌++◌, length, take, get_or, Option, arith}
use Rattle.std.proofs.lemmas.List.{take_more, take_all, flat_map_more}
use Rattle.std.specs.Io.KnownBytes.{Appends}
use Rattle.line_program.proofs.Listing.{appends_then}
use Rattle.tokens.specs.Escaping.{escaped, escaped_byte}

pub escaped_more : (text : List ℕ) (at : ℕ) → at < length text
    → escaped (take (at + 1) text)
    ≡ escaped (take at text) ++ escaped_byte (get_or text at 0)
escaped_more text at h =
    ap escaped (take_more text at 0 h)
    ∙ sym (flat_map_more escaped_byte [] (take at text) (get_or text at 0))

pub plain_more : (text : List ℕ) (at : ℕ) → at < length text
    → escaped (take at text) ≡ take at text
    → escaped_byte (get_or text at 0) ≡ get_or text at 0 ∷ []
    → escaped (take (at + 1) text) ≡ take (at + 1) text
plain_more text at h before here =
    escaped_more text at h
    ∙ ap (λ xs. xs ++ escaped_byte (get_or text at 0)) before
    ∙ ap (λ xs. take at text ++ xs) here
    ∙ sym (take_more text at 0 h)

pub plain_all : (text : List ℕ) (at : ℕ) → at ≡ length text
    → escaped (take at text) ≡ take at text → escaped text ≡ text
plain_all text at ended before =
    subst (λ xs. escaped xs ≡ xs) (take_all at text (omega (arith, ended))) before

pub written_more : (before now after : Option (List ℕ)) (text : List ℕ) (at : ℕ)
    → at < length text → Appends before now (escaped (take at text))
    → Appends now after (escaped_byte (get_or text at 0))
    → Appends before after (escaped (take (at + 1) text))
written_more before now after text at h so_far one =
    rw (escaped_more text at h) (appends_then before now after _ _ so_far one)

pub written_all : (before now : Option (List ℕ)) (text : List ℕ) (at : ℕ) → at ≡ length text
    → Appends before now (escaped (take at text)) → Appends before now (escaped text)
written_all before now text at ended so_far =
    subst (λ xs. Appends before now (escaped xs)) (take_all at text (omega (arith, ended))) so_far
