-- Lists by parts and by index, and what some or each of their items is.
use Rattle.std.proofs.Common.{◌≡◌, ℕ, zero, suc, ◌+◌, ◌<◌, ◌≤◌, List, [], ◌∷◌, ◌++◌, length, take, drop, get_or, ◌⊎◌, inl, inr, sym, arith, take-append-drop}
use Rattle.std.specs.List.{AllWithin, AllByRecursion as Every}
use Rattle.std.proofs.lemmas.List.{get_or-take, drop_more, length-take-le}
use Rattle.range_algebra.specs.Intervals.{Any}
use Rattle.std.proofs.lemmas.Grind.{common_steps}

pub any_left : {X : Type 0} (P : X → Type 0) (xs ys : List X) → Any P xs → Any P (xs ++ ys)
any_left P [] ys h = absurd h
any_left P (x ∷ xs) ys (inl h) = inl h
any_left P (x ∷ xs) ys (inr h) = inr (any_left P xs ys h)

pub any_right : {X : Type 0} (P : X → Type 0) (xs ys : List X) → Any P ys → Any P (xs ++ ys)
any_right P [] ys h = h
any_right P (x ∷ xs) ys h = inr (any_right P xs ys h)

pub any_split : {X : Type 0} (P : X → Type 0) (xs ys : List X) → Any P (xs ++ ys)
    → Any P xs ⊎ Any P ys
any_split P [] ys h = inr h
any_split P (x ∷ xs) ys (inl h) = inl (inl h)
any_split P (x ∷ xs) ys (inr h) = elim (any_split P xs ys h) [ inl k ↦ inl (inr k) | inr k ↦ inr k ]

pub any_none : {X : Type 0} (P Q : X → Type 0) (xs : List X) → Every Q xs
    → ((x : X) → Q x → P x → ⊥) → Any P xs → ⊥
any_none P Q [] all f h = h
any_none P Q (x ∷ xs) all f (inl h) = f x all.0 h
any_none P Q (x ∷ xs) all f (inr h) = any_none P Q xs all.1 f h

pub every_weaker : {X : Type 0} (P Q : X → Type 0) (xs : List X) → ((x : X) → P x → Q x)
    → Every P xs → Every Q xs
every_weaker P Q [] f h = tt
every_weaker P Q (x ∷ xs) f h = (f x h.0, every_weaker P Q xs f h.1)

pub every_append : {X : Type 0} (P : X → Type 0) (xs ys : List X) → Every P xs → Every P ys
    → Every P (xs ++ ys)
every_append P [] ys h k = k
every_append P (x ∷ xs) ys h k = (h.0, every_append P xs ys h.1 k)

pub every_left : {X : Type 0} (P : X → Type 0) (xs ys : List X) → Every P (xs ++ ys) → Every P xs
every_left P [] ys h = tt
every_left P (x ∷ xs) ys h = (h.0, every_left P xs ys h.1)

pub every_right : {X : Type 0} (P : X → Type 0) (xs ys : List X) → Every P (xs ++ ys) → Every P ys
every_right P [] ys h = h
every_right P (x ∷ xs) ys h = every_right P xs ys h.1

-- what holds of all and of one more
pub every_more : {X : Type 0} (P : X → Type 0) (xs : List X) (x : X) → Every P xs → P x
    → Every P (xs ++ x ∷ [])
every_more P xs x h p = every_append P xs (x ∷ []) h (p, tt)

pub every_all : {X : Type 0} (P : X → Type 0) (xs : List X)
    → ((k : ℕ) (d : X) → k < length xs → P (get_or xs k d)) → Every P xs
every_all P [] h = tt
every_all P (x ∷ xs) h =
    (h 0 x (omega arith), every_all P xs (λ k d within. h (suc k) d (omega arith)))

pub every_at : {X : Type 0} (P : X → Type 0) (xs : List X) (k : ℕ) (d : X) → Every P xs
    → k < length xs → P (get_or xs k d)
every_at P [] k d h within = absurd (omega arith)
every_at P (x ∷ xs) zero d h within = h.0
every_at P (x ∷ xs) (suc k) d h within = every_at P xs k d h.1 (omega arith)

pub every_take : {X : Type 0} (P : X → Type 0) (xs : List X) (n : ℕ) → n ≤ length xs
    → AllWithin P xs 0 n → Every P (take n xs)
every_take P xs n le h = grind (arith, length-take-le, every_all, get_or-take)

pub every_drop : {X : Type 0} (P : X → Type 0) (xs : List X) (n : ℕ) → n ≤ length xs
    → AllWithin P xs n (length xs) → Every P (drop n xs)
every_drop P xs n le h = grind (arith, common_steps, every_all)

pub list_is_take_and_drop : {X : Type 0} (xs : List X) (n : ℕ) → xs ≡ take n xs ++ drop n xs
list_is_take_and_drop xs n = sym (take-append-drop n xs)

pub parts_at : {X : Type 0} (xs : List X) (n : ℕ) (d : X) → n < length xs
    → xs ≡ take n xs ++ get_or xs n d ∷ drop (n + 1) xs
parts_at xs n d within = grind (arith, list_is_take_and_drop, drop_more)

drop_none : {X : Type 0} (n : ℕ) → drop {A = X} n [] ≡ []
drop_none n = grind arith

pub drop_all : {X : Type 0} (xs : List X) (n : ℕ) → n ≡ length xs → drop n xs ≡ []
drop_all [] n e = drop_none n
drop_all (x ∷ xs) zero e = absurd (omega arith)
drop_all (x ∷ xs) (suc n) e = drop_all xs n (omega arith)
