-- Laws of the bytes laid over others and of a list cut to a size.
use Rattle.std.proofs.Common.{◌≡◌, ℕ, ◌+◌, ◌-◌, ◌<◌, ◌≤◌, max, ◌⊎◌, List, [], ◌∷◌, length, get_or, take, drop, sym, refl, ◌∙◌, inl, inr, ⊎_elim, arith, length-drop, length-take, rules}
use Rattle.std.proofs.lemmas.List.{places, ext_get_or, get_or-take, get_or-drop}
use Rattle.std.proofs.lemmas.Bool.{cases_lt}
use Rattle.stream.specs.Stream.{laid, resized, At}

pub length-laid : (xs : List ℕ) (at : ℕ) (ys : List ℕ) → 0 < length ys → length (laid xs at ys) ≡ max (length xs) (at + length ys)
length-laid xs at [] h = absurd (omega arith)
length-laid xs at (y ∷ ys) h = search (rules, places)

pub get_or-laid_before : (xs : List ℕ) (at : ℕ) (ys : List ℕ) (p : ℕ) → p < at → get_or (laid xs at ys) p 0 ≡ get_or xs p 0
get_or-laid_before xs at [] p h = refl
get_or-laid_before xs at (y ∷ ys) p h = grind (arith, places)

pub get_or-laid_in : (xs : List ℕ) (at : ℕ) (ys : List ℕ) (p : ℕ) → at ≤ p → p < at + length ys → get_or (laid xs at ys) p 0 ≡ get_or ys (p - at) 0
get_or-laid_in xs at [] p h l = absurd (omega arith)
get_or-laid_in xs at (y ∷ ys) p h l = grind (arith, places)

pub get_or-laid_after : (xs : List ℕ) (at : ℕ) (ys : List ℕ) (p : ℕ) → at + length ys ≤ p → get_or (laid xs at ys) p 0 ≡ get_or xs p 0
get_or-laid_after xs at [] p h = refl
get_or-laid_after xs at (y ∷ ys) p h = grind (arith, places)

pub length-laid_le : (xs : List ℕ) (at : ℕ) (ys : List ℕ) (n : ℕ) → length xs ≤ n → at + length ys ≤ n → length (laid xs at ys) ≤ n
length-laid_le xs at [] n h l = h
length-laid_le xs at (y ∷ ys) n h l = let e = length-laid xs at (y ∷ ys) (search rules) in omega arith

pub size_laid : (xs : List ℕ) (at : ℕ) (ys : List ℕ) →
    ((length ys ≡ 0) × (length (laid xs at ys) ≡ length xs)) ⊎ ((0 < length ys) × (length (laid xs at ys) ≡ max (length xs) (at + length ys)))
size_laid xs at [] = inl (refl, refl)
size_laid xs at (y ∷ ys) = inr (search rules, length-laid xs at (y ∷ ys) (search rules))

-- what lies at a place, by where the place is
pub get_or-laid : (xs : List ℕ) (at : ℕ) (ys : List ℕ) (p : ℕ) →
    ((p < at) × (get_or (laid xs at ys) p 0 ≡ get_or xs p 0)) ⊎ (((at ≤ p) × (p < at + length ys) × (get_or (laid xs at ys) p 0 ≡ get_or ys (p - at) 0)) ⊎ ((at + length ys ≤ p) × (get_or (laid xs at ys) p 0 ≡ get_or xs p 0)))
get_or-laid xs at ys p =
    ⊎_elim (λ l. inl (l, get_or-laid_before xs at ys p l))
    (λ h. ⊎_elim (λ l. inr (inl (h, l, get_or-laid_in xs at ys p h l))) (λ g. inr (inr (g, get_or-laid_after xs at ys p g))) (cases_lt p (at + length ys)))
    (cases_lt p at)

-- a part of the bytes laid, and then the rest behind it
pub laid_rest : (xs : List ℕ) (at n : ℕ) (ys : List ℕ) → n ≤ length ys → laid (laid xs at (take n ys)) (at + n) (drop n ys) ≡ laid xs at ys
laid_rest xs at n ys h =
    let a = length-take n ys in
    let b = length-drop n ys in
    ext_get_or 0 _ _
    (let f = size_laid xs at ys in
    let g = size_laid (laid xs at (take n ys)) (at + n) (drop n ys) in
    let k = size_laid xs at (take n ys) in
    grind arith)
    (λ p l.
    let f = get_or-laid xs at ys p in
    let g = get_or-laid (laid xs at (take n ys)) (at + n) (drop n ys) p in
    let k = get_or-laid xs at (take n ys) p in
    grind (arith, get_or-take, get_or-drop))

pub drop-laid : (h : ℕ) (xs : List ℕ) (at : ℕ) (ys : List ℕ) → drop h (laid xs (h + at) ys) ≡ laid (drop h xs) at ys
drop-laid h xs at ys =
    let a = length-drop h xs in
    ext_get_or 0 _ _
    (let b = length-drop h (laid xs (h + at) ys) in let f = size_laid xs (h + at) ys in let g = size_laid (drop h xs) at ys in grind arith)
    (λ p l. let f = get_or-laid xs (h + at) ys (h + p) in let g = get_or-laid (drop h xs) at ys p in grind (arith, get_or-drop))

pub drop-resized : (h : ℕ) (xs : List ℕ) (n : ℕ) → drop h (resized xs (h + n)) ≡ resized (drop h xs) n
drop-resized h xs n = ext_get_or 0 _ _ (search (rules, places)) (λ p l. grind (arith, places))

-- a byte of a part laid was there before, or is there once all is laid
pub at_part : (xs : List ℕ) (at n : ℕ) (ys : List ℕ) (p b : ℕ) → n ≤ length ys → At (laid xs at (take n ys)) p b → At xs p b ⊎ At (laid xs at ys) p b
at_part xs at n ys p b le (here, is) =
    let a = length-take n ys in
    let s = size_laid xs at (take n ys) in
    let t = size_laid xs at ys in
    ⊎_elim (λ (before, e). ⊎_elim (λ (l : p < length xs). inl (l, sym e ∙ is)) (λ (l : length xs ≤ p). inr (grind arith, get_or-laid_before xs at ys p before ∙ sym e ∙ is)) (cases_lt p (length xs)))
    (⊎_elim (λ (low, high, e). inr (grind arith, get_or-laid_in xs at ys p low (omega arith) ∙ sym (get_or-take n ys (p - at) 0 (omega arith)) ∙ sym e ∙ is)) (λ (after, e). inl (grind arith, sym e ∙ is)))
    (get_or-laid xs at (take n ys) p)
