-- Laws of the relations between streams.
use Rattle.std.proofs.Common.{◌≡◌, ℕ, ◌≤◌, Bool, true, false, eqb, List, length, ℤ, pos, negsuc, ◌+ℤ◌, ◌≤ℤ◌, Some, None, Ok, Err, MatchBool, Option, sym, refl, ap, ◌∙◌, subst, inl, inr, ⊎_elim, arith, rules}
use Rattle.std.proofs.lemmas.Bool.{and_parts, and_from, ltb-true, eqb-true, lt-ltb, eq-eqb}
use Rattle.std.proofs.lemmas.Int.{ints}
use Rattle.std.proofs.lemmas.Bool.Decides.{nat_tests}
use Rattle.std.specs.Option.{ok_or}
use Rattle.calls.specs.declared.refusal.Call.TheVariants as call
use Rattle.calls.specs.declared.refusal.Refusal.{Refusal}
use Rattle.calls.specs.declared.refusal.Refusal.TheVariants.{OutOfRange}
use Rattle.calls.specs.declared.refusal.Whence.{Whence}
use Rattle.calls.specs.Refusal.{notice, own, deepened}
use Rattle.stream.specs.Stream.{Stream, Pile, Piled, Based, Kept, Sound, Still, Refused, Why, unsteady, At, is_at, Outside, Sought, Cut, Unmoved, origin}
use Rattle.calls.specs.Places.{within}
use Rattle.stream.specs.Answers.{seek_answer}
use Rattle.stream.proofs.Refusals.{number-deepened}

-- ── what is kept over steps ──

pub kept_refl : (s : Stream) → Kept s s
kept_refl s = record { limit_same = refl; steady_on = λ u. u; held_from = λ p b h. inl h }

pub still_refl : (s : Stream) → Still s s
still_refl s = record { kept = kept_refl s; shown_same = refl; position_same = refl }

pub unmoved_refl : (s : Stream) → Unmoved s s
unmoved_refl s = record { still = still_refl s; stored_same = refl; held_same = λ p b. refl }

-- two steps, of which the first moves no byte shown
pub kept_then : (a b c : Stream) → Sound a → b.shown ≡ a.shown → Kept a b → Kept b c → Kept a c
kept_then a b c sound same k l =
    record { limit_same = l.limit_same ∙ k.limit_same; steady_on = λ u. l.steady_on (k.steady_on u); held_from = λ p x h. ⊎_elim (λ g. ⊎_elim inl (λ at. inl (sound.showing p x (subst (λ (xs : List ℕ). At xs p x) same at))) (k.held_from p x g)) inr (l.held_from p x h) }

pub still_then : (a b c : Stream) → Sound a → Still a b → Still b c → Still a c
still_then a b c sound k l =
    record { kept = kept_then a b c sound k.shown_same k.kept l.kept; shown_same = l.shown_same ∙ k.shown_same; position_same = l.position_same ∙ k.position_same }

pub piled_refl : (p : Pile) → Piled p p
piled_refl p = record { headers_same = refl; whole_same = refl }

pub piled_then : (p q r : Pile) → Piled p q → Piled q r → Piled p r
piled_then p q r a b = record { headers_same = b.headers_same ∙ a.headers_same; whole_same = b.whole_same ∙ a.whole_same }

-- ── reasons ──

when_map : (a b c : Bool) (R P U R' P' U' : Type 0) → (R → R') → (P → P') → (U → U') → MatchBool a R (MatchBool b P (MatchBool c U ⊥)) → MatchBool a R' (MatchBool b P' (MatchBool c U' ⊥))
when_map true b c R P U R' P' U' f g h w = f w
when_map false true c R P U R' P' U' f g h w = g w
when_map false false true R P U R' P' U' f g h w = h w
when_map false false false R P U R' P' U' f g h w = w

when_never : (a b c : Bool) (R P U : Type 0) → (R → ⊥) → (P → ⊥) → (U → ⊥) → MatchBool a R (MatchBool b P (MatchBool c U ⊥)) → ⊥
when_never true b c R P U f g h w = f w
when_never false true c R P U f g h w = g w
when_never false false true R P U f g h w = h w
when_never false false false R P U f g h w = w

pub why_map : (R P R' P' : Type 0) (s s' : Stream) (n : ℕ) → (s'.steady ≡ true → s.steady ≡ true) → (R → R') → (P → P') → Why s R P n → Why s' R' P' n
why_map R P R' P' s s' n f g h w = when_map (eqb n 11) (eqb n 12) (unsteady n) R P (s.steady ≡ true → ⊥) R' P' (s'.steady ≡ true → ⊥) g h (λ r u. r (f u)) w

-- the same refusal, passed on by the next layer
pub why_deeper : (R P R' P' : Type 0) (s s' : Stream) (e : Refusal) → (s'.steady ≡ true → s.steady ≡ true) → (R → R') → (P → P') → Why s R P (notice e).number → Why s' R' P' (notice (deepened e)).number
why_deeper R P R' P' s s' e f g h w = subst (λ (n : ℕ). Why s' R' P' n) (sym (number-deepened e)) (why_map R P R' P' s s' (notice e).number f g h w)

-- a refusal by 11 or 12 that cannot be, passed on: it is by 7 to 10
pub refused_deeper : (R P : Type 0) (s t : Stream) (e e' : Refusal) → (R → ⊥) → (P → ⊥) → Refused s t R P e → e' ≡ deepened e → Refused s t ⊥ ⊥ e'
refused_deeper R P s t e e' f g r is =
    let w = why_deeper R P ⊥ ⊥ s s e (λ x. x) f g r.why in
    record { still = r.still; why = subst (λ (x : Refusal). Why s ⊥ ⊥ (notice x).number) (sym is) w }

-- a steady stream refuses by 11 and 12 alone
pub steady_refused : (R P : Type 0) (s : Stream) (n : ℕ) → s.steady ≡ true → (R → ⊥) → (P → ⊥) → Why s R P n → ⊥
steady_refused R P s n u f g w = when_never (eqb n 11) (eqb n 12) (unsteady n) R P (s.steady ≡ true → ⊥) f g (λ r. r u) w

-- ── places within the limit ──

pub within_is : (limit : ℕ) (z : ℤ) (v : ℕ) → Some v ≡ within limit z → (z ≡ pos v) × (v ≤ limit)
within_is limit (pos n) v e = let q : (n ≡ v) × (v ≤ limit) = grind (arith, nat_tests) in (ap pos q.0, q.1)
within_is limit (negsuc n) v e = let z : ◌≡◌ {A = ℕ} 0 1 = cc in absurd (omega arith)

pub within_out : (limit : ℕ) (z : ℤ) → None ≡ within limit z → pos 0 ≤ℤ z → z ≤ℤ pos limit → ⊥
within_out limit (pos n) e low high = let h : n ≤ limit = omega (arith, ints) in grind (arith, nat_tests)
within_out limit (negsuc n) e low high = omega (arith, ints)

pub within_at : (limit limit' : ℕ) (z z' : ℤ) (x : Option ℕ) → limit ≡ limit' → z ≡ z' → x ≡ within limit z → x ≡ within limit' z'
within_at limit limit' z z' x e f h = h ∙ ap (λ (l : ℕ). within l z) e ∙ ap (within limit') f

-- the answer of a seek, by the place that was found
pub seek_found : (s : Stream) (target : ℤ) (o : Whence) (wo : Option Whence) (v : ℕ) → wo ≡ Some o → Some v ≡ within s.limit (target +ℤ pos (origin s o)) → Ok v ≡ seek_answer s target wo
seek_found s target o wo v is e =
    let a : Ok v ≡ seek_answer s target (Some o) = ap (λ (x : Option ℕ). ok_or x (OutOfRange (own call.Seek s.position))) e in
    subst (λ (w : Option Whence). Ok v ≡ seek_answer s target w) (sym is) a

pub seek_lost : (s : Stream) (target : ℤ) (o : Whence) (wo : Option Whence) → wo ≡ Some o → None ≡ within s.limit (target +ℤ pos (origin s o)) → Err (OutOfRange (own call.Seek s.position)) ≡ seek_answer s target wo
seek_lost s target o wo is e =
    let r = OutOfRange (own call.Seek s.position) in
    let a : Err r ≡ seek_answer s target (Some o) = ap (λ (x : Option ℕ). ok_or x r) e in
    subst (λ (w : Option Whence). Err r ≡ seek_answer s target w) (sym is) a

pub some_not_none : (x : Option ℕ) (v : ℕ) → Some v ≡ x → x ≡ None → ⊥
some_not_none x v e f = let z : ◌≡◌ {A = ℕ} 0 1 = cc in omega arith

pub in_range : (s : Stream) (n : ℕ) → n ≤ s.limit → Outside s (pos n) → ⊥
in_range s n h out = out (search rules) (search rules)

-- ── the same goal, written otherwise ──

pub sought_is : (s t : Stream) (z z' : ℤ) (v : ℕ) → z ≡ z' → Sought s t z v → Sought s t z' v
sought_is s t z z' v e r = subst (λ (x : ℤ). Sought s t x v) e r

pub refused_is : (s t : Stream) (z z' : ℤ) (e : Refusal) → z ≡ z' → Refused s t (Outside s z) ⊥ e → Refused s t (Outside s z') ⊥ e
refused_is s t z z' e q r = subst (λ (x : ℤ). Refused s t (Outside s x) ⊥ e) q r

pub cut_is : (s t : Stream) (z : ℤ) (n v : ℕ) → z ≡ pos n → Cut s t z v → Cut s t (pos n) n
cut_is s t z n v e r =
    let g = r.goal_is in let q : v ≡ n = cc in
    let h = subst (λ (x : ℤ). Cut s t x v) e r in
    subst (λ (x : ℕ). Cut s t (pos n) x) q h

-- ── the test of a byte at a place ──

pub at_test : (xs : List ℕ) (p b : ℕ) → At xs p b → is_at xs p b ≡ true
at_test xs p b (here, is) = and_from _ _ (lt-ltb p (length xs) here) (eq-eqb _ b is)

pub test_at : (xs : List ℕ) (p b : ℕ) → is_at xs p b ≡ true → At xs p b
test_at xs p b e = let q = and_parts _ _ e in (ltb-true p (length xs) q.0, eqb-true _ b q.1)
