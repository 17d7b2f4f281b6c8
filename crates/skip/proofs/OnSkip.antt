-- The header skip's rules, over the stream below.
use Rattle.std.proofs.Common.{◌≡◌, ℕ, ◌+◌, ◌-◌, ◌^◌, ◌<◌, ◌≤◌, Bool, true, false, ◌||◌, eqb, List, ◌∷◌, ◌++◌, length, take, drop, ℤ, pos, IsErrAnd, Ok, Err, MatchBool, MatchResult, Result, sym, refl, ap, ◌∙◌, subst, inl, inr, ⊎_elim, arith, length-drop, w64, to_z}
use Rattle.std.proofs.lemmas.List.{get_or-drop, drop-drop}
use Rattle.std.proofs.lemmas.Int.{ints}
use Rattle.calls.specs.declared.refusal.Call.{Call}
use Rattle.calls.specs.declared.refusal.Refusal.{Refusal}
use Rattle.calls.specs.Refusal.{notice, own}
use Rattle.stream.specs.Source.{Passed, Blames, Source, FromBelow}
use Rattle.stream.specs.Stream.{Stream, Pile, Piled, Kept, Sound, Still, Leaves, Why, unsteady, Read, Wrote, Cut, Sought, ReadInto, Write, Truncate, Flush, Outside, laid, resized, At}
use Rattle.stream.proofs.Bytes.{drop-laid, drop-resized}
use Rattle.stream.proofs.Refusals.{as_source, reaches_self, Deepens, granted_up, passed_up, residual}
use Rattle.stream.proofs.Streams.{kept_then, why_deeper, cut_is}
use Rattle.skip.specs.Skip.{skipped, skipped_pile, InSkip, Says}

-- ── numbers ──

-- the place that was asked for is the one that was found
pub found_at : (n v m : ℕ) → pos n ≡ pos v → m ≡ v → m ≡ n
found_at n v m is moved = omega (arith, ints)

-- the header and a place past it lie within the limit
pub past_head : (h p limit : ℕ) → h ≤ limit → p ≤ limit - h → h + p ≤ limit
past_head h p limit head place = omega arith

-- bytes from a position end within a limit, or past it
pub ends_in : (n p limit limit' : ℕ) → p ≤ limit' → limit ≡ limit' → n ≤ limit - p → p + n ≤ limit'
ends_in n p limit limit' place is le = omega arith

-- bytes that fit from the place past the header on fit below
pub fits_below : (n h p at limit limit' : ℕ) → at ≡ h + p → limit' ≡ limit → h ≤ limit → p + n ≤ limit - h → limit' < at + n → ⊥
fits_below n h p at limit limit' is same head le lt = omega arith

-- ── the parts ──

at_drop : (h : ℕ) (xs : List ℕ) (p b : ℕ) → At xs (h + p) b → At (drop h xs) p b
at_drop h xs p b a = let l = length-drop h xs in let n = a.0 in (omega arith, get_or-drop h xs p 0 ∙ a.1)

kept_skip : (a b : Stream) (h p q : ℕ) → Kept a b → Kept (skipped a h p) (skipped b h q)
kept_skip a b h p q k =
    record { limit_same = ap (λ (n : ℕ). n - h) k.limit_same; steady_on = k.steady_on; held_from = λ x y u. ⊎_elim inl (λ i. inr (at_drop h b.shown x y i)) (k.held_from (h + x) y u) }

still_skip : (a b : Stream) (h p : ℕ) → Kept a b → b.shown ≡ a.shown → Still (skipped a h p) (skipped b h p)
still_skip a b h p k e = record { kept = kept_skip a b h p p k; shown_same = ap (drop h) e; position_same = refl }

piled_skip : (a b : Stream) (u v : Pile) (h h' : ℕ) → h' ≡ h → Piled u v → Piled (skipped_pile a u h) (skipped_pile b v h')
piled_skip a b u v h h' e k = rw e (record { headers_same = ap (λ (n : ℕ). n + h) k.headers_same; whole_same = k.whole_same })

-- ── what comes from below ──

source_up : {X : Type 0} (c : Call) (at : ℕ) (places : List ℕ) (r : Result X Refusal) → FromBelow c places r → Source c at places r
source_up c at places (Ok x) f = tt
source_up c at places (Err e) f = as_source c at places e f

pub leaves_up : {X : Type 0} (c : Call) (a b : Stream) (u v : Pile) (h h' p : ℕ) (r : Result X Refusal) → h' ≡ h → Piled u v → FromBelow c (b.position ∷ v.places) r → Leaves c (skipped b h' p) (skipped_pile a u h) (skipped_pile b v h') r
leaves_up c a b u v h h' p r e k f = record { piled = piled_skip a b u v h h' e k; source = source_up c p (b.position ∷ v.places) r f }

-- a refusal, if it is one, is by 7 to 10
abbrev Unsteady : {X : Type 0} → Stream → Result X Refusal → Type 0
Unsteady s r = MatchResult r (λ x. Unit {0}) (λ e. Why s ⊥ ⊥ (notice e).number)

-- the same refusal one layer up, where 11 and 12 cannot be
pub unsteady_up : {X : Type 0} (R P : Type 0) (s : Stream) (r r' : Result X Refusal) → (R → ⊥) → (P → ⊥) → MatchResult r (λ x. Unit {0}) (λ e. Why s R P (notice e).number) → Deepens r r' → Unsteady s r'
unsteady_up R P s (Ok x) r' f g w d = rw d tt
unsteady_up R P s (Err e) (Ok x) f g w d = elim d [ ]
unsteady_up R P s (Err e) (Err e') f g w d = subst (λ x. Why s ⊥ ⊥ (notice x).number) (sym d) (why_deeper R P ⊥ ⊥ s s e (λ x. x) f g w)

neither : (a b c : Bool) (U X Y : Type 0) → MatchBool a ⊥ (MatchBool b ⊥ (MatchBool c U ⊥)) → Y → MatchBool (a || b) X Y
neither true b c U X Y w y = absurd w
neither false true c U X Y w y = absurd w
neither false false c U X Y w y = y

pub says_up : {X : Type 0} (c : Call) (s : Stream) (p : ℕ) (places : List ℕ) (r : Result X Refusal) → Unsteady s r → FromBelow c places r → Says c p places r
says_up c s p places (Ok x) w f = tt
says_up c s p places (Err e) w f =
    neither (eqb (notice e).number 11) (eqb (notice e).number 12) (unsteady (notice e).number) (s.steady ≡ true → ⊥) (Blames (λ o. o ≡ own c p) e) (Blames (λ o. Passed c places o) e) w f

-- the same for a call below of the same name, whose refusal `?` hands on
pub leaves_err : {X : Type 0} (c : Call) (a b : Stream) (u v : Pile) (h h' p : ℕ) (r r' : Result X Refusal) (e : Refusal) → h' ≡ h → Piled u v → Source c b.position v.places r → Deepens r (Err e) → IsErrAnd r' (λ x. x ≡ e) →
    Leaves c (skipped b h' p) (skipped_pile a u h) (skipped_pile b v h') r'
leaves_err c a b u v h h' p r r' e same k s d out = rw (residual r' e out) (leaves_up c a b u v h h' p (Err e) same k (passed_up c c b.position v.places r (Err e) (reaches_self c) s d))

pub says_err : {X : Type 0} (c : Call) (R P : Type 0) (b t : Stream) (v : Pile) (p : ℕ) (r r' : Result X Refusal) (e : Refusal) → (R → ⊥) → (P → ⊥) → MatchResult r (λ x. Unit {0}) (λ e. Why b R P (notice e).number) → Source c t.position v.places r → Deepens r (Err e) → IsErrAnd r' (λ x. x ≡ e) →
    Says c p (t.position ∷ v.places) r'
says_err {X = X} c R P b t v p r r' e f g w s d out = rw (residual r' e out) (says_up {X = X} c b p (t.position ∷ v.places) (Err e) (unsteady_up R P b r (Err e) f g w d) (passed_up c c t.position v.places r (Err e) (reaches_self c) s d))

-- why a call below was refused
pub read_why : (s t : Stream) (buf out : List ℕ) (r : Result ℕ Refusal) → ReadInto s t buf out r → Unsteady s r
read_why s t buf out (Ok n) h = tt
read_why s t buf out (Err e) h = h.1.why

pub write_why : (s t : Stream) (buf : List ℕ) (r : Result ℕ Refusal) → Write s t buf r → MatchResult r (λ x. Unit {0}) (λ e. Why s ⊥ (s.limit < s.position + length buf) (notice e).number)
write_why s t buf (Ok n) h = tt
write_why s t buf (Err e) h = h.why

pub cut_why : (s t : Stream) (goal : ℤ) (r : Result ℕ Refusal) → Truncate s t goal r → MatchResult r (λ x. Unit {0}) (λ e. Why s (Outside s goal) ⊥ (notice e).number)
cut_why s t goal (Ok n) h = tt
cut_why s t goal (Err e) h = h.why

pub flush_why : {X : Type 0} (s t : Stream) (r : Result X Refusal) → Flush s t r → Unsteady s r
flush_why s t (Ok n) h = tt
flush_why s t (Err e) h = h.why

-- ── granted ──

pub read_skip : (a b d : Stream) (h h' p p' n v : ℕ) (buf out : List ℕ) (r : Result ℕ Refusal) → Sound a → InSkip a h p → h' ≡ h → p' ≡ p → Sought a b (pos (h + p)) v → ReadInto b d buf out r → Deepens r (Ok n) →
    Read (skipped a h p) (skipped d h' (p' + n)) buf out n
read_skip a b d h h' p p' n v buf out r sound ok e f to rule up =
    let q : Read b d buf out n = subst (ReadInto b d buf out) (granted_up Refusal r n up) rule in
    let same = to.shown_same in
    let at = found_at (h + p) v b.position to.goal_is to.moved in
    let l = length-drop h a.shown in
    let m : length b.shown ≡ length a.shown = ap length same in
    let all = kept_then a b d sound same to.kept q.kept in
    let c₁ = q.count_left in
    let sized = sound.sized in
    let filled : out ≡ take n (drop p (drop h a.shown)) ++ drop n buf = q.filled ∙ simp (at, same, drop-drop) in
    rw (e, f) (record { kept = kept_skip a d h p (p + n) all; count_buf = q.count_buf; count_left = omega arith; some = λ z. let s = q.some z in omega arith; filled = filled; shown_same = ap (drop h) (q.shown_same ∙ same); moved = refl })

pub wrote_skip : (a b d : Stream) (h h' p p' n v : ℕ) (buf : List ℕ) (r : Result ℕ Refusal) → Sound a → InSkip a h p → h' ≡ h → p' ≡ p → Sought a b (pos (h + p)) v → Write b d buf r → Deepens r (Ok n) →
    Wrote (skipped a h p) (skipped d h' (p' + n)) buf n
wrote_skip a b d h h' p p' n v buf r sound ok e f to rule up =
    let q : Wrote b d buf n = subst (Write b d buf) (granted_up Refusal r n up) rule in
    let same = to.shown_same in
    let at = found_at (h + p) v b.position to.goal_is to.moved in
    let all = kept_then a b d sound same to.kept q.kept in
    let lim = all.limit_same in
    let lim₂ = to.kept.limit_same in
    let fits = q.fits in
    let shown : drop h d.shown ≡ laid (drop h a.shown) p (take n buf) = ap (drop h) q.shown_laid ∙ simp (at, same, drop-laid) in
    rw (e, f) (record { kept = kept_skip a d h p (p + n) all; fits = omega arith; count = q.count; some = q.some; shown_laid = shown; moved = refl })

pub cut_skip : (a d : Stream) (h p v w : ℕ) (goal to : ℤ) (r : Result ℕ Refusal) → goal ≡ pos v → to ≡ pos (h + v) → v ≤ a.limit - h → Truncate a d to r → Deepens r (Ok w) → Cut (skipped a h p) (skipped d h p) goal v
cut_skip a d h p v w goal to r is below fits rule up =
    let q = cut_is a d to (h + v) w below (subst (Truncate a d to) (granted_up Refusal r w up) rule) in
    let shown : drop h d.shown ≡ resized (drop h a.shown) v = ap (drop h) q.shown_cut ∙ simp drop-resized in
    record { kept = kept_skip a d h p p q.kept; goal_is = is; fits = fits; shown_cut = shown; position_same = refl }

pub flush_skip : {X : Type 0} (a d : Stream) (h p : ℕ) (r r' : Result X Refusal) → Flush a d r → Deepens r r' → Flush (skipped a h p) (skipped d h p) r'
flush_skip a d h p (Ok x) r' f k =
    rw k (record { still = still_skip a d h p f.still.kept f.still.shown_same; stored_shown = ap (drop h) f.stored_shown; held_shown = λ x y u. at_drop h d.shown x y (f.held_shown (h + x) y u) })
flush_skip a d h p (Err e) (Ok x) f k = elim k [ ]
flush_skip a d h p (Err e) (Err e') f k = record { still = still_skip a d h p f.still.kept f.still.shown_same; why = subst (λ x. Why a ⊥ ⊥ (notice x).number) (sym k) (why_deeper ⊥ ⊥ ⊥ ⊥ a a e (λ x. x) (λ x. x) (λ x. x) f.why) }
