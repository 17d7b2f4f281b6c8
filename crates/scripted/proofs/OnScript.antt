-- A stream under a script: the stream's own rules, and what the script adds.
use Rattle.std.proofs.Common.{◌≡◌, ℕ, ◌+◌, ◌-◌, ◌^◌, ◌<◌, ◌≤◌, min, Bool, true, false, cond, eqb, ◌⊎◌, List, [], ◌∷◌, ◌++◌, length, take, drop, ℤ, pos, ◌+ℤ◌, Some, None, IsErrAnd, Ok, Err, Option, Result, sym, refl, ap, ◌∙◌, subst, inl, arith, rules}
use Rattle.std.proofs.lemmas.List.{places, ext_get_or, take-take, take-append-drop, length-take-le}
use Rattle.std.proofs.lemmas.Bool.{and_parts}
use Rattle.std.proofs.lemmas.Bool.Decides.{nat_tests}
use Rattle.std.specs.Option.{ok_or}
use Rattle.calls.specs.declared.refusal.Call.{Call}
use Rattle.calls.specs.declared.refusal.Call.TheVariants as call
use Rattle.calls.specs.declared.refusal.Origin.{Origin}
use Rattle.calls.specs.declared.refusal.Whence.{Whence}
use Rattle.calls.specs.declared.refusal.Whence.TheVariants.{Start, Current, End}
use Rattle.calls.specs.declared.refusal.Refusal.{Refusal}
use Rattle.calls.specs.declared.refusal.Refusal.TheVariants.{NotNow, OutOfRange, PastLimit}
use Rattle.calls.specs.Places.{within}
use Rattle.calls.specs.Refusal.{notice, own}
use Rattle.stream.specs.Source.{Blames, Passed}
use Rattle.stream.specs.Stream as st
use Rattle.stream.specs.Stream.{Stream, Pile, Sound, Leaves, Kept, Still, Refused, Unmoved, Why, Outside, laid}
use Rattle.stream.specs.Answers.{all_read, all_written, seek_answer}
use Rattle.stream.proofs.Refusals.{blames_map, residual}
use Rattle.stream.proofs.Streams.{still_refl, why_map}
use Rattle.memory.specs.declared.MemoryStream.{MemoryStream}
use Rattle.memory.specs.Memory.{memory, memory_pile}
use Rattle.script.specs.declared.Entry.{Entry}
use Rattle.script.specs.declared.Entry.TheVariants as entry
use Rattle.script.specs.Script.{second, judged, verdict, moves, grants}
use Rattle.scripted.specs.Scripted.{under, cut_short, at_most}

-- ── the script ──

grants_on : (es : List Entry) → grants es ≡ true → grants (drop 1 es) ≡ true
grants_on [] g = g
grants_on (e ∷ es) g = (and_parts (moves e) (grants es) g).1

-- a call that is granted may move a byte at least
pub most_some : (es : List Entry) (o : Origin) (n : ℕ) → Ok n ≡ verdict es o → 0 < n
most_some [] o n e = let z : n ≡ 2 ^ 64 - 1 = cc in omega arith
most_some (x ∷ es) o n e = grind (arith, nat_tests)

-- one that is refused is not steady
never_steady : (es : List Entry) (o : Origin) (e : Refusal) → Err e ≡ verdict es o → grants es ≡ true → ⊥
never_steady [] o e is g = let z : ◌≡◌ {A = ℕ} 0 1 = cc in omega arith
never_steady (x ∷ es) o e is g = grind (arith, nat_tests)

-- a script's refusal: by a number of a stream that is not steady, and from the origin given
abbrev Fair : Type 0 → Type 0 → Stream → Origin → Result ℕ Refusal → Type 0
Fair R P s o (Ok n) = Unit {0}
Fair R P s o (Err e) = ((s.steady ≡ true → ⊥) → Why s R P (notice e).number) × Blames (λ x. x ≡ o) e

fair_second : (R P : Type 0) (s : Stream) (o : Origin) (n : ℕ) (c : Call) → Fair R P s o (Err (second o n c))
fair_second R P s o n call.ReadInto = (λ u. u, refl)
fair_second R P s o n call.Write = (λ u. u, refl)
fair_second R P s o n call.Seek = (λ u. u, refl)
fair_second R P s o n call.Tell = (λ u. u, refl)
fair_second R P s o n call.Truncate = (λ u. u, refl)
fair_second R P s o n call.Flush = (λ u. u, refl)

fair_cond : (R P : Type 0) (s : Stream) (o : Origin) (b : Bool) (x y : Result ℕ Refusal) → Fair R P s o x → Fair R P s o y → Fair R P s o (cond b x y)
fair_cond R P s o true x y f g = f
fair_cond R P s o false x y f g = g

fair_judged : (R P : Type 0) (s : Stream) (e : Entry) (o : Origin) → Fair R P s o (judged e o)
fair_judged R P s (entry.AtMost n) o = fair_cond R P s o (eqb n 0) (Err (NotNow o)) (Ok n) (λ u. u, refl) tt
fair_judged R P s entry.NotNow o = (λ u. u, refl)
fair_judged R P s (entry.Bad n) o = fair_second R P s o n o.call
fair_judged R P s (entry.Fault n) o = (λ u. u, refl)

fair_verdict : (R P : Type 0) (s : Stream) (o : Origin) (es : List Entry) → Fair R P s o (verdict es o)
fair_verdict R P s o [] = tt
fair_verdict R P s o (e ∷ es) = fair_judged R P s e o

-- ── what a stream keeps under a script ──

kept_under : (s t : Stream) (es fs : List Entry) → fs ≡ drop 1 es → Kept s t → Kept (under es s) (under fs t)
kept_under s t es fs used k = record { limit_same = k.limit_same; steady_on = λ g. ap grants used ∙ grants_on es g; held_from = k.held_from }

still_under : (s t : Stream) (es fs : List Entry) → fs ≡ drop 1 es → Still s t → Still (under es s) (under fs t)
still_under s t es fs used k = record { kept = kept_under s t es fs used k.kept; shown_same = k.shown_same; position_same = k.position_same }

pub unmoved_under : (s : Stream) (es fs : List Entry) → fs ≡ drop 1 es → Unmoved (under es s) (under fs s)
unmoved_under s es fs used = record { still = still_under s s es fs used (still_refl s); stored_same = refl; held_same = λ p b. refl }

-- a refusal of a stream that is always steady
refused_under : (R P Q : Type 0) (s t : Stream) (es fs : List Entry) (e : Refusal) → s.steady ≡ true → (P → Q) → fs ≡ drop 1 es → Refused s t R P e → Refused (under es s) (under fs t) R Q e
refused_under R P Q s t es fs e u f used r = record { still = still_under s t es fs used r.still; why = why_map R P R Q s (under es s) (notice e).number (λ _. u) (λ x. x) f r.why }

pub leaves_under : {X : Type 0} (c : Call) (t : Stream) (p q : Pile) (fs : List Entry) (r : Result X Refusal) → Leaves c t p q r → Leaves c (under fs t) (cut_short p) (cut_short q) r
leaves_under c t p q fs r k = record { piled = record { headers_same = k.piled.headers_same; whole_same = refl }; source = k.source }

-- ── a call that the script refuses ──

-- the script's refusal names this stream
pub refused_leaves : {X : Type 0} (c : Call) (m : MemoryStream) (es fs : List Entry) (at : ℕ) (e : Refusal) (r : Result X Refusal) → Err e ≡ verdict es (own c at) → at ≡ m.pos → IsErrAnd r (λ x. x ≡ e) →
    Leaves {X = X} c (under fs (memory m)) (cut_short (memory_pile m)) (cut_short (memory_pile m)) r
refused_leaves c m es fs at e r said here out =
    let o = own c m.pos in
    let is : Err e ≡ verdict es o = said ∙ ap (λ (p : ℕ). verdict es (own c p)) here in
    let fair : Fair ⊥ ⊥ (under es (memory m)) o (Err e) = subst (Fair ⊥ ⊥ (under es (memory m)) o) (sym is) (fair_verdict ⊥ ⊥ (under es (memory m)) o es) in
    rw (residual r e out) (record { piled = record { headers_same = refl; whole_same = refl }; source = blames_map (λ x. x ≡ o) (λ x. (x ≡ o) ⊎ Passed c [] x) (λ x h. inl h) e fair.1 })

-- ── a call that it grants ──

-- a read into the front of the buffer, cut at the script's count
pub read_under : (s t : Stream) (es fs : List Entry) (buf out : List ℕ) (k most : ℕ) (r : Result ℕ Refusal) → s.steady ≡ true → fs ≡ drop 1 es → k ≡ min (length buf) most → 0 < most → st.ReadInto s t (take k buf) out r → st.ReadInto (under es s) (under fs t) buf (out ++ drop k buf) r
read_under s t es fs buf out k most (Ok n) u used is some q =
    let l = length-take-le k buf (omega arith) in
    let c = q.count_buf in
    let d = q.count_left in
    record {
      kept = kept_under s t es fs used q.kept;
      count_buf = omega arith;
      count_left = q.count_left;
      some = λ z. let y = q.some z in omega arith;
      filled = ap (λ (o : List ℕ). o ++ drop k buf) q.filled ∙ ext_get_or 0 _ _ (search (rules, places)) (λ p h. grind (arith, places));
      shown_same = q.shown_same;
      moved = q.moved;
    }
read_under s t es fs buf out k most (Err e) u used is some q =
    (ap (λ (o : List ℕ). o ++ drop k buf) q.0 ∙ take-append-drop k buf, refused_under ⊥ ⊥ ⊥ s t es fs e u (λ x. x) used q.1)

pub read_answer : (s : Stream) (buf : List ℕ) (k most : ℕ) → k ≡ min (length buf) most → all_read s (length (take k buf)) ≡ at_most (all_read s (length buf)) most
read_answer s buf k most is = let l = length-take-le k buf (omega arith) in ap Ok (omega arith)

-- a write of the front of the bytes, all of which fit
pub write_under : (s t : Stream) (es fs : List Entry) (buf : List ℕ) (k most : ℕ) (r : Result ℕ Refusal) → s.steady ≡ true → fs ≡ drop 1 es → k ≡ min (length buf) most → 0 < most → s.position + length buf ≤ s.limit → st.Write s t (take k buf) r → st.Write (under es s) (under fs t) buf r
write_under s t es fs buf k most (Ok n) u used is some fits q =
    let l = length-take-le k buf (omega arith) in
    let c = q.count in
    record {
      kept = kept_under s t es fs used q.kept;
      fits = fits;
      count = omega arith;
      some = λ z. let y = q.some z in omega arith;
      shown_laid = q.shown_laid ∙ ap (laid s.shown s.position) (take-take n k buf (omega arith));
      moved = q.moved;
    }
write_under s t es fs buf k most (Err e) u used is some fits q =
    let l = length-take-le k buf (omega arith) in
    refused_under ⊥ (s.limit < s.position + length (take k buf)) (s.limit < s.position + length buf) s t es fs e u (λ h. omega arith) used q

pub write_answer : (s : Stream) (buf : List ℕ) (k most : ℕ) → k ≡ min (length buf) most → s.position + length buf ≤ s.limit → all_written s (length (take k buf)) ≡ at_most (all_written s (length buf)) most
write_answer s buf k most is fits = let l = length-take-le k buf (omega arith) in grind (arith, nat_tests)

-- a write that would end past the limit
past_answer : (s : Stream) (k most : ℕ) → s.limit < s.position + k → Err (PastLimit (own call.Write s.position)) ≡ at_most (all_written s k) most
past_answer s k most h = grind (arith, nat_tests)

seek_to_under : (s t : Stream) (es fs : List Entry) (goal : ℤ) (r : Result ℕ Refusal) → s.steady ≡ true → fs ≡ drop 1 es → st.SeekTo s t goal r → st.SeekTo (under es s) (under fs t) goal r
seek_to_under s t es fs goal (Ok n) u used q = record { kept = kept_under s t es fs used q.kept; goal_is = q.goal_is; fits = q.fits; shown_same = q.shown_same; moved = q.moved }
seek_to_under s t es fs goal (Err e) u used q = refused_under (Outside s goal) ⊥ ⊥ s t es fs e u (λ x. x) used q

origin_under : (s : Stream) (es : List Entry) (o : Whence) → st.origin s o ≡ st.origin (under es s) o
origin_under s es Start = refl
origin_under s es Current = refl
origin_under s es End = refl

pub seek_under : (s t : Stream) (es fs : List Entry) (target : ℤ) (w : Option Whence) (r : Result ℕ Refusal) → s.steady ≡ true → fs ≡ drop 1 es → (w ≡ None → ⊥) → st.SeekBy s t target w r → st.SeekBy (under es s) (under fs t) target w r
seek_under s t es fs target None r u used some q = absurd (some refl)
seek_under s t es fs target (Some o) r u used some q = seek_to_under s t es fs _ r u used (subst (λ (k : ℕ). st.SeekTo s t (target +ℤ pos k) r) (origin_under s es o) q)

pub seek_answered : (s : Stream) (es : List Entry) (target : ℤ) (w : Option Whence) → seek_answer s target w ≡ seek_answer (under es s) target w
seek_answered s es target None = refl
seek_answered s es target (Some o) = ap (λ (k : ℕ). ok_or (within s.limit (target +ℤ pos k)) (OutOfRange (own call.Seek s.position))) (origin_under s es o)

pub truncate_under : (s t : Stream) (es fs : List Entry) (goal : ℤ) (r : Result ℕ Refusal) → s.steady ≡ true → fs ≡ drop 1 es → st.Truncate s t goal r → st.Truncate (under es s) (under fs t) goal r
truncate_under s t es fs goal (Ok n) u used q = record { kept = kept_under s t es fs used q.kept; goal_is = q.goal_is; fits = q.fits; shown_cut = q.shown_cut; position_same = q.position_same }
truncate_under s t es fs goal (Err e) u used q = refused_under (Outside s goal) ⊥ ⊥ s t es fs e u (λ x. x) used q

-- a scripted stream need not move all it can
pub whole_cut : (p : Pile) (s : Stream) (most : ℕ) (r : Result ℕ Refusal) → st.Whole (cut_short p) s most r
whole_cut p s most (Ok n) = λ u v. let z : ◌≡◌ {A = ℕ} 0 1 = cc in absurd (omega arith)
whole_cut p s most (Err e) = tt
