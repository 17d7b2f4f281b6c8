-- Laws of refusals: a refusal passed on keeps its number, and names the stream that said so with one layer more.
use Rattle.std.proofs.Common.{Ok, Err, Result, MatchResult, IsErrAnd, ◌≡◌, ℕ, suc, ◌+◌, ◌%◌, ◌^◌, true, ◌⊎◌, List, ◌∷◌, sym, refl, ap, ◌∙◌, subst, inl, inr, ⊎_elim, arith, rules}
use Rattle.std.proofs.lemmas.Result.{err_from_is_err_and}
use Rattle.calls.specs.declared.refusal.Call.{Call}
use Rattle.calls.specs.declared.refusal.Call.TheVariants as call
use Rattle.calls.specs.declared.refusal.Origin.{Origin}
use Rattle.calls.specs.declared.refusal.Refusal.{Refusal}
use Rattle.calls.specs.declared.refusal.Refusal.TheVariants.{BufferTooSmall, BufferTooLarge, HeaderTooLong, BadReadSize, ShortBuffer, BadWhence, NotNow, BadCount, BadPosition, Fault, OutOfRange, PastLimit}
use Rattle.calls.specs.Refusal.{notice, own, under, deepened}
use Rattle.stream.specs.Source.{settles, Reaches, Passed, Blames, Source, FromBelow}

pub number-deepened : (e : Refusal) → (notice (deepened e)).number ≡ (notice e).number
number-deepened BufferTooSmall = refl
number-deepened BufferTooLarge = refl
number-deepened HeaderTooLong = refl
number-deepened BadReadSize = refl
number-deepened ShortBuffer = refl
number-deepened BadWhence = refl
number-deepened (NotNow o) = refl
number-deepened (BadCount o) = refl
number-deepened (BadPosition o) = refl
number-deepened (Fault o c) = refl
number-deepened (OutOfRange o) = refl
number-deepened (PastLimit o) = refl

pub blames_deepened : (Q R : Origin → Type 0) → ((o : Origin) → Q o → R (under o)) → (e : Refusal) → Blames Q e → Blames R (deepened e)
blames_deepened Q R f BufferTooSmall b = tt
blames_deepened Q R f BufferTooLarge b = tt
blames_deepened Q R f HeaderTooLong b = tt
blames_deepened Q R f BadReadSize b = tt
blames_deepened Q R f ShortBuffer b = tt
blames_deepened Q R f BadWhence b = tt
blames_deepened Q R f (NotNow o) b = f o b
blames_deepened Q R f (BadCount o) b = f o b
blames_deepened Q R f (BadPosition o) b = f o b
blames_deepened Q R f (Fault o c) b = f o b
blames_deepened Q R f (OutOfRange o) b = f o b
blames_deepened Q R f (PastLimit o) b = f o b

pub blames_map : (Q R : Origin → Type 0) → ((o : Origin) → Q o → R o) → (e : Refusal) → Blames Q e → Blames R e
blames_map Q R f BufferTooSmall b = tt
blames_map Q R f BufferTooLarge b = tt
blames_map Q R f HeaderTooLong b = tt
blames_map Q R f BadReadSize b = tt
blames_map Q R f ShortBuffer b = tt
blames_map Q R f BadWhence b = tt
blames_map Q R f (NotNow o) b = f o b
blames_map Q R f (BadCount o) b = f o b
blames_map Q R f (BadPosition o) b = f o b
blames_map Q R f (Fault o c) b = f o b
blames_map Q R f (OutOfRange o) b = f o b
blames_map Q R f (PastLimit o) b = f o b

-- a call that settles reaches only calls that settle
settles_on : (a b : Call) → settles a ≡ true → Reaches a b → settles b ≡ true
settles_on call.ReadInto b s r = ⊎_elim (λ e. ap settles e ∙ s) (λ h. h) r
settles_on call.Write b s r = ⊎_elim (λ e. ap settles e) (λ h. h) r
settles_on call.Seek b s r = ⊎_elim (λ e. ap settles e) (λ h. h) r
settles_on call.Tell b s r = ap settles r
settles_on call.Truncate b s r = ⊎_elim (λ e. ap settles e ∙ s) (λ h. h) r
settles_on call.Flush b s r = ⊎_elim (λ e. ap settles e ∙ s) (λ h. h) r

pub reaches_self : (a : Call) → Reaches a a
reaches_self call.ReadInto = inl refl
reaches_self call.Write = inl refl
reaches_self call.Seek = inl refl
reaches_self call.Tell = refl
reaches_self call.Truncate = inl refl
reaches_self call.Flush = inl refl

pub reaches_then : (a b c : Call) → Reaches a b → Reaches b c → Reaches a c
reaches_then call.ReadInto b c h r = ⊎_elim (λ e. subst (λ (x : Call). Reaches x c) e r) (λ s. inr (settles_on b c s r)) h
reaches_then call.Write b c h r = ⊎_elim (λ e. subst (λ (x : Call). Reaches x c) e r) (λ s. inr (settles_on b c s r)) h
reaches_then call.Seek b c h r = ⊎_elim (λ e. subst (λ (x : Call). Reaches x c) e r) (λ s. inr (settles_on b c s r)) h
reaches_then call.Tell b c h r = subst (λ (x : Call). Reaches x c) h r
reaches_then call.Truncate b c h r = ⊎_elim (λ e. subst (λ (x : Call). Reaches x c) e r) (λ s. inr (settles_on b c s r)) h
reaches_then call.Flush b c h r = ⊎_elim (λ e. subst (λ (x : Call). Reaches x c) e r) (λ s. inr (settles_on b c s r)) h

-- a refusal of the next stream below, as this layer passes it on
lift : (a d : Call) (at : ℕ) (places : List ℕ) → Reaches a d → (o : Origin) → (o ≡ own d at) ⊎ Passed d places o → Passed a (at ∷ places) (under o)
lift a d at places h o (inl e) =
    record { level = 0; there = search rules; call_is = subst (λ (x : Call). Reaches a x) (sym (ap (λ (x : Origin). x.call) e)) h; position_is = ap (λ (x : Origin). x.position) e; layers_is = ap (λ (x : Origin). (x.layers + 1) % 2 ^ 32) e }
lift a d at places h o (inr p) =
    let l = p.there in
    let m = p.layers_is in
    record { level = suc p.level; there = search rules; call_is = reaches_then a d o.call h p.call_is; position_is = p.position_is; layers_is = omega arith }

pub pass_up : (a d : Call) (at : ℕ) (places : List ℕ) (e e' : Refusal) → Reaches a d → Blames (λ o. (o ≡ own d at) ⊎ Passed d places o) e → e' ≡ deepened e → Blames (λ o. Passed a (at ∷ places) o) e'
pass_up a d at places e e' h b is = rw is (blames_deepened (λ o. (o ≡ own d at) ⊎ Passed d places o) (λ o. Passed a (at ∷ places) o) (lift a d at places h) e b)

-- an answer from below with the refusal one layer deeper
abbrev pub Deepens : {X : Type 0} → Result X Refusal → Result X Refusal → Type 0
Deepens r r' = MatchResult r (λ x. r' ≡ Ok x) (λ e. IsErrAnd r' (λ e'. e' ≡ deepened e))

-- what is granted here was granted below
pub granted_up : {X E : Type 0} (F : Type 0) (r : Result X E) (v : X) → MatchResult r (λ x. ◌≡◌ {A = Result X F} (Ok v) (Ok x)) (λ e. ⊥) → r ≡ Ok v
granted_up F (Ok x) v m = let e : x ≡ v = cc in ap Ok e
granted_up F (Err e) v m = elim m [ ]

-- the answer of the next stream below, as this layer passes it on
pub passed_up : {X : Type 0} (a d : Call) (at : ℕ) (places : List ℕ) (r r' : Result X Refusal) → Reaches a d → Source d at places r → Deepens r r' → FromBelow a (at ∷ places) r'
passed_up a d at places (Ok x) r' h s is = subst (λ r'. FromBelow a (at ∷ places) r') (sym is) tt
passed_up a d at places (Err e) (Ok y) h s is = elim is [ ]
passed_up a d at places (Err e) (Err e') h s is = pass_up a d at places e e' h s is

-- what came from below is a source
pub as_source : (a : Call) (at : ℕ) (places : List ℕ) (e : Refusal) → Blames (λ o. Passed a places o) e → Blames (λ o. (o ≡ own a at) ⊎ Passed a places o) e
as_source a at places e b = blames_map (λ o. Passed a places o) (λ o. (o ≡ own a at) ⊎ Passed a places o) (λ o p. inr p) e b

-- what `?` hands on
pub residual : {X E : Type 0} (r : Result X E) (e : E) → IsErrAnd r (λ x. x ≡ e) → r ≡ Err e
residual r e h = let p = err_from_is_err_and r h in p.1 ∙ ap Err p.2

-- a refusal from below of one call, as one of a call that reaches it
pub below_as : (a d : Call) (places : List ℕ) (e : Refusal) → Reaches a d → Blames (λ o. Passed d places o) e → Blames (λ o. Passed a places o) e
below_as a d places e h b =
    blames_map (λ o. Passed d places o) (λ o. Passed a places o) (λ o p. record { level = p.level; there = p.there; call_is = reaches_then a d o.call h p.call_is; position_is = p.position_is; layers_is = p.layers_is }) e b
