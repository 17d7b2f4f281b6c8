-- The memory stream's rules, over the bytes of its slice.
use Rattle.std.proofs.Common.{◌≡◌, ℕ, ◌+◌, ◌-◌, ◌<◌, ◌≤◌, min, max, Bool, true, false, cond, List, ◌++◌, length, take, drop, replicate, ℤ, pos, Ok, Err, Result, sym, refl, ap, ◌∙◌, inl, inr, arith, length-take, rules}
use borrow.Rule.Slice.PartMut.{put_mid}
use Rattle.std.proofs.lemmas.List.{places, ext_get_or, take_all}
use Rattle.calls.specs.declared.refusal.Call.TheVariants as call
use Rattle.calls.specs.declared.refusal.Refusal.{Refusal}
use Rattle.calls.specs.declared.refusal.Refusal.TheVariants.{PastLimit}
use Rattle.calls.specs.Refusal.{own}
use Rattle.stream.specs.Stream.{Stream, Pile, Leaves, Read, Wrote, Cut, Whole, left, laid, resized}
use Rattle.stream.specs.Answers.{all_read, all_written}
use Rattle.stream.proofs.Bytes.{get_or-laid, size_laid}
use Rattle.stream.proofs.Streams.{kept_refl, piled_refl, test_at}
use Rattle.memory.specs.Room.{file, ground, InRoom, room}

-- ── reading ──

-- some of what is left, and none only where there is none to read
pub read_part : (bytes buf out : List ℕ) (len place n : ℕ) → InRoom bytes len place → n ≤ length buf → n ≤ len - place → (n ≡ 0 → min (length buf) (len - place) ≡ 0) → out ≡ take n (drop place bytes) →
    Read (file bytes len place) (file bytes len (place + n)) buf (out ++ drop n buf) n
read_part bytes buf out len place n ok fits left some got =
    let l : length (take len bytes) ≡ len = simp length-take (omega (arith, ok.len_fits)) in
    let same : take n (drop place bytes) ≡ take n (drop place (take len bytes)) = ext_get_or 0 _ _ (search (rules, places)) (λ p h. grind (arith, places)) in
    record { kept = record { limit_same = refl; steady_on = λ u. u; held_from = λ p b h. inl h }; count_buf = fits; count_left = omega arith; some = λ z. let m = some z in omega arith; filled = ap (λ (o : List ℕ). o ++ drop n buf) (got ∙ same); shown_same = refl; moved = refl }

pub read_file : (bytes buf out : List ℕ) (len place n : ℕ) → InRoom bytes len place → n ≡ min (length buf) (len - place) → out ≡ take n (drop place bytes) →
    Read (file bytes len place) (file bytes len (place + n)) buf (out ++ drop n buf) n
read_file bytes buf out len place n ok is got = read_part bytes buf out len place n ok (omega arith) (omega arith) (λ z. omega arith) got

-- a read that finds nothing
pub read_none : (bytes buf : List ℕ) (len place n : ℕ) → InRoom bytes len place → n ≡ min (length buf) (len - place) → n ≡ 0 →
    Leaves {X = ℕ} call.ReadInto (file bytes len place) (ground bytes len) (ground bytes len) (Ok 0) × Read (file bytes len place) (file bytes len place) buf buf 0 × (Ok 0 ≡ all_read (file bytes len place) (length buf))
read_none bytes buf len place n ok is none =
    let l : length (take len bytes) ≡ len = simp length-take (omega (arith, ok.len_fits)) in
    let z : min (length buf) (length (take len bytes) - place) ≡ 0 = omega arith in
    (record { piled = piled_refl _; source = tt }, record { kept = kept_refl (file bytes len place); count_buf = omega arith; count_left = omega arith; some = λ _. z; filled = refl; shown_same = refl; moved = omega arith }, ap Ok (sym z))

-- all that is left is read
pub whole_read : (p : Pile) (s : Stream) (k : ℕ) (r : Result ℕ Refusal) → r ≡ all_read s k → Whole p s (min k (left s)) r
whole_read p s k r e = rw e (λ u v. refl)

-- ── writing ──

-- all is written
whole_cond : (p : Pile) (s : Stream) (k : ℕ) (e : Refusal) (b : Bool) → Whole p s k (cond b (Ok k) (Err e))
whole_cond p s k e true = λ u v. refl
whole_cond p s k e false = tt

pub whole_write : (p : Pile) (s : Stream) (k : ℕ) (r : Result ℕ Refusal) → r ≡ all_written s k → Whole p s k r
whole_write p s k r e = rw e (whole_cond p s k (PastLimit (own call.Write s.position)) _)

-- the bytes after zeros are laid from one place to another
abbrev pub cleared : List ℕ → ℕ → ℕ → List ℕ
cleared bytes from to = take from bytes ++ (replicate (to - from) 0 ++ drop to bytes)

-- the bytes after some are laid at a place
abbrev pub pasted : List ℕ → ℕ → List ℕ → List ℕ
pasted bytes at buf = take at bytes ++ (buf ++ drop (at + length buf) bytes)

pub length-cleared : (bytes : List ℕ) (from to : ℕ) → from ≤ to → to ≤ length bytes → length (cleared bytes from to) ≡ length bytes
length-cleared bytes from to h l = search (rules, places)

length-pasted : (bytes : List ℕ) (at : ℕ) (buf : List ℕ) → at + length buf ≤ length bytes → length (pasted bytes at buf) ≡ length bytes
length-pasted bytes at buf h = search (rules, places)

pub put_cleared : (bytes last : List ℕ) (from to : ℕ) → from ≤ to → to ≤ length bytes → last ≡ replicate (length (take (to - from) (drop from bytes))) 0 → put_mid from (to - from) bytes last ≡ cleared bytes from to
put_cleared bytes last from to h l e = rw e (ext_get_or 0 _ _ (search (rules, places)) (λ p q. grind (arith, places)))

pub put_pasted : (bytes last buf : List ℕ) (at : ℕ) → at + length buf ≤ length bytes → last ≡ buf → put_mid at ((at + length buf) - at) bytes last ≡ pasted bytes at buf
put_pasted bytes last buf at h e = rw e (ext_get_or 0 _ _ (search (rules, places)) (λ p q. grind (arith, places)))

laid_in_file : (bytes buf : List ℕ) (len place : ℕ) → len ≤ length bytes → place + length buf ≤ length bytes → 0 < length buf →
    take (max len (place + length buf)) (pasted (cleared bytes (min len place) place) place buf) ≡ laid (take len bytes) place buf
laid_in_file bytes buf len place h l some =
    let a = length-cleared bytes (min len place) place (omega arith) (omega arith) in
    let b = length-pasted (cleared bytes (min len place) place) place buf (omega arith) in
    let s = size_laid (take len bytes) place buf in
    ext_get_or 0 _ _ (simp length-take (grind (arith, length-take))) (λ p q. let g = get_or-laid (take len bytes) place buf p in grind (arith, places))

wrote_file : (bytes buf : List ℕ) (len place : ℕ) → InRoom bytes len place → place + length buf ≤ room bytes → 0 < length buf →
    Wrote (file bytes len place) (file (pasted (cleared bytes (min len place) place) place buf) (max len (place + length buf)) (place + length buf)) buf (length buf)
wrote_file bytes buf len place ok fits some =
    let a = length-cleared bytes (min len place) place (omega arith) (omega arith) in
    let b = length-pasted (cleared bytes (min len place) place) place buf (omega arith) in
    record { kept = record { limit_same = omega arith; steady_on = λ u. u; held_from = λ p q h. inr (test_at _ p q h) }; fits = fits; count = omega arith; some = λ z. z; shown_laid = laid_in_file bytes buf len place (omega arith) (omega arith) some ∙ ap (laid (take len bytes) place) (sym (take_all (length buf) buf (omega arith))); moved = refl }

-- what write leaves, by the steps that made it
pub after_write : (bytes mid after buf : List ℕ) (len place low top : ℕ) → InRoom bytes len place → place + length buf ≤ room bytes → 0 < length buf →
    low ≡ min len place → mid ≡ cleared bytes low place → after ≡ pasted mid place buf → top ≡ max len (place + length buf) →
    Wrote (file bytes len place) (file after top (place + length buf)) buf (length buf)
after_write bytes mid after buf len place low top ok fits some e₁ e₂ e₃ e₄ = rw (e₄, e₃, e₂, e₁) (wrote_file bytes buf len place ok fits some)

-- ── cutting ──

cut_in_file : (bytes : List ℕ) (len n : ℕ) → len ≤ length bytes → n ≤ length bytes → take n (cleared bytes (min len n) n) ≡ resized (take len bytes) n
cut_in_file bytes len n h l = ext_get_or 0 _ _ (search (rules, places)) (λ p q. grind (arith, places))

pub after_truncate : (bytes after : List ℕ) (len place low n place' : ℕ) (goal : ℤ) → InRoom bytes len place → goal ≡ pos n → n ≤ room bytes →
    low ≡ min len n → after ≡ cleared bytes low n → place' ≡ place → Cut (file bytes len place) (file after n place') goal n
after_truncate bytes after len place low n place' goal ok is fits e₁ e₂ e₃ =
    let a = length-cleared bytes (min len n) n (omega arith) (omega arith) in
    let c : Cut (file bytes len place) (file (cleared bytes (min len n) n) n place) goal n = record { kept = record { limit_same = omega arith; steady_on = λ u. u; held_from = λ p q h. inr (test_at _ p q h) }; goal_is = is; fits = fits; shown_cut = cut_in_file bytes len n (omega arith) (omega arith); position_same = refl } in
    rw (e₃, e₂, e₁) c
